use Rattle.std.proofs.Common.{◌≡◌, ◌-◌, ◌≤◌, ◌++◌, length, take}
use Rattle.dali_gateway.proofs.gate.GateSource.take.Given as goal

abbrev pub invariant-pieces : goal.invariant-pieces
invariant-pieces l = record {
  within : l.filled ≤ length l.into;
  inboxes : l.self.inboxes ≡ l.fn.self.inboxes;
  turns : l.self.turns ≡ l.fn.self.turns;
  moved : l.fn.self.left ≡ take l.filled l.into ++ l.self.left;
}

abbrev pub decreases-pieces : goal.decreases-pieces
decreases-pieces l = length l.into - l.filled
