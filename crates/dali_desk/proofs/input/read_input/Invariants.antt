use Rattle.std.proofs.Common.{◌≡◌, ◌+◌, ◌-◌, length}
use Rattle.dali_desk.specs.Input.{Gathers}
use Rattle.dali_desk.proofs.input.read_input.Given as goal

abbrev pub invariant-pieces : goal.invariant-pieces
invariant-pieces g l = record {
  gathers : Gathers g.S.Source.tells l.most (g.S.Source.feed l.fn.source) l.bytes (g.S.Source.feed l.source);
  room : length l.piece.items ≡ 65536;
}

abbrev pub decreases-pieces : goal.decreases-pieces
decreases-pieces g l = (l.most + 1) - length l.bytes
