use Rattle.std.proofs.Common.{◌-◌, ◌≤◌, ◌⊎◌, ◌≡◌, length, take}
use Rattle.std.specs.Prelude.{decimal}
use Rattle.dali_gateway.proofs.pieces.number_line.Given as goal

abbrev pub invariant-digits : goal.invariant-digits
invariant-digits l = record {
  within : l.digits ≤ length l.bytes;
  begun : (l.digits ≡ 0) ⊎ ((l.low ≤ l.number) × (l.number ≤ l.high) × (take l.digits l.bytes ≡ decimal l.number));
}

abbrev pub decreases-digits : goal.decreases-digits
decreases-digits l = length l.bytes - l.digits
