use Rattle.std.proofs.Common.{◌≡◌, take}
use Rattle.dali_gateway.proofs.pieces.agreeing.Given as goal

abbrev pub invariant-loop-at : goal.invariant-loop-at
invariant-loop-at l = take l.at l.bytes ≡ take l.at l.word
