use Rattle.std.proofs.Common.{◌≡◌, take, length}
use Rattle.dali_parts.specs.Joined.{AreChosen}
use Rattle.dali_parts.proofs.solving.choose.Given as goal

abbrev pub invariant-loop-number : goal.invariant-loop-number
invariant-loop-number l = record {
  so_far : AreChosen l.members (take l.number-index l.numbers) l.initial.chosen l.chosen;
  size : length l.chosen ≡ length l.initial.chosen;
}
