use Rattle.std.proofs.Common.{◌≡◌, ◌-◌, take, length}
use Rattle.dali_check.specs.Parts.{branchings_of}
use Rattle.dali_parts.specs.Joined.{AreSearched, AreFree}
use Rattle.dali_parts.proofs.solving.search_all.Given as goal

abbrev pub invariant-loop-at : goal.invariant-loop-at
invariant-loop-at l = record {
  searched : AreSearched l.problem l.budget (take l.at l.lists) l.chosen l.parts.items;
  left : l.left ≡ l.budget - branchings_of l.parts.items;
  free : AreFree l.lists l.at l.chosen;
  size : length l.chosen ≡ length l.initial.chosen;
}
