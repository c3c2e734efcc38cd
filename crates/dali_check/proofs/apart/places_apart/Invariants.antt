use Rattle.std.proofs.Common.{◌≡◌, ℕ, false, take, get_or}
use Rattle.dali_problem.specs.Feasible.{has}
use Rattle.dali_tree.specs.declared.choice.Part.{Part}
use Rattle.dali_check.specs.Parts.{some_has}
use Rattle.dali_check.proofs.Parting.{Apart}
use Rattle.dali_check.proofs.apart.places_apart.Given as goal

abbrev pub invariant-loop-part : goal.invariant-loop-part
invariant-loop-part l = record {
  marked : (j : ℕ) → get_or l.marks j false ≡ some_has (take l.part-index l.parts) j;
  apart : Apart (λ (part : Part). has part.members) (take l.part-index l.parts);
}
