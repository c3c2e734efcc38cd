use Rattle.std.proofs.Common.{◌≡◌, ℕ, false, take, get_or}
use Rattle.std.specs.List.{list_any}
use Rattle.dali_tree.specs.declared.choice.Part.{Part}
use Rattle.dali_check.specs.Parts.{changes}
use Rattle.dali_check.proofs.Parting.{Apart}
use Rattle.dali_check.proofs.apart.lines_apart.Given as goal

abbrev pub invariant-loop-part : goal.invariant-loop-part
invariant-loop-part l = record {
  marked : (k : ℕ) → get_or l.marks k false ≡ list_any (λ (part : Part). changes l.problem part k) (take l.part-index l.parts);
  apart : Apart (changes l.problem) (take l.part-index l.parts);
}
