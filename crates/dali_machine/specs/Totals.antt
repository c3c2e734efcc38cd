use Rattle.std.specs.Prelude.{◌≡◌, ℕ, ℤ, pos, neg_ℤ, ◌+ℤ◌, List}
use Rattle.dali_base.specs.Readers.{same_bytes}
use Rattle.dali_account.specs.Book.{BookRecord, total_of}
use Rattle.dali_problem.specs.Sums.{pick}
use Rattle.dali_line.specs.declared.command.Verb.{Verb}
use Rattle.dali_line.specs.declared.command.Verb.TheVariants.{Issue, Draw}
use Rattle.dali_machine.specs.declared.judged.Judged.{Judged}
use Rattle.dali_machine.specs.declared.judged.Judged.TheVariants as judgements

-- what an accepted verb adds to the total of an asset: ISSUE adds its quantity to its asset's, DRAW takes its quantity
-- from its asset's, and nothing else changes a total
abbrev pub total_change : Verb → List ℕ → ℤ
total_change (Issue account asset n) q = pick (same_bytes asset q) (pos n)
total_change (Draw account asset n) q = pick (same_bytes asset q) (neg_ℤ (pos n))
total_change _ q = pos 0

-- what a judged line adds: a refused one nothing
abbrev pub judged_change : Judged → List ℕ → ℤ
judged_change (judgements.Yes t verb) q = total_change verb q
judged_change _ q = pos 0

-- every asset's total changes by what the judged line adds to it, and by nothing else
pub record KeepsTotals (judged : Judged) (old new : BookRecord) : Type 0 where
  pub totals : (asset : List ℕ) → pos (total_of new asset) ≡ pos (total_of old asset) +ℤ judged_change judged asset
