use Rattle.std.specs.Prelude.{ℕ, ◌<◌, ◌≤◌, IsTrue, length}
use Rattle.dali_base.specs.Limits.{most_budget, most_balance, most_worth, most_bound}
use Rattle.dali_base.specs.Spelling.{is_name}
use Rattle.dali_problem.specs.Limits.{AreEffects}
use Rattle.dali_tree.specs.Fits.{fix_fits, lam_fits, AreRising}
use Rattle.dali_cert_print.specs.declared.row.Row.{Row}
use Rattle.dali_cert_print.specs.declared.row.Row.TheVariants as rows

-- what a row may name in a problem of so many items and lines
abbrev pub IsRow : ℕ → ℕ → Row → Type 0
IsRow items lines (rows.Block wide) = Unit {0}
IsRow items lines (rows.Budget budget) = budget ≤ most_budget
IsRow items lines (rows.Line line) = IsTrue (is_name line.account) × IsTrue (is_name line.asset) × (line.balance ≤ most_balance)
IsRow items lines (rows.Item id value effects) = IsTrue (is_name id) × (1 ≤ value) × (value ≤ most_worth) × AreEffects lines effects
IsRow items lines (rows.Set places) = AreRising items places
IsRow items lines (rows.Part bound members) = (bound ≤ most_bound) × (0 < length members) × AreRising items members
IsRow items lines (rows.Fix fix) = IsTrue (fix_fits items lines fix)
IsRow items lines (rows.Bound lam) = IsTrue (lam_fits lines lam)
IsRow items lines (rows.Short line) = line < lines
IsRow items lines (rows.Branch place lam) = (place < items) × IsTrue (lam_fits lines lam)
IsRow items lines rows.Last = Unit {0}
