use Rattle.std.specs.Prelude.{◌≡◌, ◌≢◌, ℕ, ◌+◌, ◌<◌, ◌≤◌, ℤ, pos, neg_ℤ, ◌≤ℤ◌, ◌⊎◌, List, length, sum_by}
use Rattle.std.specs.List.{All, AllPairs}
use Rattle.std.specs.Ordering.{nat_cmp}
use Rattle.std.specs.Cmp.Lexicographic.{slice_cmp}
use Rattle.std.specs.declared.cmp.Ordering.TheVariants.{Less}
use Rattle.dali_base.specs.Limits.{most_balance, most_lines, most_items, most_effects, most_effect, most_worth, most_worths}
use Rattle.dali_problem.specs.declared.row.LineRow.{LineRow}
use Rattle.dali_problem.specs.declared.row.Effect.{Effect}
use Rattle.dali_problem.specs.Clearing.{Item, Clearing, line_at}

-- z is at most m in size
pub record Within (m : ℕ) (z : ℤ) : Type 0 where
  pub low : neg_ℤ (pos m) ≤ℤ z
  pub high : z ≤ℤ pos m

-- in byte order of account, then of asset
abbrev pub IsBefore : LineRow → LineRow → Type 0
IsBefore a b = (slice_cmp nat_cmp a.account b.account ≡ Less)
    ⊎ ((a.account ≡ b.account) × (slice_cmp nat_cmp a.asset b.asset ≡ Less))

-- effects on rising lines, of n lines in all: not too many, none of 0 and none too great in size
pub record AreEffects (n : ℕ) (effects : List Effect) : Type 0 where
  pub size : length effects ≤ most_effects
  pub rising : AllPairs (λ a b. a.line < b.line) effects
  pub in_range : All (λ e. e.line < n) effects
  pub not_zero : All (λ e. e.amount ≢ pos 0) effects
  pub bounded : All (λ e. Within most_effect e.amount) effects

-- an item of a problem of n lines
pub record IsItem (n : ℕ) (item : Item) : Type 0 where
  pub value_low : 1 ≤ item.value
  pub value_high : item.value ≤ most_worth
  pub effects : AreEffects n item.effects

-- what a problem is, within the limits of `specs/Limits.antt` of dali_base
pub record IsProblem (p : Clearing) : Type 0 where
  pub lines : length p.lines ≤ most_lines
  pub balances : All (λ row. row.balance ≤ most_balance) p.lines
  pub ordered : (k : ℕ) → k + 1 < length p.lines → IsBefore (line_at p k) (line_at p (k + 1))
  pub items : length p.items ≤ most_items
  pub ids : AllPairs (λ a b. a.id ≢ b.id) p.items
  pub each : All (IsItem (length p.lines)) p.items
  pub total : sum_by (λ item. item.value) p.items ≤ most_worths
