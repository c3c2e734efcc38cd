use Rattle.std.specs.Prelude.{ℕ, ◌+◌, ◌==◌, ℤ, pos, ◌-ℤ◌, ◌*ℤ◌, Bool, IsTrue, ◌&&◌, ◌||◌, not, List, length, if◌then◌else◌}
use Rattle.std.specs.Int.Signed.{lt_z, le_z}
use Rattle.dali_base.specs.Limits.{most_multiplier}
use Rattle.dali_problem.specs.declared.mark.Mark.{Mark}
use Rattle.dali_problem.specs.Clearing.{Clearing}
use Rattle.dali_problem.specs.Rules.{all_below}
use Rattle.dali_lagrange.specs.Bound.{sum_of}
use Rattle.dali_lagrange.specs.Limits.{scale, gain_parts}

-- the multipliers lam, with x on line l
abbrev pub changed : (ℕ → ℕ) → ℕ → ℕ → ℕ → ℕ
changed lam l x k = if k == l then x else lam k

-- the Sum goes from old to new: it falls, and by a 1,024th part of old at least
abbrev pub is_gain : ℤ → ℤ → Bool
is_gain old new = lt_z new old && le_z old (pos gain_parts *ℤ (old -ℤ new))

-- no multiplier of line l, from 0 to the greatest, gives a gain
unfoldable pub is_still_at : Clearing → List Mark → (ℕ → ℕ) → ℕ → Bool
is_still_at p f lam l = all_below (λ x. not (is_gain (sum_of p f lam) (sum_of p f (changed lam l x)))) (most_multiplier + 1)

-- the Sum isn't above the one with all multipliers 0, and it is below 4,096 or no multiplier of any line gives a gain
unfoldable pub is_settled : Clearing → List Mark → (ℕ → ℕ) → Bool
is_settled p f lam =
    le_z (sum_of p f lam) (sum_of p f (λ _. 0))
    && (lt_z (sum_of p f lam) (pos scale) || all_below (is_still_at p f lam) (length p.lines))

abbrev pub IsSettled : Clearing → List Mark → (ℕ → ℕ) → Type 0
IsSettled p f lam = IsTrue (is_settled p f lam)
