use Rattle.std.specs.Prelude.{ℕ, ◌-◌, ◌^◌, ℤ, pos, ◌+ℤ◌, ◌*ℤ◌, List, length}
use Rattle.std.specs.Int.{int_max, int_div_euclid}
use Rattle.dali_problem.specs.declared.mark.Mark.{Mark}
use Rattle.dali_problem.specs.Sums.{sum_below, pick}
use Rattle.dali_problem.specs.Clearing.{Clearing, worth, effect}
use Rattle.dali_problem.specs.Limits.{Within}
use Rattle.dali_problem.specs.Partial.{mark, is_chosen, is_undecided, held}
use Rattle.dali_lagrange.specs.Limits.{scale}

-- the value of place j on the scale of 4,096, with what its effects are worth at these multipliers
abbrev pub reduced : Clearing → (ℕ → ℕ) → ℕ → ℤ
reduced p lam j = pos scale *ℤ pos (worth p j) +ℤ sum_below (λ l. pos (lam l) *ℤ effect p j l) (length p.lines)

-- the values of the chosen, on the scale
abbrev pub values_part : Clearing → List Mark → ℤ
values_part p f = pos scale *ℤ sum_below (λ j. pick (is_chosen (mark f j)) (pos (worth p j))) (length p.items)

-- what each line holds, times its multiplier
abbrev pub multipliers_part : Clearing → List Mark → (ℕ → ℕ) → ℤ
multipliers_part p f lam = sum_below (λ l. pos (lam l) *ℤ held p f l) (length p.lines)

-- each undecided reduced value that is above 0
abbrev pub undecided_part : Clearing → List Mark → (ℕ → ℕ) → ℤ
undecided_part p f lam =
    sum_below (λ j. pick (is_undecided (mark f j)) (int_max (pos 0) (reduced p lam j))) (length p.items)

-- the Sum: its three parts together
unfoldable pub sum_of : Clearing → List Mark → (ℕ → ℕ) → ℤ
sum_of p f lam = values_part p f +ℤ multipliers_part p f lam +ℤ undecided_part p f lam

-- the parts of the Sum are below 2^76, 2^116 and 2^113 in size
pub record ArePartsSmall (p : Clearing) (f : List Mark) (lam : ℕ → ℕ) : Type 0 where
  pub values : Within (2 ^ 76 - 1) (values_part p f)
  pub multipliers : Within (2 ^ 116 - 1) (multipliers_part p f lam)
  pub undecided : Within (2 ^ 113 - 1) (undecided_part p f lam)

-- the bound that a Sum gives, in centavos: the floor of its 4,096th part, also where it is below 0
abbrev pub bound_of : ℤ → ℤ
bound_of s = int_div_euclid s (pos scale)

-- what a place with this mark and this reduced value counts, where each line counts its balance alone
abbrev pub count_of : Mark → ℤ → ℤ
count_of m z = pick (is_chosen m) z +ℤ pick (is_undecided m) (int_max (pos 0) z)
