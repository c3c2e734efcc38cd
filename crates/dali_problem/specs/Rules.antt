use Rattle.std.specs.Prelude.{ℕ, zero, suc, ℤ, pos, ◌+ℤ◌, Bool, true, ◌&&◌, ◌||◌, not, List, length, slice_set}
use Rattle.std.specs.Int.{int_max, int_min}
use Rattle.std.specs.Int.Signed.{lt_z}
use Rattle.dali_problem.specs.declared.mark.Mark.{Mark}
use Rattle.dali_problem.specs.declared.mark.Mark.TheVariants.{Chosen, Left}
use Rattle.dali_problem.specs.Sums.{sum_below, pick}
use Rattle.dali_problem.specs.Clearing.{Clearing, effect}
use Rattle.dali_problem.specs.Partial.{mark, is_undecided, held}

abbrev pub is_negative : ℤ → Bool
is_negative z = lt_z z (pos 0)

-- all positive effects of undecided members on line l
abbrev pub credits : Clearing → List Mark → ℕ → ℤ
credits p f l = sum_below (λ j. pick (is_undecided (mark f j)) (int_max (pos 0) (effect p j l))) (length p.items)

-- all negative effects of undecided members on line l
abbrev pub debits : Clearing → List Mark → ℕ → ℤ
debits p f l = sum_below (λ j. pick (is_undecided (mark f j)) (int_min (pos 0) (effect p j l))) (length p.items)

-- whatever is chosen, line l stays negative
abbrev pub is_short : Clearing → List Mark → ℕ → Bool
is_short p f l = is_negative (held p f l +ℤ credits p f l)

-- undecided j can't be chosen: line l would be short
abbrev pub is_barred : Clearing → List Mark → ℕ → ℕ → Bool
is_barred p f j l = is_undecided (mark f j) && is_short p (slice_set f j Chosen) l

-- undecided j can't be left: line l would be short
abbrev pub is_needed : Clearing → List Mark → ℕ → ℕ → Bool
is_needed p f j l = is_undecided (mark f j) && is_short p (slice_set f j Left) l

-- line l pays all that undecided members may take from it
abbrev pub is_covered : Clearing → List Mark → ℕ → Bool
is_covered p f l = not (is_negative (held p f l +ℤ debits p f l))

-- the test holds for each number below n
abbrev pub all_below : (ℕ → Bool) → ℕ → Bool
all_below test zero = true
all_below test (suc n) = test n && all_below test n

-- each line that undecided j debits is covered
abbrev pub is_safe : Clearing → List Mark → ℕ → Bool
is_safe p f j = is_undecided (mark f j)
    && all_below (λ l. not (is_negative (effect p j l)) || is_covered p f l) (length p.lines)
