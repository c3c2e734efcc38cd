use Rattle.std.proofs.Common.{◌≡◌, ℕ, ℤ, ◌+ℤ◌, ◌-ℤ◌, ◌≤ℤ◌, List, get_or, set, ap, ◌∙◌, arith}
use Rattle.std.proofs.lemmas.Int.{ints}
use Rattle.dali_problem.specs.declared.mark.Mark.{Mark}
use Rattle.dali_problem.specs.Clearing.{Clearing}
use Rattle.dali_lagrange.specs.Best.{sum_with, IsBestAt}
use Rattle.dali_lagrange.specs.Bound.{sum_of}
use Rattle.dali_lagrange.specs.KeptSum.{KeptSum, IsSumOf}
use Rattle.dali_lagrange.specs.Still.{IsGain, IsStillAt}
use Rattle.dali_lagrange.proofs.KeptLaws.{sum_with_own}

-- a smaller Sum gains more
gain_more : (old a b : ℤ) → a ≤ℤ b → IsGain old b → IsGain old a
gain_more old a b le gain = record { smaller = omega (arith, ints, gain.smaller, le); enough = omega (arith, ints, gain.enough, le) }

-- where the best number gives no gain, none does
pub still_from_best : (p : Clearing) (f : List Mark) (point : List ℕ) (old : ℤ) (l best : ℕ) → IsBestAt p f point l best →
    ¬ (IsGain old (sum_with p f point l best)) → IsStillAt p f point old l
still_from_best p f point old l best is not_best =
    record { no_gain = λ x most gain. not_best (gain_more old (sum_with p f point l best) (sum_with p f point l x) (is.least x most) gain) }

-- the Sum that is kept, with a rise added to it
pub after_rise : (p : Clearing) (k : KeptSum) (l from to : ℕ) (r : ℤ) → IsSumOf p k → from ≡ get_or k.multipliers l 0 →
    r ≡ sum_with p k.marks k.multipliers l to -ℤ sum_with p k.marks k.multipliers l from →
    k.total +ℤ r ≡ sum_with p k.marks k.multipliers l to
after_rise p k l from to r of at is =
    let own : sum_with p k.marks k.multipliers l from ≡ sum_of p k.marks (λ i. get_or k.multipliers i 0) =
    ap (sum_with p k.marks k.multipliers l) at ∙ sum_with_own p k.marks k.multipliers l in
    omega (arith, ints, is, own, of.total)

-- what is kept after a line's multiplier is set
pub total_set : (p : Clearing) (a b : KeptSum) (l to : ℕ) → IsSumOf p b → b.marks ≡ a.marks → b.multipliers ≡ set a.multipliers l to →
    b.total ≡ sum_with p a.marks a.multipliers l to
unfolding sum_with
total_set p a b l to of marks multipliers =
    of.total ∙ ap (λ (f : List Mark). sum_of p f (λ i. get_or b.multipliers i 0)) marks
    ∙ ap (λ (ms : List ℕ). sum_of p a.marks (λ i. get_or ms i 0)) multipliers
