use Rattle.std.proofs.Common.{◌≡◌, inl, inr, ℕ, suc, ◌+◌, ◌-◌, ◌<◌, ◌≤◌, ◌^◌, ℤ, ◌≤ℤ◌, ◌<ℤ◌, Bool, true, false, List, get_or, refl, subst, arith}
use Rattle.std.proofs.lemmas.Bool.{cases_lt}
use Rattle.std.proofs.lemmas.Int.{ints, by_lt_z}
use Rattle.dali_problem.specs.declared.mark.Mark.{Mark}
use Rattle.dali_problem.specs.Clearing.{Clearing}
use Rattle.dali_lagrange.specs.Best.{sum_with, IsBestAt, FallsTo, RisesFrom}
use Rattle.dali_lagrange.specs.KeptSum.{KeptSum, IsSumOf}
use Rattle.dali_lagrange.specs.Still.{IsStillAt}
use Rattle.dali_lagrange.proofs.Bends.{convex_with, rises_from, falls_to, climb, descend}
use Rattle.dali_lagrange.proofs.Gains.{still_from_best}
use Rattle.dali_lagrange.proofs.KeptLaws.{sum_with_own}

-- what a test tells where it fails
pub falls_told : (a b : ℤ) (told : Bool) → (a ≤ℤ b → told ≡ true) → told ≡ false → b <ℤ a
falls_told a b told up fails = by_lt_z {P = b <ℤ a} b a (λ falls. falls) (λ le. absurd (let yes : told ≡ true = up le in cc (yes, fails)))

-- one step decides for all behind it, or for all before it
pub rises_with : (p : Clearing) (f : List Mark) (point : List ℕ) (l m : ℕ) → sum_with p f point l m ≤ℤ sum_with p f point l (m + 1) → RisesFrom p f point l m
rises_with p f point l m up =
    record { rises = λ x past below. rises_from (sum_with p f point l) m (convex_with p f point l) up x past }

pub falls_with : (p : Clearing) (f : List Mark) (point : List ℕ) (l m : ℕ) → sum_with p f point l (m + 1) <ℤ sum_with p f point l m → FallsTo p f point l (m + 1)
falls_with p f point l m down =
    record { falls = λ x below. falls_to (sum_with p f point l) m (convex_with p f point l) down x (omega (arith, below)) }

-- where it falls up to a number and rises from there, that number is the best
pub best_of : (p : Clearing) (f : List Mark) (point : List ℕ) (l m : ℕ) → m ≤ 2 ^ 44 → FallsTo p f point l m → RisesFrom p f point l m → IsBestAt p f point l m
best_of p f point l m within before behind =
    let down : (x : ℕ) → x < m → sum_with p f point l m <ℤ sum_with p f point l x = λ x below.
    (let is : x + suc (m - x - 1) ≡ m = omega (arith, below) in
    subst (λ k. sum_with p f point l k <ℤ sum_with p f point l x) is
    (descend (sum_with p f point l) x (m - x - 1) (λ y less. before.falls y (omega (arith, is, less))))) in
    record {
      within = within;
      least = λ x most. elim (cases_lt x m) as (λ _. sum_with p f point l m ≤ℤ sum_with p f point l x) [
        | inl below ↦ (let lower = down x below in omega (arith, ints, lower))
        | inr past ↦
            let is : m + (x - m) ≡ x = omega (arith, past) in
            subst (λ k. sum_with p f point l m ≤ℤ sum_with p f point l k) is
            (climb (sum_with p f point l) m (x - m) (2 ^ 44) (λ y above less. behind.rises y above less) (omega (arith, is, most)))
      ];
      first = down;
    }

-- where a line has its best multiplier, none gives a gain
pub still_own : (p : Clearing) (k : KeptSum) (l m : ℕ) → IsSumOf p k → m ≡ get_or k.multipliers l 0 → IsBestAt p k.marks k.multipliers l m →
    IsStillAt p k.marks k.multipliers k.total l
still_own p k l m of is best =
    still_from_best p k.marks k.multipliers k.total l m best (λ gain.
    let own = sum_with_own p k.marks k.multipliers l in
    let at = subst (λ (n : ℕ). sum_with p k.marks k.multipliers l n ≡ sum_with p k.marks k.multipliers l m) is refl in
    absurd (omega (arith, ints, gain.smaller, own, at, of.total)))
