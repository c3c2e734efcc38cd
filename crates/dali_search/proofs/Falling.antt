use Rattle.std.proofs.Common.{◌≡◌, inl, inr, ℕ, ◌+◌, ◌*◌, ◌<◌, ◌≤◌, ℤ, pos, ◌≤ℤ◌, ◌<ℤ◌, true, not, ◌||◌, List, [], ◌∷◌, length, set, Option, Some, None, if◌then◌else◌, ap, sym, ◌∙◌, subst, arith}
use Rattle.std.proofs.lemmas.Bool.{cases_Bool, cases_eq, cases_lt, and_parts}
use Rattle.std.proofs.lemmas.Int.{ints, clamps}
use Rattle.std.proofs.lemmas.List.{get_or-set_other}
use Rattle.dali_problem.specs.declared.mark.Mark.{Mark}
use Rattle.dali_problem.specs.declared.mark.Mark.TheVariants.{Stranger, Undecided, Chosen, Left}
use Rattle.dali_problem.specs.Clearing.{Clearing, effect}
use Rattle.dali_problem.specs.Partial.{mark, is_undecided}
use Rattle.dali_problem.specs.Rules.{is_short, is_negative, is_covered, all_below}
use Rattle.dali_problem.proofs.RuleTests.{undecided_is}
use Rattle.dali_problem.proofs.SumLaws.{sum_below_le}
use Rattle.dali_tree.specs.declared.fix.Fix.{Fix}
use Rattle.dali_tree.specs.declared.fix.Fix.TheVariants.{Barred, Needed, Safe}
use Rattle.dali_lagrange.specs.Bound.{reduced, sum_of, count_of}
use Rattle.dali_lagrange.specs.Multipliers.{multiplier}
use Rattle.dali_lagrange.proofs.Whole.{lines_and_places}
use Rattle.dali_lagrange.proofs.SettledLaws.{lt_decides, le_decides}
use Rattle.dali_fixes.specs.Fixed.{place_of, becomes, holds, after}
use Rattle.dali_check.specs.Proves.{closes}
use Rattle.dali_check.specs.Lean.{reaches}

-- the tests of a Sum as relations
pub closes_tells : (p : Clearing) (u : ℕ) (lam : List (ℕ × ℕ)) (f : List Mark) → closes p u lam f ≡ true → sum_of p f (multiplier lam) <ℤ pos (4096 * (u + 1))
unfolding closes
closes_tells p u lam f told = (lt_decides (sum_of p f (multiplier lam)) (pos (4096 * (u + 1)))).0 told

pub closes_from : (p : Clearing) (u : ℕ) (lam : List (ℕ × ℕ)) (f : List Mark) → sum_of p f (multiplier lam) <ℤ pos (4096 * (u + 1)) → closes p u lam f ≡ true
unfolding closes
closes_from p u lam f less = (lt_decides (sum_of p f (multiplier lam)) (pos (4096 * (u + 1)))).1 less

pub reaches_tells : (p : Clearing) (u : ℕ) (lam : List (ℕ × ℕ)) (f : List Mark) → reaches p u lam f ≡ true → pos (4096 * u) ≤ℤ sum_of p f (multiplier lam)
unfolding reaches
reaches_tells p u lam f told = (le_decides (pos (4096 * u)) (sum_of p f (multiplier lam))).0 told

pub reaches_from : (p : Clearing) (u : ℕ) (lam : List (ℕ × ℕ)) (f : List Mark) → pos (4096 * u) ≤ℤ sum_of p f (multiplier lam) → reaches p u lam f ≡ true
unfolding reaches
reaches_from p u lam f less = (le_decides (pos (4096 * u)) (sum_of p f (multiplier lam))).1 less

-- a place counts at most what it counts undecided
counted_open : (m : Mark) (z : ℤ) → count_of m z ≤ℤ count_of Undecided z
counted_open Stranger z = omega (arith, ints, clamps)
counted_open Undecided z = omega (arith, ints, clamps)
counted_open Chosen z = omega (arith, ints, clamps)
counted_open Left z = omega (arith, ints, clamps)

counted_set : (f : List Mark) (j i : ℕ) (m : Mark) (z : ℤ) → mark f j ≡ Undecided → count_of (mark (set f j m) i) z ≤ℤ count_of (mark f i) z
counted_set f j i m z was = elim (cases_eq i j) as (λ _. count_of (mark (set f j m) i) z ≤ℤ count_of (mark f i) z) [
  | inl here ↦
      subst (λ (n : Mark). count_of (mark (set f j m) i) z ≤ℤ count_of n z) (sym (ap (mark f) here ∙ was)) (counted_open (mark (set f j m) i) z)
  | inr other ↦
      let same : count_of (mark (set f j m) i) z ≡ count_of (mark f i) z = ap (λ (n : Mark). count_of n z) (get_or-set_other f j i m Stranger other) in
      omega (arith, ints, same)
]

-- a Sum doesn't rise where an undecided place is decided
pub sum_falls : (p : Clearing) (f : List Mark) (j : ℕ) (m : Mark) (lam : ℕ → ℕ) → mark f j ≡ Undecided → sum_of p (set f j m) lam ≤ℤ sum_of p f lam
sum_falls p f j m lam was =
    let before = lines_and_places p f lam in
    let behind = lines_and_places p (set f j m) lam in
    let each = sum_below_le (λ i. count_of (mark (set f j m) i) (reduced p lam i)) (λ i. count_of (mark f i) (reduced p lam i)) (length p.items)
    (λ i below. counted_set f j i m (reduced p lam i) was) in
    omega (arith, ints, before, behind, each)

pub closes_set : (p : Clearing) (w : ℕ) (lam : List (ℕ × ℕ)) (f : List Mark) (j : ℕ) (m : Mark) → mark f j ≡ Undecided →
    closes p w lam f ≡ true → closes p w lam (set f j m) ≡ true
closes_set p w lam f j m was told =
    let less = closes_tells p w lam f told in
    let falls = sum_falls p f j m (multiplier lam) was in
    closes_from p w lam (set f j m) (omega (arith, ints, less, falls))

-- the place of a fix that holds is undecided
pub fix_undecided : (p : Clearing) (f : List Mark) (fix : Fix) → holds p f fix ≡ true → mark f (place_of fix) ≡ Undecided
unfolding holds
fix_undecided p f (Barred j l) told = undecided_is (mark f j) (and_parts (is_undecided (mark f j)) (is_short p (set f j Chosen) l) told).0
fix_undecided p f (Needed j l) told = undecided_is (mark f j) (and_parts (is_undecided (mark f j)) (is_short p (set f j Left) l) told).0
fix_undecided p f (Safe j) told = undecided_is (mark f j)
    (and_parts (is_undecided (mark f j)) (all_below (λ l. not (is_negative (effect p j l)) || is_covered p f l) (length p.lines)) told).0

some_is : (f g : List Mark) → Some f ≡ Some g → f ≡ g
some_is f g is = cc

none_some : (g : List Mark) → None ≡ Some g → ⊥
none_some g is = cc

pub some_same : (o : Option (List Mark)) (f g : List Mark) → o ≡ Some f → o ≡ Some g → f ≡ g
some_same o f g one two = some_is f g (sym one ∙ two)

-- a fix that holds, and those behind it
pub record Taken (p : Clearing) (fix : Fix) (fixes : List Fix) (f g : List Mark) : Type 0 where
  pub undecided : mark f (place_of fix) ≡ Undecided
  pub rest : after p fixes (set f (place_of fix) (becomes fix)) ≡ Some g

pub taken_of : (p : Clearing) (fix : Fix) (fixes : List Fix) (f g : List Mark) → after p (fix ∷ fixes) f ≡ Some g → Taken p fix fixes f g
taken_of p fix fixes f g leads = elim (cases_Bool (holds p f fix)) as (λ _. Taken p fix fixes f g) [
  | inl told ↦ record {
    undecided = fix_undecided p f fix told;
    rest = sym (ap (λ b. if b then after p fixes (set f (place_of fix) (becomes fix)) else None) told) ∙ leads;
  }
  | inr refused ↦ absurd (none_some g (sym (ap (λ b. if b then after p fixes (set f (place_of fix) (becomes fix)) else None) refused) ∙ leads))
]

pub closes_after : (p : Clearing) (w : ℕ) (lam : List (ℕ × ℕ)) (fixes : List Fix) (f g : List Mark) → after p fixes f ≡ Some g →
    closes p w lam f ≡ true → closes p w lam g ≡ true
closes_after p w lam [] f g leads told = subst (λ (h : List Mark). closes p w lam h ≡ true) (some_is f g leads) told
closes_after p w lam (fix ∷ fixes) f g leads told =
    let taken = taken_of p fix fixes f g leads in
    closes_after p w lam fixes (set f (place_of fix) (becomes fix)) g taken.rest
    (closes_set p w lam f (place_of fix) (becomes fix) taken.undecided told)

-- the bound of multipliers rises with what it is compared to
pub closes_more : (p : Clearing) (u w : ℕ) (lam : List (ℕ × ℕ)) (f : List Mark) → u ≤ w → closes p u lam f ≡ true → closes p w lam f ≡ true
closes_more p u w lam f more told = closes_from p w lam f (omega (arith, ints, more, closes_tells p u lam f told))

pub reaches_less : (p : Clearing) (u w : ℕ) (lam : List (ℕ × ℕ)) (f : List Mark) → w ≤ u → reaches p u lam f ≡ true → reaches p w lam f ≡ true
reaches_less p u w lam f less told = reaches_from p w lam f (omega (arith, ints, less, reaches_tells p u lam f told))

pub bound_at_most : (p : Clearing) (bound w : ℕ) (lam : List (ℕ × ℕ)) (f : List Mark) → (0 < bound → reaches p bound lam f ≡ true) → closes p w lam f ≡ true → bound ≤ w
bound_at_most p bound w lam f least told = elim (cases_lt 0 bound) as (λ _. bound ≤ w) [
  | inl some ↦ omega (arith, ints, reaches_tells p bound lam f (least some), closes_tells p w lam f told)
  | inr none ↦ omega (arith, none)
]
