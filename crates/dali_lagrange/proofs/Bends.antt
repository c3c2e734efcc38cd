use Rattle.std.proofs.Common.{◌≡◌, inl, inr, ℕ, zero, suc, ◌+◌, ◌-◌, ◌<◌, ◌≤◌, ℤ, pos, ◌+ℤ◌, ◌*ℤ◌, ◌≤ℤ◌, ◌<ℤ◌, List, length, get_or, set, ap, sym, subst, ◌∙◌, arith, zero-add, add-zero}
use Rattle.std.proofs.lemmas.Int.{ints, clamps, by_lt_z}
use Rattle.std.proofs.lemmas.Bool.{cases_eq, cases_lt}
use Rattle.std.proofs.lemmas.List.{get_or-set_same, get_or-set_other, set_past}
use Rattle.dali_problem.specs.declared.mark.Mark.{Mark}
use Rattle.dali_problem.specs.declared.mark.Mark.TheVariants.{Stranger, Undecided, Chosen, Left}
use Rattle.dali_problem.specs.Sums.{sum_below}
use Rattle.dali_problem.specs.Clearing.{Clearing, balance, effect}
use Rattle.dali_problem.specs.Partial.{mark}
use Rattle.dali_lagrange.specs.Bound.{reduced, sum_of, count_of}
use Rattle.dali_lagrange.specs.Best.{sum_with}
use Rattle.dali_lagrange.proofs.Whole.{lines_and_places}

-- steps that are all the same
pub record IsStraight (h : ℕ → ℤ) : Type 0 where
  pub step : (x : ℕ) → h (x + 1) +ℤ h (x + 1) ≡ h x +ℤ h (x + 1 + 1)

-- steps that never fall
pub record IsConvex (h : ℕ → ℤ) : Type 0 where
  pub bend : (x : ℕ) → (h (x + 1) +ℤ h (x + 1)) ≤ℤ (h x +ℤ h (x + 1 + 1))

straight_sum : (g : ℕ → ℕ → ℤ) (n : ℕ) → ((k : ℕ) → k < n → IsStraight (λ x. g x k)) → IsStraight (λ x. sum_below (g x) n)
straight_sum g zero each = record { step = λ x. omega (arith, ints) }
straight_sum g (suc n) each =
    let last = each n (omega arith) in
    let rest = straight_sum g n (λ k below. each k (omega arith)) in
    record { step = λ x. omega (arith, ints, last.step x, rest.step x) }

convex_sum : (g : ℕ → ℕ → ℤ) (n : ℕ) → ((k : ℕ) → k < n → IsConvex (λ x. g x k)) → IsConvex (λ x. sum_below (g x) n)
convex_sum g zero each = record { bend = λ x. omega (arith, ints) }
convex_sum g (suc n) each =
    let last = each n (omega arith) in
    let rest = convex_sum g n (λ k below. each k (omega arith)) in
    record { bend = λ x. omega (arith, ints, last.bend x, rest.bend x) }

-- one more times a number
more_times : (x : ℕ) (b : ℤ) → pos (x + 1) *ℤ b ≡ pos x *ℤ b +ℤ b
more_times x b = grind (arith, ints)

still : (h : ℕ → ℤ) (v : ℤ) → ((x : ℕ) → h x ≡ v) → IsStraight h
still h v same = record { step = λ x. omega (arith, ints, same x, same (x + 1), same (x + 1 + 1)) }

-- one line's multiplier times a number, as the multiplier of line l moves
straight_term : (point : List ℕ) (l k : ℕ) (b : ℤ) → IsStraight (λ x. pos (get_or (set point l x) k 0) *ℤ b)
straight_term point l k b = elim (cases_eq k l) as (λ _. IsStraight (λ x. pos (get_or (set point l x) k 0) *ℤ b)) [
  | inl at ↦ elim (cases_lt l (length point)) as (λ _. IsStraight (λ x. pos (get_or (set point l x) k 0) *ℤ b)) [
    | inl within ↦
        let is : (x : ℕ) → pos (get_or (set point l x) k 0) *ℤ b ≡ pos x *ℤ b =
        λ x. ap (λ n. pos n *ℤ b) (ap (λ i. get_or (set point l x) i 0) at ∙ get_or-set_same point l x 0 within) in
        record { step = λ x. omega (arith, ints, is x, is (x + 1), is (x + 1 + 1), more_times x b, more_times (x + 1) b) }
    | inr past ↦
        still (λ x. pos (get_or (set point l x) k 0) *ℤ b) (pos (get_or point k 0) *ℤ b)
        (λ x. ap (λ ms. pos (get_or ms k 0) *ℤ b) (set_past point l x past))
  ]
  | inr off ↦
      still (λ x. pos (get_or (set point l x) k 0) *ℤ b) (pos (get_or point k 0) *ℤ b)
      (λ x. ap (λ n. pos n *ℤ b) (get_or-set_other point l k x 0 off))
]

-- what a place counts bends upwards
convex_counted : (m : Mark) (h : ℕ → ℤ) → IsStraight h → IsConvex (λ x. count_of m (h x))
convex_counted Stranger h straight = record { bend = λ x. omega (arith, ints) }
convex_counted Left h straight = record { bend = λ x. omega (arith, ints) }
convex_counted Chosen h straight = record { bend = λ x. omega (arith, ints, straight.step x) }
convex_counted Undecided h straight = record { bend = λ x. omega (arith, ints, clamps, straight.step x) }

straight_reduced : (p : Clearing) (point : List ℕ) (l j : ℕ) → IsStraight (λ x. reduced p (λ k. get_or (set point l x) k 0) j)
straight_reduced p point l j =
    let sums = straight_sum (λ x k. pos (get_or (set point l x) k 0) *ℤ effect p j k) (length p.lines)
    (λ k below. straight_term point l k (effect p j k)) in
    record { step = λ x. omega (arith, ints, sums.step x) }

-- the Sum bends upwards in one multiplier
pub convex_with : (p : Clearing) (f : List Mark) (point : List ℕ) (l : ℕ) → IsConvex (sum_with p f point l)
unfolding sum_with
convex_with p f point l =
    let lines = straight_sum (λ x k. pos (get_or (set point l x) k 0) *ℤ balance p k) (length p.lines)
    (λ k below. straight_term point l k (balance p k)) in
    let places = convex_sum (λ x j. count_of (mark f j) (reduced p (λ k. get_or (set point l x) k 0) j)) (length p.items)
    (λ j below. convex_counted (mark f j) (λ x. reduced p (λ k. get_or (set point l x) k 0) j) (straight_reduced p point l j)) in
    let is : (x : ℕ) → sum_below (λ k. pos (get_or (set point l x) k 0) *ℤ balance p k) (length p.lines)
    +ℤ sum_below (λ j. count_of (mark f j) (reduced p (λ k. get_or (set point l x) k 0) j)) (length p.items)
    ≡ sum_of p f (λ k. get_or (set point l x) k 0) =
    λ x. lines_and_places p f (λ k. get_or (set point l x) k 0) in
    record { bend = λ x. omega (arith, ints, is x, is (x + 1), is (x + 1 + 1), lines.step x, places.bend x) }

-- where it rises once, it rises from there on
rise_on : (h : ℕ → ℤ) (m n : ℕ) → IsConvex h → h m ≤ℤ h (m + 1) → h (n + m) ≤ℤ h (n + m + 1)
rise_on h m zero convex here = subst (λ k. h k ≤ℤ h (k + 1)) (sym (zero-add m)) here
rise_on h m (suc n) convex here =
    let before = rise_on h m n convex here in
    let bend = convex.bend (n + m) in
    let more : suc n + m ≡ n + m + 1 = omega arith in
    subst (λ k. h k ≤ℤ h (k + 1)) (sym more) (omega (arith, ints, before, bend))

pub rises_from : (h : ℕ → ℤ) (m : ℕ) → IsConvex h → h m ≤ℤ h (m + 1) → (x : ℕ) → m ≤ x → h x ≤ℤ h (x + 1)
rises_from h m convex here x past =
    let is : x - m + m ≡ x = omega arith in
    subst (λ k. h k ≤ℤ h (k + 1)) is (rise_on h m (x - m) convex here)

-- where it falls once, it falls up to there
pub falls_to : (h : ℕ → ℤ) (m : ℕ) → IsConvex h → h (m + 1) <ℤ h m → (x : ℕ) → x ≤ m → h (x + 1) <ℤ h x
falls_to h m convex here x before = by_lt_z {P = h (x + 1) <ℤ h x} (h (x + 1)) (h x)
    (λ falls. falls)
    (λ up.
    let there : h m ≤ℤ h (m + 1) = rises_from h x convex up m before in
    absurd (omega (arith, ints, there, here)))

pub climb : (h : ℕ → ℤ) (a n most : ℕ) → ((x : ℕ) → a ≤ x → x < most → h x ≤ℤ h (x + 1)) → a + n ≤ most → h a ≤ℤ h (a + n)
climb h a zero most rises within = subst (λ k. h a ≤ℤ h k) (sym (add-zero a)) (omega (arith, ints))
climb h a (suc n) most rises within =
    let before = climb h a n most rises (omega arith) in
    let step = rises (a + n) (omega arith) (omega arith) in
    let more : a + suc n ≡ a + n + 1 = omega arith in
    subst (λ k. h a ≤ℤ h k) (sym more) (omega (arith, ints, before, step))

pub descend : (h : ℕ → ℤ) (a n : ℕ) → ((x : ℕ) → x < a + suc n → h (x + 1) <ℤ h x) → h (a + suc n) <ℤ h a
descend h a zero falls =
    let step = falls a (omega arith) in
    let one : a + suc zero ≡ a + 1 = omega arith in
    subst (λ k. h k <ℤ h a) (sym one) step
descend h a (suc n) falls =
    let before = descend h a n (λ x below. falls x (omega arith)) in
    let step = falls (a + suc n) (omega arith) in
    let more : a + suc (suc n) ≡ a + suc n + 1 = omega arith in
    subst (λ k. h k <ℤ h a) (sym more) (omega (arith, ints, before, step))
