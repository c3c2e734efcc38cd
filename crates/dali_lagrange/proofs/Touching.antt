use Rattle.std.proofs.Common.{◌≡◌, ◌≢◌, inl, inr, ℕ, zero, suc, ◌<◌, ◌≤◌, ◌^◌, ℤ, pos, Bool, true, false, List, [], ◌∷◌, length, eqb, refl, ap, sym, ◌∙◌, subst, arith, length-append}
use Rattle.std.specs.List.{All}
use Rattle.std.specs.Ordering.{int_eq}
use Rattle.std.specs.Prelude.{if◌then◌else◌}
use Rattle.std.proofs.lemmas.Int.{ints}
use Rattle.std.proofs.lemmas.Bool.Decides.{eqb_tells, Decides-int_eq}
use Rattle.std.proofs.lemmas.List.Elements.{All-append, All-weaker, All-nil, All-push}
use Rattle.dali_problem.specs.declared.columns.Touch.{Touch}
use Rattle.dali_problem.specs.Sums.{sum_below, sum_over, pick}
use Rattle.dali_problem.specs.Clearing.{Clearing, effect}
use Rattle.dali_problem.specs.Limits.{Within, IsProblem}
use Rattle.dali_problem.specs.Touches.{touch_by, touches_below, touches}
use Rattle.dali_problem.proofs.SumLaws.{sum_over_append, sum_below_change, sum_below_zero}
use Rattle.dali_problem.proofs.Lines.{effect_small}
use Rattle.dali_lagrange.specs.Touched.{AreTouches, at_place}

-- a touch, or none where nothing is changed
abbrev touch_if : Bool → ℕ → ℤ → List Touch
touch_if b j a = if b then [] else record { place = j; amount = a } ∷ []

by_test : (b : Bool) {P : Type 0} → (b ≡ true → P) → (b ≡ false → P) → P
by_test true yes_ no_ = yes_ refl
by_test false yes_ no_ = no_ refl

-- the sum over a touch that may be there
touch_sum : (g : ℕ → ℤ → ℤ) (j : ℕ) (a : ℤ) → g j (pos 0) ≡ pos 0 → sum_over (λ (t : Touch). g t.place t.amount) (touch_by j a) ≡ g j a
touch_sum g j a none = by_test (int_eq a (pos 0))
    (λ is.
    let zero_amount : a ≡ pos 0 = (Decides-int_eq a (pos 0)).0 is in
    ap (λ (b : Bool). sum_over (λ (t : Touch). g t.place t.amount) (touch_if b j a)) is ∙ sym none ∙ ap (g j) (sym zero_amount))
    (λ other.
    let one : sum_over (λ (t : Touch). g t.place t.amount) (record { place = j; amount = a } ∷ []) ≡ g j a = omega (arith, ints) in
    ap (λ (b : Bool). sum_over (λ (t : Touch). g t.place t.amount) (touch_if b j a)) other ∙ one)

sum_touches_below : (p : Clearing) (l : ℕ) (g : ℕ → ℤ → ℤ) → ((j : ℕ) → g j (pos 0) ≡ pos 0) → (n : ℕ) →
    sum_over (λ (t : Touch). g t.place t.amount) (touches_below p l n) ≡ sum_below (λ j. g j (effect p j l)) n
sum_touches_below p l g none zero = refl
sum_touches_below p l g none (suc n) =
    let split = sum_over_append (λ (t : Touch). g t.place t.amount) (touches_below p l n) (touch_by n (effect p n l)) in
    let last = touch_sum g n (effect p n l) (none n) in
    let rest = sum_touches_below p l g none n in
    omega (arith, ints, split, last, rest)

-- a sum over the touches of a line is one over all places, where a place that doesn't change the line counts nothing
pub sum_touches : (p : Clearing) (l : ℕ) (g : ℕ → ℤ → ℤ) → ((j : ℕ) → g j (pos 0) ≡ pos 0) →
    sum_over (λ (t : Touch). g t.place t.amount) (touches p l) ≡ sum_below (λ j. g j (effect p j l)) (length p.items)
sum_touches p l g none = sum_touches_below p l g none (length p.items)

pick_zero : (b : Bool) → pick b (pos 0) ≡ pos 0
pick_zero true = refl
pick_zero false = refl

-- the touches of one place add up to its effect
pub place_sum : (p : Clearing) (l j : ℕ) → j < length p.items → sum_over (at_place j) (touches p l) ≡ effect p j l
place_sum p l j within =
    let whole = sum_touches p l (λ i a. pick (eqb i j) a) (λ i. pick_zero (eqb i j)) in
    let other : (i : ℕ) → i < length p.items → i ≢ j → pick (eqb i j) (effect p i l) ≡ pos 0 = λ i below off.
    elim (eqb_tells i j) as (λ _. pick (eqb i j) (effect p i l) ≡ pos 0) [
      | inl same ↦ absurd (off same.1)
      | inr differ ↦ ap (λ b. pick b (effect p i l)) differ.0
    ] in
    let here : pick (eqb j j) (effect p j l) ≡ effect p j l =
    elim (eqb_tells j j) as (λ _. pick (eqb j j) (effect p j l) ≡ effect p j l) [
      | inl same ↦ ap (λ b. pick b (effect p j l)) same.0
      | inr differ ↦ absurd (differ.1 refl)
    ] in
    let change = sum_below_change (λ _. pos 0) (λ i. pick (eqb i j) (effect p i l)) (length p.items) j within other in
    omega (arith, ints, whole, here, change, sum_below_zero (length p.items))

touch_by_all : (P : Touch → Type 0) (j : ℕ) (a : ℤ) → P (record { place = j; amount = a }) → All P (touch_by j a)
touch_by_all P j a holds = by_test (int_eq a (pos 0))
    (λ is. subst (λ (b : Bool). All P (touch_if b j a)) (sym is) (All-nil P))
    (λ other. subst (λ (b : Bool). All P (touch_if b j a)) (sym other) (All-push P [] (record { place = j; amount = a }) (All-nil P) holds))

touch_by_size : (j : ℕ) (a : ℤ) → length (touch_by j a) ≤ 1
touch_by_size j a = by_test (int_eq a (pos 0))
    (λ is. subst (λ (b : Bool). length (touch_if b j a) ≤ 1) (sym is) (omega arith))
    (λ other. subst (λ (b : Bool). length (touch_if b j a) ≤ 1) (sym other) (omega arith))

touches_size : (p : Clearing) (l n : ℕ) → length (touches_below p l n) ≤ n
touches_size p l zero = omega arith
touches_size p l (suc n) =
    let rest = touches_size p l n in
    let last = touch_by_size n (effect p n l) in
    omega (arith, length-append (touches_below p l n) (touch_by n (effect p n l)), rest, last)

touches_range : (p : Clearing) (l n : ℕ) → All (λ (t : Touch). t.place < n) (touches_below p l n)
touches_range p l zero = All-nil (λ (t : Touch). t.place < 0)
touches_range p l (suc n) =
    All-append (λ (t : Touch). t.place < suc n) (touches_below p l n) (touch_by n (effect p n l))
    (All-weaker (λ (t : Touch). t.place < n) (λ (t : Touch). t.place < suc n) (λ t below. omega (arith, below)) (touches_below p l n) (touches_range p l n))
    (touch_by_all (λ (t : Touch). t.place < suc n) n (effect p n l) (omega arith))

touches_small : (p : Clearing) (l n : ℕ) → IsProblem p → All (λ (t : Touch). Within (2 ^ 58) t.amount) (touches_below p l n)
touches_small p l zero limits = All-nil (λ (t : Touch). Within (2 ^ 58) t.amount)
touches_small p l (suc n) limits =
    All-append (λ (t : Touch). Within (2 ^ 58) t.amount) (touches_below p l n) (touch_by n (effect p n l))
    (touches_small p l n limits)
    (touch_by_all (λ (t : Touch). Within (2 ^ 58) t.amount) n (effect p n l) (effect_small p n l limits))

pub touches_are : (p : Clearing) (l : ℕ) → IsProblem p → AreTouches (length p.items) (touches p l)
touches_are p l limits = record {
  size = omega (arith, touches_size p l (length p.items), limits.items);
  in_range = touches_range p l (length p.items);
  bounded = touches_small p l (length p.items) limits;
}
