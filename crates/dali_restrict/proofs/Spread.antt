use Rattle.std.proofs.Common.{◌≡◌, inl, inr, ℕ, zero, suc, ◌+◌, ◌<◌, ◌≤◌, ℤ, pos, ◌+ℤ◌, Bool, true, false, ◌&&◌, List, length, take, eqb, ltb, refl, ap, sym, ◌∙◌, subst, arith}
use Rattle.std.specs.List.{All, AllPairs}
use Rattle.std.proofs.lemmas.Bool.{cases_Bool, cases_eq, cases_order}
use Rattle.std.proofs.lemmas.Bool.Decides.{eqb_tells}
use Rattle.std.proofs.lemmas.List.{take_all, get_or_default}
use Rattle.dali_problem.specs.Sums.{sum_below, sum_over, pick}
use Rattle.dali_problem.specs.Rules.{all_below}
use Rattle.dali_problem.proofs.SumLaws.{sum_below_same, sum_over_more}
use Rattle.dali_problem.proofs.SetLaws.{is_in, is_in_of, contains_of, sum_over_in}
use Rattle.dali_restrict.specs.Restriction.{old_of}

-- Sums and tests over all numbers below n, where only those of a rising list count.

pub false_true : false ≡ true → ⊥
false_true is = cc

-- a rising list of numbers below n
pub record IsRise (n : ℕ) (xs : List ℕ) : Type 0 where
  pub rising : AllPairs (λ i j. i < j) xs
  pub in_range : All (λ j. j < n) xs

pub old_below : (n : ℕ) (xs : List ℕ) (i : ℕ) → IsRise n xs → i < length xs → old_of xs i < n
old_below n xs i rise within = rise.in_range i 0 within

pub old_in : (xs : List ℕ) (i : ℕ) → i < length xs → is_in (old_of xs i) xs ≡ true
old_in xs i within = is_in_of xs (old_of xs i) (i, within, get_or_default xs i (old_of xs i) 0 within)

-- a number of the list has a place there
pub found : (xs : List ℕ) (j : ℕ) → is_in j xs ≡ true → (i : ℕ) × (i < length xs) × (old_of xs i ≡ j)
found xs j told =
    let there = contains_of xs j told in
    (there.0, there.1, get_or_default xs there.0 0 j there.1 ∙ there.2)

-- the numbers of a rising list have the order of their places, and stand there once
pub old_order : (n : ℕ) (xs : List ℕ) (i k : ℕ) → IsRise n xs → i < length xs → k < length xs → ltb (old_of xs i) (old_of xs k) ≡ ltb i k
old_order n xs i k rise one two = elim (cases_order i k) as (λ _. ltb (old_of xs i) (old_of xs k) ≡ ltb i k) [
  | inl same ↦ subst (λ (m : ℕ). ltb (old_of xs i) (old_of xs m) ≡ ltb i m) same (self (old_of xs i) ∙ sym (self i))
  | inr other ↦ elim other as (λ _. ltb (old_of xs i) (old_of xs k) ≡ ltb i k) [
    | inl less ↦ told (old_of xs i) (old_of xs k) (rise.rising i k 0 less two) ∙ sym (told i k less)
    | inr more ↦ untold (old_of xs i) (old_of xs k) (rise.rising k i 0 more one) ∙ sym (untold i k more)
  ]
]
  where
    self : (m : ℕ) → ltb m m ≡ false
    self m = grind arith

    told : (a b : ℕ) → a < b → ltb a b ≡ true
    told a b less = grind arith

    untold : (a b : ℕ) → b < a → ltb a b ≡ false
    untold a b more = grind arith

pub old_same : (n : ℕ) (xs : List ℕ) (i k : ℕ) → IsRise n xs → i < length xs → k < length xs → old_of xs i ≡ old_of xs k → i ≡ k
old_same n xs i k rise one two same = elim (cases_order i k) as (λ _. i ≡ k) [
  | inl is ↦ is
  | inr other ↦ elim other as (λ _. i ≡ k) [
    | inl less ↦
        let up = rise.rising i k 0 less two in
        absurd (omega (arith, up, same))
    | inr more ↦
        let up = rise.rising k i 0 more one in
        absurd (omega (arith, up, same))
  ]
]

pub old_eqb : (n : ℕ) (xs : List ℕ) (i k : ℕ) → IsRise n xs → i < length xs → k < length xs → eqb (old_of xs i) (old_of xs k) ≡ eqb i k
old_eqb n xs i k rise one two = elim (eqb_tells i k) as (λ _. eqb (old_of xs i) (old_of xs k) ≡ eqb i k) [
  | inl same ↦ subst (λ (m : ℕ). eqb (old_of xs i) (old_of xs m) ≡ eqb i m) same.1 (self (old_of xs i) ∙ sym (self i))
  | inr other ↦ elim (eqb_tells (old_of xs i) (old_of xs k)) as (λ _. eqb (old_of xs i) (old_of xs k) ≡ eqb i k) [
    | inl told ↦ absurd (other.1 (old_same n xs i k rise one two told.1))
    | inr off ↦ off.0 ∙ sym other.0
  ]
]
  where
    self : (m : ℕ) → eqb m m ≡ true
    self m = elim (eqb_tells m m) as (λ _. eqb m m ≡ true) [
      | inl same ↦ same.0
      | inr off ↦ absurd (off.1 refl)
    ]

-- a sum over a list, by its places
front_sum : (f : ℕ → ℤ) (xs : List ℕ) (i : ℕ) → i ≤ length xs → sum_over f (take i xs) ≡ sum_below (λ k. f (old_of xs k)) i
front_sum f xs zero most = refl
front_sum f xs (suc i) most =
    let one : suc i ≡ i + 1 = omega arith in
    ap (λ k. sum_over f (take k xs)) one ∙ sum_over_more f xs i 0 (omega (arith, most))
    ∙ ap (λ z. z +ℤ f (old_of xs i)) (front_sum f xs i (omega (arith, most)))

pub sum_by_place : (f : ℕ → ℤ) (xs : List ℕ) → sum_over f xs ≡ sum_below (λ i. f (old_of xs i)) (length xs)
sum_by_place f xs = ap (sum_over f) (sym (take_all (length xs) xs (omega arith))) ∙ front_sum f xs (length xs) (omega arith)

pub pick_zero : (b : Bool) → pick b (pos 0) ≡ pos 0
pick_zero true = refl
pick_zero false = refl

-- a sum in which only numbers of the list count
pub sum_spread : (f g : ℕ → ℤ) (n : ℕ) (xs : List ℕ) → IsRise n xs → ((i : ℕ) → i < length xs → f (old_of xs i) ≡ g i) →
    ((j : ℕ) → j < n → is_in j xs ≡ false → f j ≡ pos 0) → sum_below f n ≡ sum_below g (length xs)
sum_spread f g n xs rise inside outside =
    sum_below_same f (λ j. pick (is_in j xs) (f j)) n (λ j below. elim (cases_Bool (is_in j xs)) as (λ _. f j ≡ pick (is_in j xs) (f j)) [
      | inl told ↦ sym (ap (λ b. pick b (f j)) told)
      | inr off ↦ outside j below off ∙ sym (ap (λ b. pick b (f j)) off)
    ])
    ∙ sym (sum_over_in f xs n rise.rising rise.in_range) ∙ sum_by_place f xs
    ∙ sum_below_same (λ i. f (old_of xs i)) g (length xs) inside

-- a test of all numbers that holds off the list
pub all_below_at : (test : ℕ → Bool) (n k : ℕ) → all_below test n ≡ true → k < n → test k ≡ true
all_below_at test zero k told within = absurd (omega (arith, within))
all_below_at test (suc n) k told within = elim (cases_eq k n) as (λ _. test k ≡ true) [
  | inl here ↦ ap test here ∙ first (test n) (all_below test n) told
  | inr other ↦ all_below_at test n k (second (test n) (all_below test n) told) (omega (arith, within, other))
]
  where
    first : (a b : Bool) → (a && b) ≡ true → a ≡ true
    first true b told = refl
    first false b told = absurd (false_true told)

    second : (a b : Bool) → (a && b) ≡ true → b ≡ true
    second true b told = told
    second false b told = absurd (false_true told)

pub all_below_of : (test : ℕ → Bool) (n : ℕ) → ((k : ℕ) → k < n → test k ≡ true) → all_below test n ≡ true
all_below_of test zero each = refl
all_below_of test (suc n) each =
    ap (λ b. b && all_below test n) (each n (omega arith)) ∙ all_below_of test n (λ k less. each k (omega (arith, less)))

pub bool_same : (a b : Bool) → (a ≡ true → b ≡ true) → (b ≡ true → a ≡ true) → a ≡ b
bool_same true b there back = sym (there refl)
bool_same false true there back = back refl
bool_same false false there back = refl

pub all_spread : (s t : ℕ → Bool) (n : ℕ) (xs : List ℕ) → IsRise n xs → ((i : ℕ) → i < length xs → s (old_of xs i) ≡ t i) →
    ((j : ℕ) → j < n → is_in j xs ≡ false → s j ≡ true) → all_below s n ≡ all_below t (length xs)
all_spread s t n xs rise inside outside = bool_same (all_below s n) (all_below t (length xs))
    (λ told. all_below_of t (length xs) (λ i within. sym (inside i within) ∙ all_below_at s n (old_of xs i) told (old_below n xs i rise within)))
    (λ told. all_below_of s n (λ j below. elim (cases_Bool (is_in j xs)) as (λ _. s j ≡ true) [
      | inl there ↦
          let at = found xs j there in
          ap s (sym at.2) ∙ inside at.0 at.1 ∙ all_below_at t (length xs) at.0 told at.1
      | inr off ↦ outside j below off
    ]))
