use Rattle.std.proofs.Common.{◌≡◌, ◌≢◌, inl, inr, ℕ, zero, suc, ◌+◌, ◌-◌, ◌*◌, ◌^◌, ◌/◌, ◌%◌, ◌<◌, ◌≤◌, ℤ, pos, ◌+ℤ◌, List, [], ◌∷◌, length, refl, ap, sym, ◌∙◌, subst, arith}
use Rattle.std.specs.Prelude.{if◌then◌else◌}
use Rattle.std.specs.List.{All, AllPairs}
use Rattle.std.proofs.lemmas.Bool.Decides.{eqb_tells}
use Rattle.std.proofs.lemmas.Bool.{cases_eq}
use Rattle.std.proofs.Math.Pow.{pow_mono}
use Rattle.std.proofs.lemmas.Int.{ints}
use Rattle.std.proofs.lemmas.List.Kept.{AllPairs-cons}
use Rattle.std.proofs.lemmas.List.Sums.{sum_by-cons}
use Rattle.dali_problem.specs.Sums.{sum_over}
use Rattle.dali_problem.specs.Clearing.{Clearing, worth}
use Rattle.dali_problem.specs.Limits.{IsProblem}
use Rattle.dali_problem.specs.Feasible.{ArePlaces, IsFeasible, value_of}
use Rattle.dali_problem.proofs.Lines.{balance_small}
use Rattle.dali_plain.specs.Masks.{places_from, places_of, IsReached, IsGreatest}

-- one place, in a mask or not
take_low : (n j mask : ℕ) → mask % 2 ≡ 1 → places_from (suc n) j mask ≡ j ∷ places_from n (j + 1) (mask / 2)
take_low n j mask odd = elim (eqb_tells (mask % 2) 1) as (λ _. places_from (suc n) j mask ≡ j ∷ places_from n (j + 1) (mask / 2)) [
  | inl is ↦ ap (λ b. if b then j ∷ places_from n (j + 1) (mask / 2) else places_from n (j + 1) (mask / 2)) is.0
  | inr not ↦ absurd (not.1 odd)
]

pass_low : (n j mask : ℕ) → mask % 2 ≢ 1 → places_from (suc n) j mask ≡ places_from n (j + 1) (mask / 2)
pass_low n j mask even = elim (eqb_tells (mask % 2) 1) as (λ _. places_from (suc n) j mask ≡ places_from n (j + 1) (mask / 2)) [
  | inl is ↦ absurd (even is.1)
  | inr not ↦ ap (λ b. if b then j ∷ places_from n (j + 1) (mask / 2) else places_from n (j + 1) (mask / 2)) not.0
]

-- the same at place j of n
pub take_place : (n j mask : ℕ) → j < n → mask % 2 ≡ 1 → places_from (n - j) j mask ≡ j ∷ places_from (n - (j + 1)) (j + 1) (mask / 2)
take_place n j mask within odd =
    let more : n - j ≡ suc (n - (j + 1)) = omega (arith, within) in
    ap (λ k. places_from k j mask) more ∙ take_low (n - (j + 1)) j mask odd

pub pass_place : (n j mask : ℕ) → j < n → mask % 2 ≢ 1 → places_from (n - j) j mask ≡ places_from (n - (j + 1)) (j + 1) (mask / 2)
pass_place n j mask within even =
    let more : n - j ≡ suc (n - (j + 1)) = omega (arith, within) in
    ap (λ k. places_from k j mask) more ∙ pass_low (n - (j + 1)) j mask even

pub no_place : (n j mask : ℕ) → n ≤ j → places_from (n - j) j mask ≡ []
no_place n j mask past =
    let none : n - j ≡ zero = omega (arith, past) in
    ap (λ k. places_from k j mask) none

-- the places of a mask are from j on, below j + n, and rise
pub from_above : (n j mask : ℕ) → All (λ k. j ≤ k) (places_from n j mask)
from_above zero j mask = λ i d within. absurd (omega (arith, within))
from_above (suc n) j mask = elim (cases_eq (mask % 2) 1) as (λ _. All (λ k. j ≤ k) (places_from (suc n) j mask)) [
  | inl odd ↦ subst (All (λ k. j ≤ k)) (sym (take_low n j mask odd)) (above_cons j (places_from n (j + 1) (mask / 2)) (from_above n (j + 1) (mask / 2)))
  | inr even ↦ subst (All (λ k. j ≤ k)) (sym (pass_low n j mask even)) (λ i d within. omega (arith, from_above n (j + 1) (mask / 2) i d within))
]
  where
    above_cons : (j : ℕ) (ks : List ℕ) → All (λ k. j + 1 ≤ k) ks → All (λ k. j ≤ k) (j ∷ ks)
    above_cons j ks above zero d within = omega arith
    above_cons j ks above (suc i) d within = omega (arith, above i d (omega (arith, within)))

pub from_below : (n j mask : ℕ) → All (λ k. k < j + n) (places_from n j mask)
from_below zero j mask = λ i d within. absurd (omega (arith, within))
from_below (suc n) j mask = elim (cases_eq (mask % 2) 1) as (λ _. All (λ k. k < j + suc n) (places_from (suc n) j mask)) [
  | inl odd ↦ subst (All (λ k. k < j + suc n)) (sym (take_low n j mask odd)) (below_cons j n (places_from n (j + 1) (mask / 2)) (from_below n (j + 1) (mask / 2)))
  | inr even ↦ subst (All (λ k. k < j + suc n)) (sym (pass_low n j mask even)) (λ i d within. omega (arith, from_below n (j + 1) (mask / 2) i d within))
]
  where
    below_cons : (j n : ℕ) (ks : List ℕ) → All (λ k. k < j + 1 + n) ks → All (λ k. k < j + suc n) (j ∷ ks)
    below_cons j n ks below zero d within = omega arith
    below_cons j n ks below (suc i) d within = omega (arith, below i d (omega (arith, within)))

pub from_rising : (n j mask : ℕ) → AllPairs (λ a b. a < b) (places_from n j mask)
from_rising zero j mask = λ i k d before within. absurd (omega (arith, within))
from_rising (suc n) j mask = elim (cases_eq (mask % 2) 1) as (λ _. AllPairs (λ a b. a < b) (places_from (suc n) j mask)) [
  | inl odd ↦ subst (AllPairs (λ a b. a < b)) (sym (take_low n j mask odd))
      (AllPairs-cons (λ a b. a < b) j (places_from n (j + 1) (mask / 2))
      (λ i d within. omega (arith, from_above n (j + 1) (mask / 2) i d within)) (from_rising n (j + 1) (mask / 2)))
  | inr even ↦ subst (AllPairs (λ a b. a < b)) (sym (pass_low n j mask even)) (from_rising n (j + 1) (mask / 2))
]

pub mask_places : (p : Clearing) (mask : ℕ) → ArePlaces p (places_of p mask)
mask_places p mask = record {
  rising = from_rising (length p.items) 0 mask;
  in_range = (λ i d within. omega (arith, from_below (length p.items) 0 mask i d within));
}

-- a mask of n places is below 2 ^ n
pub record IsMaskOf (n j : ℕ) (t : List ℕ) : Type 0 where
  pub mask : ℕ
  pub within : mask < 2 ^ n
  pub has : places_from n j mask ≡ t

with_low : (n j mask : ℕ) (t : List ℕ) → mask < 2 ^ n → places_from n (j + 1) mask ≡ t → IsMaskOf (suc n) j (j ∷ t)
with_low n j mask t within is =
    let odd : (mask * 2 + 1) % 2 ≡ 1 = omega arith in
    let half : (mask * 2 + 1) / 2 ≡ mask = omega arith in
    let twice : 2 ^ suc n ≡ 2 ^ n * 2 = omega arith in
    record {
      mask = mask * 2 + 1;
      within = omega (arith, within, twice);
      has = take_low n j (mask * 2 + 1) odd ∙ ap (λ m. j ∷ places_from n (j + 1) m) half ∙ ap (λ ks. j ∷ ks) is;
    }

without_low : (n j mask : ℕ) (t : List ℕ) → mask < 2 ^ n → places_from n (j + 1) mask ≡ t → IsMaskOf (suc n) j t
without_low n j mask t within is =
    let even : (mask * 2) % 2 ≢ 1 = λ odd. omega (arith, odd) in
    let half : (mask * 2) / 2 ≡ mask = omega arith in
    let twice : 2 ^ suc n ≡ 2 ^ n * 2 = omega arith in
    record {
      mask = mask * 2;
      within = omega (arith, within, twice);
      has = pass_low n j (mask * 2) even ∙ ap (places_from n (j + 1)) half ∙ is;
    }

-- each rising list of places has a mask
pub mask_of : (n j : ℕ) (t : List ℕ) → AllPairs (λ a b. a < b) t → All (λ k. j ≤ k) t → All (λ k. k < j + n) t → IsMaskOf n j t
mask_of zero j [] rising above below = record { mask = 0; within = omega arith; has = refl }
mask_of zero j (x ∷ t) rising above below = absurd (omega (arith, above 0 0 (omega arith), below 0 0 (omega arith)))
mask_of (suc n) j [] rising above below =
    let rest = mask_of n (j + 1) [] (λ i k d before within. absurd (omega (arith, within))) (λ i d within. absurd (omega (arith, within)))
    (λ i d within. absurd (omega (arith, within))) in
    without_low n j rest.mask [] rest.within rest.has
mask_of (suc n) j (x ∷ t) rising above below = elim (cases_eq x j) as (λ _. IsMaskOf (suc n) j (x ∷ t)) [
  | inl same ↦
      let rest = mask_of n (j + 1) t (λ i k d before within. rising (suc i) (suc k) d (omega arith) (omega arith))
      (λ i d within. omega (arith, same, rising 0 (suc i) d (omega arith) (omega arith)))
      (λ i d within. omega (arith, below (suc i) d (omega arith))) in
      subst (λ k. IsMaskOf (suc n) j (k ∷ t)) (sym same) (with_low n j rest.mask t rest.within rest.has)
  | inr other ↦
      let first : j ≤ x = above 0 0 (omega arith) in
      let rest = mask_of n (j + 1) (x ∷ t) rising (later x t j other first rising) (λ i d within. omega (arith, below i d within)) in
      without_low n j rest.mask (x ∷ t) rest.within rest.has
]
  where
    later : (x : ℕ) (t : List ℕ) (j : ℕ) → x ≢ j → j ≤ x → AllPairs (λ a b. a < b) (x ∷ t) → All (λ k. j + 1 ≤ k) (x ∷ t)
    later x t j other first rising zero d within = omega (arith, other, first)
    later x t j other first rising (suc i) d within = omega (arith, other, first, rising 0 (suc i) d (omega arith) within)

pub mask_of_set : (p : Clearing) (t : List ℕ) → ArePlaces p t → IsMaskOf (length p.items) 0 t
mask_of_set p t places = mask_of (length p.items) 0 t places.rising (λ i d within. omega arith) (λ i d within. omega (arith, places.in_range i d within))

-- the empty set is feasible
pub empty_feasible : (p : Clearing) → IsProblem p → IsFeasible p []
empty_feasible p limits = record {
  covered = (λ l below. let up = balance_small p l limits in omega (arith, ints, up.0));
}

-- what a sum over the places of a mask still has to come, with place j taken or passed by
pub sum_take : (f : ℕ → ℤ) (n j mask : ℕ) → j < n → mask % 2 ≡ 1 →
    sum_over f (places_from (n - j) j mask) ≡ f j +ℤ sum_over f (places_from (n - (j + 1)) (j + 1) (mask / 2))
sum_take f n j mask within odd = ap (sum_over f) (take_place n j mask within odd)

pub sum_pass : (f : ℕ → ℤ) (n j mask : ℕ) → j < n → mask % 2 ≢ 1 →
    sum_over f (places_from (n - j) j mask) ≡ sum_over f (places_from (n - (j + 1)) (j + 1) (mask / 2))
sum_pass f n j mask within even = ap (sum_over f) (pass_place n j mask within even)

pub sum_none : (f : ℕ → ℤ) (n j mask : ℕ) → n ≤ j → sum_over f (places_from (n - j) j mask) ≡ pos 0
sum_none f n j mask past = ap (sum_over f) (no_place n j mask past)

pub value_take : (p : Clearing) (n j mask : ℕ) → j < n → mask % 2 ≡ 1 →
    value_of p (places_from (n - j) j mask) ≡ worth p j + value_of p (places_from (n - (j + 1)) (j + 1) (mask / 2))
value_take p n j mask within odd =
    ap (value_of p) (take_place n j mask within odd) ∙ sum_by-cons (worth p) j (places_from (n - (j + 1)) (j + 1) (mask / 2))

pub value_pass : (p : Clearing) (n j mask : ℕ) → j < n → mask % 2 ≢ 1 →
    value_of p (places_from (n - j) j mask) ≡ value_of p (places_from (n - (j + 1)) (j + 1) (mask / 2))
value_pass p n j mask within even = ap (value_of p) (pass_place n j mask within even)

pub value_none : (p : Clearing) (n j mask : ℕ) → n ≤ j → value_of p (places_from (n - j) j mask) ≡ 0
value_none p n j mask past = ap (value_of p) (no_place n j mask past)

-- up to ten items have 2 ^ n masks in 32 bits
pub masks_fit : (n : ℕ) → n ≤ 10 → 1 * 2 ^ n % 2 ^ 32 ≡ 2 ^ n
masks_fit n few =
    let most : 2 ^ n ≤ 2 ^ 10 = pow_mono few in
    omega (arith, most)

-- what is greatest among all masks is greatest among all sets
pub greatest_of : (p : Clearing) (sets v : ℕ) → sets ≡ 2 ^ length p.items → IsReached p v →
    ((m : ℕ) → m < sets → IsFeasible p (places_of p m) → value_of p (places_of p m) ≤ v) → IsGreatest p v
greatest_of p sets v all reached most = record {
  reached = reached;
  most = (λ t places feasible.
      let own = mask_of_set p t places in
      let told = most own.mask (omega (arith, own.within, all)) (subst (IsFeasible p) (sym own.has) feasible) in
      subst (λ (s : List ℕ). value_of p s ≤ v) own.has told);
}
