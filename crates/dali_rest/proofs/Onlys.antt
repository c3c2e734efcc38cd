use Rattle.std.proofs.Common.{◌≡◌, ◌≢◌, inl, inr, ◌⊎◌, ℕ, zero, suc, ◌<◌, List, [], ◌∷◌, length, get_or, refl, ap, ◌∙◌, sym, subst, arith}
use Rattle.std.specs.List.{AllPairs, Contains}
use Rattle.std.proofs.lemmas.Bool.{cases_order}
use Rattle.std.proofs.lemmas.List.Elements.{Contains-append_cases}
use Rattle.dali_problem.specs.Clearing.{Clearing}
use Rattle.dali_problem.specs.Rest.{IsRest}

-- Rising lists with the same numbers are the same.

in_cons : (x j : ℕ) (xs : List ℕ) → Contains (x ∷ xs) j → (x ≡ j) ⊎ Contains xs j
in_cons x j xs there = elim (Contains-append_cases (x ∷ []) xs j there) as (λ _. (x ≡ j) ⊎ Contains xs j) [
  | inl first ↦ inl (alone x j first)
  | inr later ↦ inr later
]
  where
    alone : (x j : ℕ) → Contains (x ∷ []) j → x ≡ j
    alone x j first = at first.0 first.1 first.2
      where
        at : (k : ℕ) → k < 1 → get_or (x ∷ []) k j ≡ j → x ≡ j
        at zero within is = is
        at (suc k) within is = absurd (omega (arith, within))

cons_in : (x j : ℕ) (xs : List ℕ) → Contains xs j → Contains (x ∷ xs) j
cons_in x j xs there = (suc there.0, omega (arith, there.1), there.2)

above : (x j : ℕ) (xs : List ℕ) → AllPairs (λ i j. i < j) (x ∷ xs) → Contains xs j → x < j
above x j xs rising there = subst (λ n. x < n) there.2 (rising 0 (suc there.0) j (omega arith) (omega (arith, there.1)))

rising_tail : (x : ℕ) (xs : List ℕ) → AllPairs (λ i j. i < j) (x ∷ xs) → AllPairs (λ i j. i < j) xs
rising_tail x xs rising = λ a b d before within. rising (suc a) (suc b) d (omega (arith, before)) (omega (arith, within))

none_in : (x : ℕ) → Contains [] x → ⊥
none_in x there = absurd (omega (arith, there.1))

pub same_rising : (xs ys : List ℕ) → AllPairs (λ i j. i < j) xs → AllPairs (λ i j. i < j) ys → ((j : ℕ) → Contains xs j → Contains ys j) →
    ((j : ℕ) → Contains ys j → Contains xs j) → xs ≡ ys
same_rising [] [] up_x up_y there back = refl
same_rising [] (y ∷ ys) up_x up_y there back = absurd (none_in y (back y (0, omega arith, refl)))
same_rising (x ∷ xs) [] up_x up_y there back = absurd (none_in x (there x (0, omega arith, refl)))
same_rising (x ∷ xs) (y ∷ ys) up_x up_y there back =
    let first : x ≡ y = elim (cases_order x y) as (λ _. x ≡ y) [
      | inl same ↦ same
      | inr apart ↦ elim apart as (λ _. x ≡ y) [
        | inl less ↦ absurd (elim (in_cons y x ys (there x (0, omega arith, refl))) as (λ _. ⊥) [
          | inl same ↦ omega (arith, same, less)
          | inr later ↦ omega (arith, above y x ys up_y later, less)
        ])
        | inr more ↦ absurd (elim (in_cons x y xs (back y (0, omega arith, refl))) as (λ _. ⊥) [
          | inl same ↦ omega (arith, same, more)
          | inr later ↦ omega (arith, above x y xs up_x later, more)
        ])
      ]
    ] in
    let rest : xs ≡ ys = same_rising xs ys (rising_tail x xs up_x) (rising_tail y ys up_y)
    (λ j inside. elim (in_cons y j ys (there j (cons_in x j xs inside))) as (λ _. Contains ys j) [
      | inl here ↦ absurd (omega (arith, here, first, above x j xs up_x inside))
      | inr later ↦ later
    ])
    (λ j inside. elim (in_cons x j xs (back j (cons_in y j ys inside))) as (λ _. Contains xs j) [
      | inl here ↦ absurd (omega (arith, here, first, above y j ys up_y inside))
      | inr later ↦ later
    ]) in
    ap (λ n. n ∷ xs) first ∙ ap (λ ns. y ∷ ns) rest

-- there is one greatest rest
pub one_rest : (p : Clearing) (s c r t : List ℕ) → IsRest p s c r → IsRest p s c t → r ≡ t
one_rest p s c r t first second = same_rising r t first.places.rising second.places.rising
    (second.greatest r first.places first.within first.payable).part
    (first.greatest t second.places second.within second.payable).part
