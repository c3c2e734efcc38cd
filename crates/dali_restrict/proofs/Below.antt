use Rattle.std.proofs.Common.{◌≡◌, ◌⊎◌, inl, inr, ℕ, zero, suc, ◌<◌, Bool, true, false, List, [], ◌∷◌, ◌++◌, if◌then◌else◌, ap, sym, ◌∙◌, subst, arith}
use Rattle.std.specs.List.{All, AllPairs, Contains}
use Rattle.std.proofs.lemmas.Bool.{cases_eq, cases_Bool}
use Rattle.std.proofs.lemmas.List.{append-nil}
use Rattle.std.proofs.lemmas.List.Elements.{All-nil, All-push, All-weaker, Contains-push, Contains-push_cases, Contains-append_left}
use Rattle.std.proofs.lemmas.List.Quantifiers.{all_pairs_push}
use Rattle.dali_restrict.specs.Below.{places_below}
use Rattle.dali_restrict.proofs.Spread.{false_true}

-- the places below a number that a test has
below_cases : (w : ℕ → Bool) (n : ℕ) → ((w n ≡ true) × (places_below w (suc n) ≡ places_below w n ++ n ∷ []))
    ⊎ ((w n ≡ false) × (places_below w (suc n) ≡ places_below w n ++ []))
below_cases w n = elim (cases_Bool (w n)) as (λ _. ((w n ≡ true) × (places_below w (suc n) ≡ places_below w n ++ n ∷ []))
    ⊎ ((w n ≡ false) × (places_below w (suc n) ≡ places_below w n ++ []))) [
      | inl told ↦ inl (told, ap (λ (b : Bool). places_below w n ++ (if b then n ∷ [] else [])) told)
      | inr other ↦ inr (other, ap (λ (b : Bool). places_below w n ++ (if b then n ∷ [] else [])) other)
    ]

pub below_range : (w : ℕ → Bool) (n : ℕ) → All (λ j. j < n) (places_below w n)
below_range w zero = All-nil (λ (j : ℕ). j < 0)
below_range w (suc n) =
    let wider = All-weaker (λ (j : ℕ). j < n) (λ (j : ℕ). j < suc n) (λ j less. omega (arith, less)) (places_below w n) (below_range w n) in
    elim (below_cases w n) as (λ _. All (λ j. j < suc n) (places_below w (suc n))) [
      | inl more ↦ subst (All (λ (j : ℕ). j < suc n)) (sym more.1) (All-push (λ (j : ℕ). j < suc n) (places_below w n) n wider (omega arith))
      | inr none ↦ subst (All (λ (j : ℕ). j < suc n)) (sym (none.1 ∙ append-nil (places_below w n))) wider
    ]

pub below_rising : (w : ℕ → Bool) (n : ℕ) → AllPairs (λ i j. i < j) (places_below w n)
below_rising w zero = λ i j d before within. absurd (omega (arith, within))
below_rising w (suc n) = elim (below_cases w n) as (λ _. AllPairs (λ i j. i < j) (places_below w (suc n))) [
  | inl more ↦ subst (AllPairs (λ (i j : ℕ). i < j)) (sym more.1)
      (all_pairs_push (λ (i j : ℕ). i < j) (places_below w n) n (below_rising w n) (λ k d below. below_range w n k d below))
  | inr none ↦ subst (AllPairs (λ (i j : ℕ). i < j)) (sym (none.1 ∙ append-nil (places_below w n))) (below_rising w n)
]

pub below_has : (w : ℕ → Bool) (n j : ℕ) → Contains (places_below w n) j → w j ≡ true
below_has w zero j there = absurd (omega (arith, there.1))
below_has w (suc n) j there = elim (below_cases w n) as (λ _. w j ≡ true) [
  | inl more ↦ elim (Contains-push_cases (places_below w n) n j (subst (λ (xs : List ℕ). Contains xs j) more.1 there)) as (λ _. w j ≡ true) [
    | inl before ↦ below_has w n j before
    | inr here ↦ ap w (sym here) ∙ more.0
  ]
  | inr none ↦ below_has w n j (subst (λ (xs : List ℕ). Contains xs j) (none.1 ∙ append-nil (places_below w n)) there)
]

pub has_below : (w : ℕ → Bool) (n j : ℕ) → j < n → w j ≡ true → Contains (places_below w n) j
has_below w zero j below told = absurd (omega (arith, below))
has_below w (suc n) j below told = elim (below_cases w n) as (λ _. Contains (places_below w (suc n)) j) [
  | inl more ↦ subst (λ (xs : List ℕ). Contains xs j) (sym more.1) (elim (cases_eq j n) as (λ _. Contains (places_below w n ++ n ∷ []) j) [
    | inl last ↦ subst (Contains (places_below w n ++ n ∷ [])) (sym last) (Contains-push (places_below w n) n)
    | inr other ↦ Contains-append_left (places_below w n) (n ∷ []) j (has_below w n j (omega (arith, below, other)) told)
  ])
  | inr none ↦ subst (λ (xs : List ℕ). Contains xs j) (sym (none.1 ∙ append-nil (places_below w n))) (elim (cases_eq j n) as (λ _. Contains (places_below w n) j) [
    | inl last ↦ absurd (false_true (sym none.0 ∙ sym (ap w last) ∙ told))
    | inr other ↦ has_below w n j (omega (arith, below, other)) told
  ])
]
