use Rattle.std.proofs.Common.{inl, inr, ℕ, ◌+◌, ◌<◌, List, [], ◌∷◌, ◌++◌, sym, subst, arith}
use Rattle.std.specs.List.{All, AllPairs, Contains}
use Rattle.std.proofs.lemmas.Bool.{cases_eq}
use Rattle.std.proofs.lemmas.List.Elements.{All-push, All-weaker, Contains-append_left, Contains-push, Contains-push_cases}
use Rattle.std.proofs.lemmas.List.Quantifiers.{all_pairs_push}

-- a rising list below i with i at its end
pub rising_more : (xs : List ℕ) (i : ℕ) → AllPairs (λ a b. a < b) xs → All (λ j. j < i) xs → AllPairs (λ a b. a < b) (xs ++ i ∷ [])
rising_more xs i rising below = all_pairs_push (λ (a b : ℕ). a < b) xs i rising (λ k d within. below k d within)

pub range_more : (xs : List ℕ) (i : ℕ) → All (λ j. j < i) xs → All (λ j. j < i + 1) (xs ++ i ∷ [])
range_more xs i below =
    All-push (λ (j : ℕ). j < i + 1) xs i (All-weaker (λ (j : ℕ). j < i) (λ (j : ℕ). j < i + 1) (λ j less. omega (arith, less)) xs below) (omega arith)

pub range_wider : (xs : List ℕ) (i : ℕ) → All (λ j. j < i) xs → All (λ j. j < i + 1) xs
range_wider xs i below = All-weaker (λ (j : ℕ). j < i) (λ (j : ℕ). j < i + 1) (λ j less. omega (arith, less)) xs below

-- what holds of the list and of i holds of both
pub each_more : (P : ℕ → Type 0) (xs : List ℕ) (i : ℕ) → ((j : ℕ) → Contains xs j → P j) → P i → (j : ℕ) → Contains (xs ++ i ∷ []) j → P j
each_more P xs i each here j there = elim (Contains-push_cases xs i j there) as (λ _. P j) [
  | inl before ↦ each j before
  | inr same ↦ subst P same here
]

-- the list has what passes below i, and i is added
pub all_more : (P : ℕ → Type 0) (xs : List ℕ) (i : ℕ) → ((j : ℕ) → j < i → P j → Contains xs j) → (j : ℕ) → j < i + 1 → P j → Contains (xs ++ i ∷ []) j
all_more P xs i all j below passes = elim (cases_eq j i) as (λ _. Contains (xs ++ i ∷ []) j) [
  | inl same ↦ subst (Contains (xs ++ i ∷ [])) (sym same) (Contains-push xs i)
  | inr other ↦ Contains-append_left xs (i ∷ []) j (all j (omega (arith, below, other)) passes)
]

pub all_none : (P : ℕ → Type 0) (xs : List ℕ) (i : ℕ) → ((j : ℕ) → j < i → P j → Contains xs j) → ¬ (P i) → (j : ℕ) → j < i + 1 → P j → Contains xs j
all_none P xs i all none j below passes = elim (cases_eq j i) as (λ _. Contains xs j) [
  | inl same ↦ absurd (none (subst P same passes))
  | inr other ↦ all j (omega (arith, below, other)) passes
]
