use Rattle.std.proofs.Common.{ℕ, ◌+◌, ◌<◌, List, [], ◌∷◌, ◌++◌, arith}
use Rattle.std.specs.List.{All, AllPairs}
use Rattle.std.proofs.lemmas.List.Elements.{All-push, All-weaker}
use Rattle.std.proofs.lemmas.List.Quantifiers.{all_pairs_push}

-- a rising list of numbers below i
pub record RisesBelow (i : ℕ) (xs : List ℕ) : Type 0 where
  pub rising : AllPairs (λ a b. a < b) xs
  pub below : All (λ j. j < i) xs

pub below_wider : (i : ℕ) (xs : List ℕ) → RisesBelow i xs → RisesBelow (i + 1) xs
below_wider i xs before = record {
  rising = before.rising;
  below = All-weaker (λ (j : ℕ). j < i) (λ (j : ℕ). j < i + 1) (λ j less. omega (arith, less)) xs before.below;
}

pub below_more : (i : ℕ) (xs : List ℕ) → RisesBelow i xs → RisesBelow (i + 1) (xs ++ i ∷ [])
below_more i xs before = record {
  rising = all_pairs_push (λ (a b : ℕ). a < b) xs i before.rising (λ k d within. before.below k d within);
  below = All-push (λ (j : ℕ). j < i + 1) xs i (below_wider i xs before).below (omega arith);
}
