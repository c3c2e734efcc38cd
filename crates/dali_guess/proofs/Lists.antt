use Rattle.std.proofs.Common.{ℕ, ◌+◌, ◌<◌, ◌≤◌, ◌^◌, List, [], ◌∷◌, ◌++◌, arith}
use Rattle.std.specs.List.{All}
use Rattle.std.proofs.lemmas.List.Elements.{All-push, All-weaker}
use Rattle.std.proofs.lemmas.List.Quantifiers.{all_pairs_push}
use Rattle.dali_lagrange.specs.Multipliers.{AreMultipliers}

-- multipliers other than 0 on rising lines below l
pub record ListsBelow (l : ℕ) (lam : List (ℕ × ℕ)) : Type 0 where
  pub are : AreMultipliers l lam
  pub not_zero : All (λ (m : ℕ × ℕ). 1 ≤ m.1) lam

pub lists_wider : (l : ℕ) (lam : List (ℕ × ℕ)) → ListsBelow l lam → ListsBelow (l + 1) lam
lists_wider l lam before = record {
  are = record {
    rising = before.are.rising;
    in_range = All-weaker (λ (n : ℕ × ℕ). n.0 < l) (λ (n : ℕ × ℕ). n.0 < l + 1) (λ n less. omega (arith, less)) lam before.are.in_range;
    bounded = before.are.bounded;
  };
  not_zero = before.not_zero;
}

pub lists_more : (l m : ℕ) (lam : List (ℕ × ℕ)) → ListsBelow l lam → 1 ≤ m → m ≤ 2 ^ 44 → ListsBelow (l + 1) (lam ++ (l, m) ∷ [])
lists_more l m lam before some most = record {
  are = record {
    rising = all_pairs_push (λ (a b : ℕ × ℕ). a.0 < b.0) lam (l, m) before.are.rising (λ k d below. before.are.in_range k d below);
    in_range = All-push (λ (n : ℕ × ℕ). n.0 < l + 1) lam (l, m) (lists_wider l lam before).are.in_range (omega arith);
    bounded = All-push (λ (n : ℕ × ℕ). n.1 ≤ 2 ^ 44) lam (l, m) before.are.bounded most;
  };
  not_zero = All-push (λ (n : ℕ × ℕ). 1 ≤ n.1) lam (l, m) before.not_zero some;
}
