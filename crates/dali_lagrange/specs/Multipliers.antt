use Rattle.std.specs.Prelude.{ℕ, ◌<◌, ◌≤◌, ◌==◌, List, [], ◌∷◌, if◌then◌else◌}
use Rattle.std.specs.List.{All, AllPairs}
use Rattle.dali_base.specs.Limits.{most_multiplier}

-- multipliers within their limit on rising lines, of n lines in all
pub record AreMultipliers (n : ℕ) (lam : List (ℕ × ℕ)) : Type 0 where
  pub rising : AllPairs (λ (a b : ℕ × ℕ). a.0 < b.0) lam
  pub in_range : All (λ (m : ℕ × ℕ). m.0 < n) lam
  pub bounded : All (λ (m : ℕ × ℕ). m.1 ≤ most_multiplier) lam

-- the multiplier of line l: 0 where it isn't listed
abbrev pub multiplier : List (ℕ × ℕ) → ℕ → ℕ
multiplier [] l = 0
multiplier (m ∷ lam) l = if m.0 == l then m.1 else multiplier lam l
