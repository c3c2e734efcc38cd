use Rattle.std.specs.Prelude.{ℕ, ◌<◌, ◌≤◌, List, length, slice_index_or}

-- the pairs before `next` stand on lines before l, and the others not
pub record IsNext (lam : List (ℕ × ℕ)) (next l : ℕ) : Type 0 where
  pub within : next ≤ length lam
  pub before : (k : ℕ) → k < next → (slice_index_or lam k (0, 0)).0 < l
  pub behind : (k : ℕ) → next ≤ k → k < length lam → l ≤ (slice_index_or lam k (0, 0)).0
