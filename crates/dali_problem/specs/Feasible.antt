use Rattle.std.specs.Prelude.{ℕ, ◌<◌, ◌==◌, ℤ, pos, ◌+ℤ◌, ◌≤ℤ◌, Bool, List, length, sum_by}
use Rattle.std.specs.List.{All, AllPairs, list_any}
use Rattle.dali_problem.specs.Sums.{sum_over}
use Rattle.dali_problem.specs.Clearing.{Clearing, balance, worth, effect}

-- a set of items: a rising list of places
pub record ArePlaces (p : Clearing) (s : List ℕ) : Type 0 where
  pub rising : AllPairs (λ i j. i < j) s
  pub in_range : All (λ j. j < length p.items) s

-- whether j is among these places
abbrev pub has : List ℕ → ℕ → Bool
has places j = list_any (λ k. k == j) places

-- line l after all of a set at once
abbrev pub booked : Clearing → List ℕ → ℕ → ℤ
booked p s l = balance p l +ℤ sum_over (λ j. effect p j l) s

-- no line is negative after all of the set at once
pub record IsFeasible (p : Clearing) (s : List ℕ) : Type 0 where
  pub covered : (l : ℕ) → l < length p.lines → pos 0 ≤ℤ booked p s l

-- the sum of the values of a set
abbrev pub value_of : Clearing → List ℕ → ℕ
value_of p s = sum_by (worth p) s
