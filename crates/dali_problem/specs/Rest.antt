use Rattle.std.specs.Prelude.{ℕ, ◌<◌, ℤ, pos, ◌+ℤ◌, ◌≤ℤ◌, ◌<ℤ◌, List, length}
use Rattle.std.specs.List.{Contains}
use Rattle.std.specs.Int.{int_max}
use Rattle.dali_problem.specs.Sums.{sum_over}
use Rattle.dali_problem.specs.Clearing.{Clearing, effect}
use Rattle.dali_problem.specs.Feasible.{ArePlaces, booked}

-- all positive effects of r on line l
abbrev pub credits_of : Clearing → List ℕ → ℕ → ℤ
credits_of p r l = sum_over (λ j. int_max (pos 0) (effect p j l)) r

-- after s, each of r can be paid from the line that it debits, with all credits of r
pub record IsPayable (p : Clearing) (s r : List ℕ) : Type 0 where
  pub paid : (j l : ℕ) → Contains r j → l < length p.lines → effect p j l <ℤ pos 0 →
      pos 0 ≤ℤ (booked p s l +ℤ effect p j l +ℤ credits_of p r l)

-- each of r is in c
pub record IsSubset (r c : List ℕ) : Type 0 where
  pub part : (j : ℕ) → Contains r j → Contains c j

-- r is the greatest list within c that can be paid after s
pub record IsRest (p : Clearing) (s c r : List ℕ) : Type 0 where
  pub places : ArePlaces p r
  pub within : IsSubset r c
  pub payable : IsPayable p s r
  pub greatest : (t : List ℕ) → ArePlaces p t → IsSubset t c → IsPayable p s t → IsSubset t r
