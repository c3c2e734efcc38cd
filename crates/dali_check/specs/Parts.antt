use Rattle.std.specs.Prelude.{◌≡◌, ℕ, ◌<◌, pos, Bool, false, IsTrue, ◌&&◌, not, List, length, sum_by}
use Rattle.std.specs.List.{All, AllPairs, list_any, filter}
use Rattle.std.specs.Ordering.{int_eq}
use Rattle.dali_problem.specs.Clearing.{Clearing, effect}
use Rattle.dali_problem.specs.Feasible.{value_of, has}
use Rattle.dali_tree.specs.Tree.{branch_count}
use Rattle.dali_tree.specs.declared.choice.Part.{Part}

-- whether some part has place j
abbrev pub some_has : List Part → ℕ → Bool
some_has parts j = list_any (λ part. has part.members j) parts

-- each of n places is in one part, and no part is empty
pub record ArePartition (n : ℕ) (parts : List Part) : Type 0 where
  pub some : All (λ part. 0 < length part.members) parts
  pub covered : (j : ℕ) → j < n → IsTrue (some_has parts j)
  pub apart : AllPairs (λ a b. (j : ℕ) → (has a.members j && has b.members j) ≡ false) parts

-- whether some member of a part changes line l
abbrev pub changes : Clearing → Part → ℕ → Bool
changes p part l = list_any (λ j. not (int_eq (effect p j l) (pos 0))) part.members

-- no two parts change one line
pub record AreSeparate (p : Clearing) (parts : List Part) : Type 0 where
  pub separate : AllPairs (λ a b. (l : ℕ) → (changes p a l && changes p b l) ≡ false) parts

-- the places of a set that are in a part, and what they are worth
abbrev pub chosen_in : List ℕ → Part → List ℕ
chosen_in set part = filter (has set) part.members

abbrev pub value_in_part : Clearing → List ℕ → Part → ℕ
value_in_part p set part = value_of p (chosen_in set part)

-- the sum of the bounds, and the branchings of all parts
abbrev pub bound_of : List Part → ℕ
bound_of parts = sum_by (λ part. part.bound) parts

abbrev pub branchings_of : List Part → ℕ
branchings_of parts = sum_by (λ part. branch_count part.tree) parts
