use Rattle.std.proofs.Common.{◌≡◌, ◌≢◌, inl, inr, ℕ, ◌<◌, ◌≤◌, pos, List, [], ◌∷◌, ◌++◌, length, refl, ap, sym, ◌∙◌, subst, arith}
use Rattle.std.proofs.lemmas.Bool.{cases_lt}
use Rattle.std.proofs.lemmas.List.{get_or_past}
use Rattle.dali_problem.specs.Sums.{sum_over}
use Rattle.dali_problem.specs.Clearing.{Item, Clearing, no_item, effect, on_line}
use Rattle.dali_parts.specs.Finest.{Share, IsPath, Linked}

pub linked_refl : (p : Clearing) (i : ℕ) → Linked p i i
linked_refl p i = record { over = []; path = refl }

path_append : (p : Clearing) (i j k : ℕ) (xs ys : List ℕ) → IsPath p i xs j → IsPath p j ys k → IsPath p i (xs ++ ys) k
path_append p i j k [] ys first second = subst (λ n. IsPath p n ys k) (sym first) second
path_append p i j k (x ∷ xs) ys first second = (first.0, path_append p x j k xs ys first.1 second)

pub linked_both : (p : Clearing) (i j k : ℕ) → Linked p i j → Linked p j k → Linked p i k
linked_both p i j k first second = record { over = first.over ++ second.over; path = path_append p i j k first.over second.over first.path second.path }

pub linked_share : (p : Clearing) (i j : ℕ) → Share p i j → Linked p i j
linked_share p i j share = record { over = j ∷ []; path = (share, refl) }

share_back : (p : Clearing) (i j : ℕ) → Share p i j → Share p j i
share_back p i j share = record { line = share.line; first = share.second; second = share.first }

path_back : (p : Clearing) (i k : ℕ) (xs : List ℕ) → IsPath p i xs k → Linked p k i
path_back p i k [] path = subst (λ n. Linked p k n) (sym path) (linked_refl p k)
path_back p i k (x ∷ xs) path = linked_both p k x i (path_back p x k xs path.1) (linked_share p x i (share_back p i x path.0))

pub linked_back : (p : Clearing) (i k : ℕ) → Linked p i k → Linked p k i
linked_back p i k linked = path_back p i k linked.over linked.path

-- past the last place nothing is changed
pub change_within : (p : Clearing) (j l : ℕ) → effect p j l ≢ pos 0 → j < length p.items
change_within p j l changed = elim (cases_lt j (length p.items)) as (λ _. j < length p.items) [
  | inl within ↦ within
  | inr past ↦ absurd (changed (ap (λ (item : Item). sum_over (on_line l) item.effects) (get_or_past p.items j no_item past)))
]

-- a property that shared lines pass on is passed on by links
pub along : (p : Clearing) (P : ℕ → Type 0) (i k : ℕ) (xs : List ℕ) → ((a b : ℕ) → Share p a b → P a → P b) → IsPath p i xs k → P i → P k
along p P i k [] pass path here = subst P path here
along p P i k (x ∷ xs) pass path here = along p P x k xs pass path.1 (pass i x path.0 here)
