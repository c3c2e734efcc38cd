use Rattle.std.specs.Prelude.{ℕ, ◌+◌, ◌*◌, ◌==◌, pos, Bool, true, false, ◌&&◌, ◌||◌, not, nat_lt, nat_le, if◌then◌else◌, List, length, slice_set}
use Rattle.std.specs.Int.RustNames.{unsigned_abs}
use Rattle.std.specs.Int.Signed.{le_z}
use Rattle.dali_problem.specs.declared.mark.Mark.{Mark}
use Rattle.dali_problem.specs.declared.mark.Mark.TheVariants.{Chosen, Left}
use Rattle.dali_problem.specs.Clearing.{Clearing}
use Rattle.dali_problem.specs.Partial.{mark, is_undecided}
use Rattle.dali_problem.specs.Rules.{is_barred, is_needed, is_safe, all_below}
use Rattle.dali_tree.specs.declared.tree.Tree.{Tree}
use Rattle.dali_tree.specs.declared.tree.End.TheOpen.{End-F}
use Rattle.dali_tree.specs.declared.tree.End.TheFolds.{fold-Tree}
use Rattle.dali_tree.specs.declared.choice.Part.{Part}
use Rattle.dali_lagrange.specs.Bound.{reduced, sum_of}
use Rattle.dali_lagrange.specs.Limits.{scale}
use Rattle.dali_lagrange.specs.Multipliers.{multiplier}
use Rattle.dali_lagrange.specs.Settled.{is_settled}
use Rattle.dali_fixes.specs.Fixed.{after}
use Rattle.dali_check.specs.Sides.{opened, when_fixed}
use Rattle.dali_check.specs.Proves.{closes}

-- the bound of these multipliers, the Sum in whole 4,096ths, is at least u
unfoldable pub reaches : Clearing → ℕ → List (ℕ × ℕ) → List Mark → Bool
reaches p u lam f = le_z (pos (scale * u)) (sum_of p f (multiplier lam))

-- no fix rule holds for any undecided member, with any line
unfoldable pub is_reduced : Clearing → List Mark → Bool
is_reduced p f =
    all_below (λ j. not (is_safe p f j)
    && all_below (λ l. not (is_barred p f j l) && not (is_needed p f j l)) (length p.lines)) (length p.items)

-- some member is undecided
unfoldable pub is_open : Clearing → List Mark → Bool
is_open p f = not (all_below (λ j. not (is_undecided (mark f j))) (length p.items))

-- the reduced value of j, in size
abbrev pub nearness : Clearing → List (ℕ × ℕ) → ℕ → ℕ
nearness p lam j = unsigned_abs (reduced p (multiplier lam) j)

-- the place is undecided, and the first of those whose reduced value is least in size
unfoldable pub is_nearest : Clearing → List (ℕ × ℕ) → List Mark → ℕ → Bool
is_nearest p lam f place = is_undecided (mark f place)
    && all_below (λ j. not (is_undecided (mark f j))
    || (if nat_lt j place then nat_lt (nearness p lam place) (nearness p lam j)
    else nat_le (nearness p lam place) (nearness p lam j))) (length p.items)

-- the multipliers are settled, and no fix rule is left
abbrev pub is_worked : Clearing → List (ℕ × ℕ) → List Mark → Bool
is_worked p lam f = is_settled p f (multiplier lam) && is_reduced p f

-- with v as what is chosen in the part is worth: an end is closed, its bound at most v, or it is worked and some member
-- is left to go on with
unfoldable pub is_finished : Clearing → ℕ → List (ℕ × ℕ) → List Mark → Bool
is_finished p v lam f = not (reaches p (v + 1) lam f) || (is_worked p lam f && is_open p f)

-- with u as the bound of the tree: a branch has a bound of at least u, is worked, and goes by the nearest place
unfoldable pub is_led : Clearing → ℕ → List (ℕ × ℕ) → List Mark → ℕ → Bool
is_led p u lam f place = reaches p u lam f && is_worked p lam f && is_nearest p lam f place

-- a bound end has the bound u
unfoldable pub is_tight : Clearing → ℕ → List (ℕ × ℕ) → List Mark → Bool
is_tight p u lam f = reaches p u lam f && closes p u lam f

-- each bound end is finished, and each branch is led
abbrev pub lean_end : Clearing → ℕ → ℕ → End-F (List Mark → Bool) (List Mark → Bool) → List Mark → Bool
lean_end p u v (End-F.Bound lam) f = is_finished p v lam f
lean_end p u v (End-F.Short line) f = true
lean_end p u v (End-F.Branch place lam inside outside) f =
    is_led p u lam f place && inside (slice_set f place Chosen) && outside (slice_set f place Left)

abbrev pub lean_tree : Clearing → ℕ → ℕ → Tree → List Mark → Bool
lean_tree p u v = fold-Tree (List Mark → Bool) (List Mark → Bool) (lean_end p u v)
    (λ node f. when_fixed (after p node.fixes f) node.end)

-- some bound end has the bound u
abbrev pub tight_end : Clearing → ℕ → End-F (List Mark → Bool) (List Mark → Bool) → List Mark → Bool
tight_end p u (End-F.Bound lam) f = is_tight p u lam f
tight_end p u (End-F.Short line) f = false
tight_end p u (End-F.Branch place lam inside outside) f =
    inside (slice_set f place Chosen) || outside (slice_set f place Left)

abbrev pub tight_tree : Clearing → ℕ → Tree → List Mark → Bool
tight_tree p u = fold-Tree (List Mark → Bool) (List Mark → Bool) (tight_end p u)
    (λ node f. when_fixed (after p node.fixes f) node.end)

-- a part whose tree proves its bound has no needless work in the tree, where v is the value of its chosen places
abbrev pub lean_part : Clearing → Part → ℕ → Bool
lean_part p part v =
    lean_tree p part.bound v part.tree (opened (length p.items) part.members)
    && (part.bound == v || tight_tree p part.bound part.tree (opened (length p.items) part.members))
