use Rattle.std.specs.Prelude.{ℕ, ◌+◌, ◌*◌, pos, Bool, ◌&&◌, List, length, slice_set}
use Rattle.std.specs.Int.Signed.{lt_z}
use Rattle.dali_problem.specs.declared.mark.Mark.{Mark}
use Rattle.dali_problem.specs.declared.mark.Mark.TheVariants.{Chosen, Left}
use Rattle.dali_problem.specs.Clearing.{Clearing}
use Rattle.dali_problem.specs.Partial.{mark, is_undecided}
use Rattle.dali_problem.specs.Rules.{is_short}
use Rattle.dali_tree.specs.declared.tree.Tree.{Tree}
use Rattle.dali_tree.specs.declared.tree.End.TheOpen.{End-F}
use Rattle.dali_tree.specs.declared.tree.End.TheFolds.{fold-Tree}
use Rattle.dali_tree.specs.declared.choice.Part.{Part}
use Rattle.dali_lagrange.specs.Bound.{sum_of}
use Rattle.dali_lagrange.specs.Limits.{scale}
use Rattle.dali_lagrange.specs.Multipliers.{multiplier}
use Rattle.dali_fixes.specs.Fixed.{after}
use Rattle.dali_check.specs.Sides.{opened, when_fixed}

-- no set that agrees is worth more than the bound, by the Sum at these multipliers
unfoldable pub closes : Clearing → ℕ → List (ℕ × ℕ) → List Mark → Bool
closes p bound lam f = lt_z (sum_of p f (multiplier lam)) (pos (scale * (bound + 1)))

-- how an end proves a bound at a partial choice; a side stands for what it proves
abbrev pub proves_end : Clearing → ℕ → End-F (List Mark → Bool) (List Mark → Bool) → List Mark → Bool
proves_end p bound (End-F.Bound lam) f = closes p bound lam f
proves_end p bound (End-F.Short line) f = is_short p f line
proves_end p bound (End-F.Branch place lam inside outside) f =
    is_undecided (mark f place) && inside (slice_set f place Chosen) && outside (slice_set f place Left)

-- a tree proves a bound at a partial choice: its fixes hold in order, and its end proves it where they lead
abbrev pub proves_tree : Clearing → ℕ → Tree → List Mark → Bool
proves_tree p bound = fold-Tree (List Mark → Bool) (List Mark → Bool) (proves_end p bound)
    (λ node f. when_fixed (after p node.fixes f) node.end)

-- a part's tree proves its bound, with its members all undecided
abbrev pub proves_part : Clearing → Part → Bool
proves_part p part = proves_tree p part.bound part.tree (opened (length p.items) part.members)
