use Rattle.std.specs.Prelude.{ℕ, Bool, List}
use Rattle.dali_problem.specs.declared.mark.Mark.{Mark}
use Rattle.dali_problem.specs.Clearing.{Clearing}
use Rattle.dali_tree.specs.declared.tree.End.{End}
use Rattle.dali_tree.specs.declared.tree.End.TheFolds.{fold-End}
use Rattle.dali_fixes.specs.Fixed.{after}
use Rattle.dali_check.specs.Sides.{when_fixed}
use Rattle.dali_check.specs.Proves.{proves_end}
use Rattle.dali_check.specs.Lean.{lean_end, tight_end}

-- the same of an end that `proves_tree`, `lean_tree` and `tight_tree` say of a tree
abbrev pub proves_ends : Clearing → ℕ → End → List Mark → Bool
proves_ends p bound = fold-End (List Mark → Bool) (List Mark → Bool) (proves_end p bound)
    (λ node f. when_fixed (after p node.fixes f) node.end)

abbrev pub lean_ends : Clearing → ℕ → ℕ → End → List Mark → Bool
lean_ends p bound value = fold-End (List Mark → Bool) (List Mark → Bool) (lean_end p bound value)
    (λ node f. when_fixed (after p node.fixes f) node.end)

abbrev pub tight_ends : Clearing → ℕ → End → List Mark → Bool
tight_ends p bound = fold-End (List Mark → Bool) (List Mark → Bool) (tight_end p bound)
    (λ node f. when_fixed (after p node.fixes f) node.end)
