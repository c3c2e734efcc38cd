use Rattle.std.proofs.Common.{◌≡◌, ℕ, ◌&&◌, ◌||◌, List, set, ap, sym, ◌∙◌}
use Rattle.dali_problem.specs.declared.mark.Mark.{Mark}
use Rattle.dali_problem.specs.declared.mark.Mark.TheVariants.{Chosen, Left}
use Rattle.dali_problem.specs.Clearing.{Clearing}
use Rattle.dali_tree.specs.declared.tree.Tree.{Tree}
use Rattle.dali_tree.specs.declared.tree.End.{End, Branch}
use Rattle.dali_tree.specs.declared.tree.End.TheOpen.{End-F}
use Rattle.dali_tree.specs.declared.tree.End.TheFolds.{fold-roll-End}
use Rattle.dali_tree.specs.declared.tree.End.TheVariants.{rolls-Branch}
use Rattle.dali_check.specs.Lean.{is_led, lean_end, lean_tree, tight_end, tight_tree}
use Rattle.dali_check.specs.Ends.{lean_ends, tight_ends}
use Rattle.dali_check.proofs.AlikeTrees.{Test, at_node}

-- what is said of a branch
pub lean_branch : (p : Clearing) (u v place : ℕ) (lam : List (ℕ × ℕ)) (inside outside : Tree) (f : List Mark) →
    lean_ends p u v (Branch place lam inside outside) f
    ≡ (is_led p u lam f place && lean_tree p u v inside (set f place Chosen) && lean_tree p u v outside (set f place Left))
lean_branch p u v place lam inside outside f =
    ap (λ (e : End). lean_ends p u v e f) (sym (rolls-Branch place lam inside outside))
    ∙ ap (λ (test : Test). test f) (fold-roll-End Test Test (lean_end p u v) (at_node p) (End-F.Branch place lam inside outside))

pub tight_branch : (p : Clearing) (u place : ℕ) (lam : List (ℕ × ℕ)) (inside outside : Tree) (f : List Mark) →
    tight_ends p u (Branch place lam inside outside) f
    ≡ (tight_tree p u inside (set f place Chosen) || tight_tree p u outside (set f place Left))
tight_branch p u place lam inside outside f =
    ap (λ (e : End). tight_ends p u e f) (sym (rolls-Branch place lam inside outside))
    ∙ ap (λ (test : Test). test f) (fold-roll-End Test Test (tight_end p u) (at_node p) (End-F.Branch place lam inside outside))
