use Rattle.std.proofs.Common.{◌≡◌, ℕ, List, ap, sym, ◌∙◌}
use Rattle.dali_tree.specs.declared.tree.Tree.{Tree}
use Rattle.dali_tree.specs.declared.tree.End.{End, Bound, Short, Branch}
use Rattle.dali_tree.specs.declared.tree.End.TheOpen.{Tree-F, End-F}
use Rattle.dali_tree.specs.declared.tree.End.TheFolds.{fold-Tree, fold-End, fold-roll-End}
use Rattle.dali_tree.specs.declared.tree.End.TheVariants.{rolls-Bound, rolls-Short, rolls-Branch}

-- a fold over a tree at each end
pub fold_bound : (A B : Type 0) (step : End-F A B → A) (at : Tree-F A B → B) (lam : List (ℕ × ℕ)) →
    fold-End A B step at (Bound lam) ≡ step (End-F.Bound lam)
fold_bound A B step at lam = ap (λ (e : End). fold-End A B step at e) (sym (rolls-Bound lam)) ∙ fold-roll-End A B step at (End-F.Bound lam)

pub fold_short : (A B : Type 0) (step : End-F A B → A) (at : Tree-F A B → B) (line : ℕ) →
    fold-End A B step at (Short line) ≡ step (End-F.Short line)
fold_short A B step at line = ap (λ (e : End). fold-End A B step at e) (sym (rolls-Short line)) ∙ fold-roll-End A B step at (End-F.Short line)

pub fold_branch : (A B : Type 0) (step : End-F A B → A) (at : Tree-F A B → B) (place : ℕ) (lam : List (ℕ × ℕ)) (inside outside : Tree) →
    fold-End A B step at (Branch place lam inside outside) ≡ step (End-F.Branch place lam (fold-Tree A B step at inside) (fold-Tree A B step at outside))
fold_branch A B step at place lam inside outside =
    ap (λ (e : End). fold-End A B step at e) (sym (rolls-Branch place lam inside outside)) ∙ fold-roll-End A B step at (End-F.Branch place lam inside outside)
