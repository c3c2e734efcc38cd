use Rattle.std.proofs.Common.{◌≡◌, ℕ, Bool, true, false, ◌&&◌, List, length, set, Option, Some, None, refl, ap, sym, ◌∙◌, subst}
use Rattle.std.proofs.lemmas.Bool.{and_parts}
use Rattle.std.proofs.lemmas.List.{length-set}
use Rattle.dali_problem.specs.declared.mark.Mark.{Mark}
use Rattle.dali_problem.specs.declared.mark.Mark.TheVariants.{Chosen, Left}
use Rattle.dali_problem.specs.Clearing.{Clearing}
use Rattle.dali_problem.specs.Partial.{mark, is_undecided}
use Rattle.dali_tree.specs.declared.fix.Fix.{Fix}
use Rattle.dali_tree.specs.declared.tree.Tree.{Tree}
use Rattle.dali_tree.specs.declared.tree.End.{End}
use Rattle.dali_tree.specs.declared.tree.End.TheOpen.{Tree-F, End-F}
use Rattle.dali_tree.specs.declared.tree.End.TheFolds.{fold-roll-End, fold-roll-Tree, ind-Tree, map-End, map-Tree}
use Rattle.dali_tree.specs.declared.tree.End.TheViews.{roll-End, roll-Tree}
use Rattle.dali_fixes.specs.Fixed.{after}
use Rattle.dali_fixes.proofs.Sets.{AtMost}
use Rattle.dali_fixes.proofs.Exchange.{branch_keeps, short_keeps, after_length}
use Rattle.dali_check.specs.Sides.{when_fixed}
use Rattle.dali_check.specs.Proves.{proves_end, proves_tree}
use Rattle.dali_check.specs.Ends.{proves_ends}
use Rattle.dali_check.proofs.Weakly.{closes_keeps}
use Rattle.dali_check.proofs.AlikeTrees.{Test, at_node}
use Rattle.dali_check.proofs.Trees.{Bounds}
use Rattle.dali_marks.specs.OwnLines.{ChangesOwnLines}
use Rattle.dali_marks.proofs.Exchanging.{fixes_keep}

-- A tree proves its bound of any problem whose items change only its own lines. Each number may be of any size.

abbrev EndP : Clearing → ℕ → End → Type 0
EndP p u e = Bounds p u (proves_ends p u e)

abbrev TreeP : Clearing → ℕ → Tree → Type 0
TreeP p u t = Bounds p u (proves_tree p u t)

-- the equations of the two folds
end_is : (p : Clearing) (u : ℕ) (x : End-F End Tree) (f : List Mark) →
    proves_ends p u (roll-End x) f ≡ proves_end p u (map-End End Tree Test Test (proves_ends p u) (proves_tree p u) x) f
end_is p u x f = ap (λ test. test f) (fold-roll-End Test Test (proves_end p u) (at_node p) x)

tree_is : (p : Clearing) (u : ℕ) (x : Tree-F End Tree) (f : List Mark) →
    proves_tree p u (roll-Tree x) f ≡ at_node p (map-Tree End Tree Test Test (proves_ends p u) (proves_tree p u) x) f
tree_is p u x f = ap (λ test. test f) (fold-roll-Tree Test Test (proves_end p u) (at_node p) x)

ends_keep : (p : Clearing) (u : ℕ) → (y : End-F ((e : End) × EndP p u e) ((t : Tree) × TreeP p u t)) →
    EndP p u (roll-End (map-End _ _ End Tree (λ e. e.0) (λ t. t.0) y))
ends_keep p u (End-F.Bound lam) = record {
  bounds = (λ f size told. closes_keeps p f u lam (sym (end_is p u (End-F.Bound lam) f) ∙ told));
}
ends_keep p u (End-F.Short line) = record {
  bounds = (λ f size told. short_keeps p f line u (sym (end_is p u (End-F.Short line) f) ∙ told));
}
ends_keep p u (End-F.Branch place lam inside outside) = record {
  bounds = (λ f size told.
      let both = and_parts (is_undecided (mark f place) && proves_tree p u inside.0 (set f place Chosen)) (proves_tree p u outside.0 (set f place Left))
      (sym (end_is p u (End-F.Branch place lam inside.0 outside.0) f) ∙ told) in
      let first = and_parts (is_undecided (mark f place)) (proves_tree p u inside.0 (set f place Chosen)) both.0 in
      branch_keeps p f place u first.0
      (inside.1.bounds (set f place Chosen) (length-set f place Chosen ∙ size) first.1)
      (outside.1.bounds (set f place Left) (length-set f place Left ∙ size) both.1));
}

fixed_keeps : (p : Clearing) (u : ℕ) (fixes : List Fix) (test : List Mark → Bool) (f : List Mark) (to : Option (List Mark)) →
    ChangesOwnLines p → length f ≡ length p.items → Bounds p u test → after p fixes f ≡ to → when_fixed to test ≡ true → AtMost p f u
fixed_keeps p u fixes test f None own size holds leads told = absurd (false_true told)
  where
    false_true : false ≡ true → ⊥
    false_true is = cc
fixed_keeps p u fixes test f (Some g) own size holds leads told =
    fixes_keep p fixes f g u own size leads (holds.bounds g (after_length p fixes f g leads ∙ size) told)

trees_keep : (p : Clearing) (u : ℕ) → ChangesOwnLines p → (y : Tree-F ((e : End) × EndP p u e) ((t : Tree) × TreeP p u t)) →
    TreeP p u (roll-Tree (map-Tree _ _ End Tree (λ e. e.0) (λ t. t.0) y))
trees_keep p u own y = record {
  bounds = (λ f size told. fixed_keeps p u y.fixes (proves_ends p u y.end.0) f (after p y.fixes f) own size y.end.1 refl
      (sym (tree_is p u (map-Tree _ _ End Tree (λ e. e.0) (λ t. t.0) y) f) ∙ told));
}

-- what a tree proves is a bound
pub tree_bounds : (p : Clearing) (u : ℕ) → ChangesOwnLines p → (tree : Tree) → Bounds p u (proves_tree p u tree)
tree_bounds p u own = ind-Tree (EndP p u) (TreeP p u)
    (λ x y is. subst (λ z. EndP p u (roll-End z)) is (ends_keep p u y))
    (λ x y is. subst (λ z. TreeP p u (roll-Tree z)) is (trees_keep p u own y))
