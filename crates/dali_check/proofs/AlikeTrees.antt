use Rattle.std.proofs.Common.{◌≡◌, ℕ, ◌+◌, ◌*◌, pos, Bool, ◌&&◌, List, set, ap, sym, ◌∙◌, subst}
use Rattle.std.specs.Int.Signed.{lt_z}
use Rattle.dali_problem.specs.declared.mark.Mark.{Mark}
use Rattle.dali_problem.specs.declared.mark.Mark.TheVariants.{Chosen, Left}
use Rattle.dali_problem.specs.Clearing.{Clearing}
use Rattle.dali_problem.specs.Partial.{mark, is_undecided}
use Rattle.dali_tree.specs.declared.tree.Tree.{Tree}
use Rattle.dali_tree.specs.declared.tree.End.{End}
use Rattle.dali_tree.specs.declared.tree.End.TheOpen.{Tree-F, End-F}
use Rattle.dali_tree.specs.declared.tree.End.TheFolds.{fold-Tree, fold-End, fold-roll-End, fold-roll-Tree, ind-Tree, map-End, map-Tree}
use Rattle.dali_tree.specs.declared.tree.End.TheViews.{roll-End, roll-Tree}
use Rattle.dali_lagrange.specs.Multipliers.{multiplier}
use Rattle.dali_fixes.specs.Fixed.{after}
use Rattle.dali_check.specs.Sides.{when_fixed}
use Rattle.dali_check.specs.Proves.{closes, proves_end, proves_tree}
use Rattle.dali_check.proofs.Alike.{Like, Respects, like_set, sum_like, short_like, fixed_like, both}

-- a test of partial choices, and a step of a fold into such tests
abbrev pub Test : Type 0
Test = List Mark → Bool

abbrev pub Step : Type 0
Step = End-F Test Test → Test

abbrev pub at_node : Clearing → Tree-F Test Test → List Mark → Bool
at_node p node f = when_fixed (after p node.fixes f) node.end

-- each end tells the same of partial choices that are alike, where its sides do
pub record KeepsLike (step : Step) : Type 0 where
  pub bound : (lam : List (ℕ × ℕ)) → Respects (step (End-F.Bound lam))
  pub short : (line : ℕ) → Respects (step (End-F.Short line))
  pub branch : (place : ℕ) (lam : List (ℕ × ℕ)) (inside outside : Test) → Respects inside → Respects outside →
      Respects (step (End-F.Branch place lam inside outside))

abbrev ends_by : Clearing → Step → End → Test
ends_by p step = fold-End Test Test step (at_node p)

abbrev pub tree_by : Clearing → Step → Tree → Test
tree_by p step = fold-Tree Test Test step (at_node p)

abbrev EndP : Clearing → Step → End → Type 0
EndP p step e = Respects (ends_by p step e)

abbrev TreeP : Clearing → Step → Tree → Type 0
TreeP p step t = Respects (tree_by p step t)

-- two tests that are equal
by_equal : (s t : Test) → s ≡ t → Respects t → Respects s
by_equal s t same respects = record {
  same = (λ f g like. ap (λ test. test f) same ∙ respects.same f g like ∙ sym (ap (λ test. test g) same));
}

ends_like : (p : Clearing) (step : Step) → KeepsLike step → (y : End-F ((e : End) × EndP p step e) ((t : Tree) × TreeP p step t)) →
    EndP p step (roll-End (map-End _ _ End Tree (λ e. e.0) (λ t. t.0) y))
ends_like p step keeps (End-F.Bound lam) =
    by_equal (ends_by p step (roll-End (End-F.Bound lam))) (step (End-F.Bound lam)) (fold-roll-End Test Test step (at_node p) (End-F.Bound lam)) (keeps.bound lam)
ends_like p step keeps (End-F.Short line) =
    by_equal (ends_by p step (roll-End (End-F.Short line))) (step (End-F.Short line)) (fold-roll-End Test Test step (at_node p) (End-F.Short line)) (keeps.short line)
ends_like p step keeps (End-F.Branch place lam inside outside) =
    by_equal (ends_by p step (roll-End (End-F.Branch place lam inside.0 outside.0)))
    (step (End-F.Branch place lam (tree_by p step inside.0) (tree_by p step outside.0)))
    (fold-roll-End Test Test step (at_node p) (End-F.Branch place lam inside.0 outside.0))
    (keeps.branch place lam (tree_by p step inside.0) (tree_by p step outside.0) inside.1 outside.1)

trees_like : (p : Clearing) (step : Step) → (y : Tree-F ((e : End) × EndP p step e) ((t : Tree) × TreeP p step t)) →
    TreeP p step (roll-Tree (map-Tree _ _ End Tree (λ e. e.0) (λ t. t.0) y))
trees_like p step y =
    by_equal (tree_by p step (roll-Tree (map-Tree _ _ End Tree (λ e. e.0) (λ t. t.0) y)))
    (λ f. when_fixed (after p y.fixes f) (ends_by p step y.end.0))
    (fold-roll-Tree Test Test step (at_node p) (map-Tree _ _ End Tree (λ e. e.0) (λ t. t.0) y))
    (record { same = (λ f g like. fixed_like p y.fixes (ends_by p step y.end.0) f g y.end.1 like) })

-- a fold over a tree tells the same of partial choices that are alike
pub tree_like : (p : Clearing) (step : Step) → KeepsLike step → (tree : Tree) → Respects (tree_by p step tree)
tree_like p step keeps = ind-Tree (EndP p step) (TreeP p step)
    (λ x y is. subst (λ z. EndP p step (roll-End z)) is (ends_like p step keeps y))
    (λ x y is. subst (λ z. TreeP p step (roll-Tree z)) is (trees_like p step y))

pub closes_like : (p : Clearing) (u : ℕ) (lam : List (ℕ × ℕ)) (f g : List Mark) → Like f g → closes p u lam f ≡ closes p u lam g
unfolding closes
closes_like p u lam f g like = ap (λ z. lt_z z (pos (4096 * (u + 1)))) (sum_like p f g (multiplier lam) like)

-- so does what a tree proves
pub proves_like : (p : Clearing) (u : ℕ) (tree : Tree) (f g : List Mark) → Like f g → proves_tree p u tree f ≡ proves_tree p u tree g
proves_like p u tree = (tree_like p (proves_end p u) (record {
  bound = (λ lam. record { same = closes_like p u lam });
  short = (λ line. record { same = (λ f g like. short_like p f g line like) });
  branch = (λ place lam inside outside in_like out_like. record {
    same = (λ f g like. both (is_undecided (mark f place) && inside (set f place Chosen)) (is_undecided (mark g place) && inside (set g place Chosen))
        (outside (set f place Left)) (outside (set g place Left))
        (both (is_undecided (mark f place)) (is_undecided (mark g place)) (inside (set f place Chosen)) (inside (set g place Chosen))
        (like.undecided place) (in_like.same (set f place Chosen) (set g place Chosen) (like_set f g place Chosen like)))
        (out_like.same (set f place Left) (set g place Left) (like_set f g place Left like)));
  });
}) tree).same
