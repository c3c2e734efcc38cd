use Rattle.std.proofs.Common.{◌≡◌, ℕ, ◌^◌, ◌<◌, Bool, true, false, ◌&&◌, ◌||◌, ltb, leb, List, [], ◌∷◌, length, map, set, Option, None, if◌then◌else◌, refl, ap, sym, ◌∙◌, subst, arith}
use Rattle.std.specs.List.{All, list_all}
use Rattle.std.proofs.lemmas.Bool.{and_parts}
use Rattle.std.proofs.lemmas.List.Elements.{All-nil, All-cons}
use Rattle.dali_problem.specs.declared.mark.Mark.{Mark}
use Rattle.dali_problem.specs.declared.mark.Mark.TheVariants.{Chosen, Left}
use Rattle.dali_problem.specs.Clearing.{Clearing}
use Rattle.dali_problem.specs.Partial.{mark, is_undecided}
use Rattle.dali_tree.specs.declared.fix.Fix.{Fix}
use Rattle.dali_tree.specs.declared.fix.Fix.TheVariants.{Barred, Needed, Safe}
use Rattle.dali_tree.specs.declared.tree.Tree.{Tree}
use Rattle.dali_tree.specs.declared.tree.End.{End}
use Rattle.dali_tree.specs.declared.tree.End.TheVariants.{rolls-Bound, rolls-Short, rolls-Branch}
use Rattle.dali_tree.specs.declared.tree.End.TheOpen.{Tree-F, End-F}
use Rattle.dali_tree.specs.declared.tree.End.TheFolds.{fold-Tree, fold-End, fold-roll-End, fold-roll-Tree, ind-Tree, map-End, map-Tree}
use Rattle.dali_tree.specs.declared.tree.End.TheViews.{roll-End, roll-Tree, rolls-struct-Tree}
use Rattle.dali_tree.specs.Fits.{fix_fits, is_rising}
use Rattle.dali_tree.specs.Range.{multiplier_in_range, lam_in_range, end_in_range, tree_in_range}
use Rattle.dali_tree.specs.Ends.{ends_in_range}
use Rattle.dali_fixes.specs.Fixed.{place_of, becomes, holds, after}
use Rattle.dali_check.specs.Sides.{when_fixed}
use Rattle.dali_check.specs.Proves.{proves_end, proves_tree}
use Rattle.dali_check.specs.Lean.{is_led, lean_end, lean_tree, tight_end, tight_tree}
use Rattle.dali_restrict.specs.Restriction.{old_of}
use Rattle.dali_restrict.specs.Widened.{wide_fix, wide_lam, end_step, node_step, wide_tree, wide_ends}
use Rattle.dali_restrict.proofs.Renumber.{IsPart}
use Rattle.dali_restrict.proofs.Wide.{IsWide, wide_set, short_wide, barred_wide, needed_wide, safe_wide, undecided_wide, both}
use Rattle.dali_restrict.proofs.Judged.{AreInner, closes_wide, finished_wide, led_wide, tight_wide}

abbrev pub Test : Type 0
Test = List Mark → Bool

abbrev pub Step : Type 0
Step = End-F Test Test → Test

-- a test of the old numbers tells what one of the new numbers tells
pub record Agree (p : Clearing) (places : List ℕ) (outer inner : Test) : Type 0 where
  pub same : (f g : List Mark) → IsWide (length p.items) places f g → outer g ≡ inner f

-- two steps of folds into such tests
pub record StepsAgree (p : Clearing) (places lines : List ℕ) (outer inner : Step) : Type 0 where
  pub bound : (lam : List (ℕ × ℕ)) → AreInner lines lam → Agree p places (outer (End-F.Bound (wide_lam lines lam))) (inner (End-F.Bound lam))
  pub short : (line : ℕ) → line < length lines → Agree p places (outer (End-F.Short (old_of lines line))) (inner (End-F.Short line))
  pub branch : (place : ℕ) (lam : List (ℕ × ℕ)) (in_outer in_inner out_outer out_inner : Test) → place < length places → AreInner lines lam →
      Agree p places in_outer in_inner → Agree p places out_outer out_inner →
      Agree p places (outer (End-F.Branch (old_of places place) (wide_lam lines lam) in_outer out_outer)) (inner (End-F.Branch place lam in_inner out_inner))

abbrev at_node : Clearing → Tree-F Test Test → List Mark → Bool
at_node p node f = when_fixed (after p node.fixes f) node.end

abbrev ends_by : Clearing → Step → End → Test
ends_by p step = fold-End Test Test step (at_node p)

abbrev tree_by : Clearing → Step → Tree → Test
tree_by p step = fold-Tree Test Test step (at_node p)

less_told : (a b : ℕ) → ltb a b ≡ true → a < b
less_told a b told = grind arith

-- multipliers that are in range are on lines of the inner problem
pub inner_lam : (lines : List ℕ) (n : ℕ) (lam : List (ℕ × ℕ)) → n ≡ length lines → lam_in_range n lam ≡ true → AreInner lines lam
inner_lam lines n lam same told = record {
  within = each lam (and_parts (list_all (multiplier_in_range n) lam) (is_rising (map (λ (m : ℕ × ℕ). m.0) lam)) told).0;
}
  where
    each : (lam : List (ℕ × ℕ)) → list_all (multiplier_in_range n) lam ≡ true → All (λ (m : ℕ × ℕ). m.0 < length lines) lam
    each [] told = All-nil (λ (m : ℕ × ℕ). m.0 < length lines)
    each (m ∷ lam) told =
        let parts = and_parts (multiplier_in_range n m) (list_all (multiplier_in_range n) lam) told in
        let one = and_parts (ltb m.0 n) (leb m.1 (2 ^ 44)) parts.0 in
        let below : m.0 < n = less_told m.0 n one.0 in
        All-cons (λ (m : ℕ × ℕ). m.0 < length lines) m lam (omega (arith, below, same)) (each lam parts.1)

-- a fix of the inner problem holds where the one with the old numbers does, and leads to the same
record FixIs (p q : Clearing) (places lines : List ℕ) (f g : List Mark) (fix : Fix) : Type 0 where
  same : holds p g (wide_fix places lines fix) ≡ holds q f fix
  wide : IsWide (length p.items) places (set f (place_of fix) (becomes fix)) (set g (place_of (wide_fix places lines fix)) (becomes (wide_fix places lines fix)))

fix_wide : (p q : Clearing) (places lines : List ℕ) (f g : List Mark) (fix : Fix) → IsPart p q places lines → IsWide (length p.items) places f g →
    fix_fits (length q.items) (length q.lines) fix ≡ true → FixIs p q places lines f g fix
unfolding holds
fix_wide p q places lines f g (Barred j l) part wide told =
    let two = and_parts (ltb j (length q.items)) (ltb l (length q.lines)) told in
    let within : j < length places = omega (arith, less_told j (length q.items) two.0, part.items_size) in
    let below : l < length lines = omega (arith, less_told l (length q.lines) two.1, part.lines_size) in
    record { same = barred_wide p q places lines f g j l part wide within below; wide = wide_set (length p.items) places f g j Left part.members within wide }
fix_wide p q places lines f g (Needed j l) part wide told =
    let two = and_parts (ltb j (length q.items)) (ltb l (length q.lines)) told in
    let within : j < length places = omega (arith, less_told j (length q.items) two.0, part.items_size) in
    let below : l < length lines = omega (arith, less_told l (length q.lines) two.1, part.lines_size) in
    record { same = needed_wide p q places lines f g j l part wide within below; wide = wide_set (length p.items) places f g j Chosen part.members within wide }
fix_wide p q places lines f g (Safe j) part wide told =
    let within : j < length places = omega (arith, less_told j (length q.items) told, part.items_size) in
    record { same = safe_wide p q places lines f g j part wide within; wide = wide_set (length p.items) places f g j Chosen part.members within wide }

fixed_wide : (p q : Clearing) (places lines : List ℕ) (fixes : List Fix) (outer inner : Test) (f g : List Mark) → IsPart p q places lines → Agree p places outer inner →
    IsWide (length p.items) places f g → list_all (fix_fits (length q.items) (length q.lines)) fixes ≡ true →
    when_fixed (after p (map (wide_fix places lines) fixes) g) outer ≡ when_fixed (after q fixes f) inner
fixed_wide p q places lines [] outer inner f g part agree wide told = agree.same f g wide
fixed_wide p q places lines (fix ∷ fixes) outer inner f g part agree wide told =
    let parts = and_parts (fix_fits (length q.items) (length q.lines) fix) (list_all (fix_fits (length q.items) (length q.lines)) fixes) told in
    let is = fix_wide p q places lines f g fix part wide parts.0 in
    let to_f : List Mark = set f (place_of fix) (becomes fix) in
    let to_g : List Mark = set g (place_of (wide_fix places lines fix)) (becomes (wide_fix places lines fix)) in
    let next : when_fixed (after p (map (wide_fix places lines) fixes) to_g) outer ≡ when_fixed (after q fixes to_f) inner =
    fixed_wide p q places lines fixes outer inner to_f to_g part agree is.wide parts.1 in
    ap (λ b. when_fixed (if b then after p (map (wide_fix places lines) fixes) to_g else None) outer) is.same
    ∙ either (holds q f fix) (after p (map (wide_fix places lines) fixes) to_g) (after q fixes to_f) next
  where
    either : (b : Bool) (x y : Option (List Mark)) → when_fixed x outer ≡ when_fixed y inner →
        when_fixed (if b then x else None) outer ≡ when_fixed (if b then y else None) inner
    either true x y same = same
    either false x y same = refl

-- the equations of widening
pub ends_bound : (places lines : List ℕ) (lam : List (ℕ × ℕ)) → wide_ends places lines (roll-End (End-F.Bound lam)) ≡ roll-End (End-F.Bound (wide_lam lines lam))
ends_bound places lines lam = fold-roll-End End Tree (end_step places lines) (node_step places lines) (End-F.Bound lam) ∙ sym (rolls-Bound (wide_lam lines lam))

pub ends_short : (places lines : List ℕ) (line : ℕ) → wide_ends places lines (roll-End (End-F.Short line)) ≡ roll-End (End-F.Short (old_of lines line))
ends_short places lines line = fold-roll-End End Tree (end_step places lines) (node_step places lines) (End-F.Short line) ∙ sym (rolls-Short (old_of lines line))

pub ends_branch : (places lines : List ℕ) (place : ℕ) (lam : List (ℕ × ℕ)) (inside outside : Tree) →
    wide_ends places lines (roll-End (End-F.Branch place lam inside outside))
    ≡ roll-End (End-F.Branch (old_of places place) (wide_lam lines lam) (wide_tree places lines inside) (wide_tree places lines outside))
ends_branch places lines place lam inside outside =
    fold-roll-End End Tree (end_step places lines) (node_step places lines) (End-F.Branch place lam inside outside)
    ∙ sym (rolls-Branch (old_of places place) (wide_lam lines lam) (wide_tree places lines inside) (wide_tree places lines outside))

pub tree_node : (places lines : List ℕ) (x : Tree-F End Tree) →
    wide_tree places lines (roll-Tree x) ≡ roll-Tree (record { fixes = map (wide_fix places lines) x.fixes; end = wide_ends places lines x.end })
tree_node places lines x =
    fold-roll-Tree End Tree (end_step places lines) (node_step places lines) x
    ∙ sym (rolls-struct-Tree (record { fixes = map (wide_fix places lines) x.fixes; end = wide_ends places lines x.end }))

abbrev ranges_at : ℕ → ℕ → Tree-F Bool Bool → Bool
ranges_at items lines node = list_all (fix_fits items lines) node.fixes && node.end

ends_range : (items lines : ℕ) (x : End-F End Tree) →
    ends_in_range items lines (roll-End x) ≡ end_in_range items lines (map-End End Tree Bool Bool (ends_in_range items lines) (tree_in_range items lines) x)
ends_range items lines x = fold-roll-End Bool Bool (end_in_range items lines) (ranges_at items lines) x

tree_range : (items lines : ℕ) (x : Tree-F End Tree) →
    tree_in_range items lines (roll-Tree x) ≡ ranges_at items lines (map-Tree End Tree Bool Bool (ends_in_range items lines) (tree_in_range items lines) x)
tree_range items lines x = fold-roll-Tree Bool Bool (end_in_range items lines) (ranges_at items lines) x

-- what both folds tell of an end, and of a tree, whose numbers are in range
record EndsAgree (p q : Clearing) (places lines : List ℕ) (outer inner : Step) (e : End) : Type 0 where
  agree : ends_in_range (length q.items) (length q.lines) e ≡ true → Agree p places (ends_by p outer (wide_ends places lines e)) (ends_by q inner e)

pub record TreesAgree (p q : Clearing) (places lines : List ℕ) (outer inner : Step) (t : Tree) : Type 0 where
  pub agree : tree_in_range (length q.items) (length q.lines) t ≡ true → Agree p places (tree_by p outer (wide_tree places lines t)) (tree_by q inner t)

by_equal : (p : Clearing) (places : List ℕ) (a b c d : Test) → a ≡ b → c ≡ d → Agree p places b d → Agree p places a c
by_equal p places a b c d one two agree = record {
  same = (λ f g wide. ap (λ (t : Test). t g) one ∙ agree.same f g wide ∙ sym (ap (λ (t : Test). t f) two));
}

ends_agree : (p q : Clearing) (places lines : List ℕ) (outer inner : Step) → IsPart p q places lines → StepsAgree p places lines outer inner →
    (y : End-F ((e : End) × EndsAgree p q places lines outer inner e) ((t : Tree) × TreesAgree p q places lines outer inner t)) →
    EndsAgree p q places lines outer inner (roll-End (map-End _ _ End Tree (λ e. e.0) (λ t. t.0) y))
ends_agree p q places lines outer inner part steps (End-F.Bound lam) = record {
  agree = (λ told.
      let range = sym (ends_range (length q.items) (length q.lines) (End-F.Bound lam)) ∙ told in
      by_equal p places (ends_by p outer (wide_ends places lines (roll-End (End-F.Bound lam)))) (outer (End-F.Bound (wide_lam lines lam)))
      (ends_by q inner (roll-End (End-F.Bound lam))) (inner (End-F.Bound lam))
      (ap (ends_by p outer) (ends_bound places lines lam) ∙ fold-roll-End Test Test outer (at_node p) (End-F.Bound (wide_lam lines lam)))
      (fold-roll-End Test Test inner (at_node q) (End-F.Bound lam))
      (steps.bound lam (inner_lam lines (length q.lines) lam part.lines_size range)));
}
ends_agree p q places lines outer inner part steps (End-F.Short line) = record {
  agree = (λ told.
      let range : ltb line (length q.lines) ≡ true = sym (ends_range (length q.items) (length q.lines) (End-F.Short line)) ∙ told in
      by_equal p places (ends_by p outer (wide_ends places lines (roll-End (End-F.Short line)))) (outer (End-F.Short (old_of lines line)))
      (ends_by q inner (roll-End (End-F.Short line))) (inner (End-F.Short line))
      (ap (ends_by p outer) (ends_short places lines line) ∙ fold-roll-End Test Test outer (at_node p) (End-F.Short (old_of lines line)))
      (fold-roll-End Test Test inner (at_node q) (End-F.Short line))
      (steps.short line (omega (arith, less_told line (length q.lines) range, part.lines_size))));
}
ends_agree p q places lines outer inner part steps (End-F.Branch place lam inside outside) = record {
  agree = (λ told.
      let all = and_parts (ltb place (length q.items) && lam_in_range (length q.lines) lam && tree_in_range (length q.items) (length q.lines) inside.0)
      (tree_in_range (length q.items) (length q.lines) outside.0)
      (sym (ends_range (length q.items) (length q.lines) (End-F.Branch place lam inside.0 outside.0)) ∙ told) in
      let three = and_parts (ltb place (length q.items) && lam_in_range (length q.lines) lam) (tree_in_range (length q.items) (length q.lines) inside.0) all.0 in
      let two = and_parts (ltb place (length q.items)) (lam_in_range (length q.lines) lam) three.0 in
      by_equal p places (ends_by p outer (wide_ends places lines (roll-End (End-F.Branch place lam inside.0 outside.0))))
      (outer (End-F.Branch (old_of places place) (wide_lam lines lam) (tree_by p outer (wide_tree places lines inside.0)) (tree_by p outer (wide_tree places lines outside.0))))
      (ends_by q inner (roll-End (End-F.Branch place lam inside.0 outside.0)))
      (inner (End-F.Branch place lam (tree_by q inner inside.0) (tree_by q inner outside.0)))
      (ap (ends_by p outer) (ends_branch places lines place lam inside.0 outside.0)
      ∙ fold-roll-End Test Test outer (at_node p) (End-F.Branch (old_of places place) (wide_lam lines lam) (wide_tree places lines inside.0) (wide_tree places lines outside.0)))
      (fold-roll-End Test Test inner (at_node q) (End-F.Branch place lam inside.0 outside.0))
      (steps.branch place lam (tree_by p outer (wide_tree places lines inside.0)) (tree_by q inner inside.0)
      (tree_by p outer (wide_tree places lines outside.0)) (tree_by q inner outside.0)
      (omega (arith, less_told place (length q.items) two.0, part.items_size)) (inner_lam lines (length q.lines) lam part.lines_size two.1)
      (inside.1.agree three.1) (outside.1.agree all.1)));
}

trees_agree : (p q : Clearing) (places lines : List ℕ) (outer inner : Step) → IsPart p q places lines →
    (y : Tree-F ((e : End) × EndsAgree p q places lines outer inner e) ((t : Tree) × TreesAgree p q places lines outer inner t)) →
    TreesAgree p q places lines outer inner (roll-Tree (map-Tree _ _ End Tree (λ e. e.0) (λ t. t.0) y))
trees_agree p q places lines outer inner part y = record {
  agree = (λ told.
      let x : Tree-F End Tree = map-Tree _ _ End Tree (λ e. e.0) (λ t. t.0) y in
      let range = and_parts (list_all (fix_fits (length q.items) (length q.lines)) y.fixes) (ends_in_range (length q.items) (length q.lines) y.end.0)
      (sym (tree_range (length q.items) (length q.lines) x) ∙ told) in
      by_equal p places (tree_by p outer (wide_tree places lines (roll-Tree x)))
      (λ g. when_fixed (after p (map (wide_fix places lines) y.fixes) g) (ends_by p outer (wide_ends places lines y.end.0)))
      (tree_by q inner (roll-Tree x)) (λ f. when_fixed (after q y.fixes f) (ends_by q inner y.end.0))
      (ap (tree_by p outer) (tree_node places lines x)
      ∙ fold-roll-Tree Test Test outer (at_node p) (record { fixes = map (wide_fix places lines) y.fixes; end = wide_ends places lines y.end.0 }))
      (fold-roll-Tree Test Test inner (at_node q) x)
      (record {
        same = (λ f g wide. fixed_wide p q places lines y.fixes (ends_by p outer (wide_ends places lines y.end.0)) (ends_by q inner y.end.0) f g part
            (y.end.1.agree range.1) wide range.0);
      }));
}

-- folds of two steps that agree tell the same of the tree with the old numbers and of the tree
pub tree_agrees : (p q : Clearing) (places lines : List ℕ) (outer inner : Step) → IsPart p q places lines → StepsAgree p places lines outer inner →
    (tree : Tree) → TreesAgree p q places lines outer inner tree
tree_agrees p q places lines outer inner part steps = ind-Tree (EndsAgree p q places lines outer inner) (TreesAgree p q places lines outer inner)
    (λ x y is. subst (λ z. EndsAgree p q places lines outer inner (roll-End z)) is (ends_agree p q places lines outer inner part steps y))
    (λ x y is. subst (λ z. TreesAgree p q places lines outer inner (roll-Tree z)) is (trees_agree p q places lines outer inner part y))

-- what a tree proves
pub proves_wide : (p q : Clearing) (places lines : List ℕ) (u : ℕ) (tree : Tree) (f g : List Mark) → IsPart p q places lines →
    tree_in_range (length q.items) (length q.lines) tree ≡ true → IsWide (length p.items) places f g →
    proves_tree p u (wide_tree places lines tree) g ≡ proves_tree q u tree f
proves_wide p q places lines u tree f g part range wide =
    ((tree_agrees p q places lines (proves_end p u) (proves_end q u) part (record {
      bound = (λ lam inner. record { same = (λ f g wide. closes_wide p q places lines f g u lam part wide inner) });
      short = (λ line below. record { same = (λ f g wide. short_wide p q places lines f g line part wide below) });
      branch = (λ place lam in_outer in_inner out_outer out_inner within inner one two. record {
        same = (λ f g wide. both (is_undecided (mark g (old_of places place)) && in_outer (set g (old_of places place) Chosen)) (is_undecided (mark f place) && in_inner (set f place Chosen))
            (out_outer (set g (old_of places place) Left)) (out_inner (set f place Left))
            (both (is_undecided (mark g (old_of places place))) (is_undecided (mark f place)) (in_outer (set g (old_of places place) Chosen)) (in_inner (set f place Chosen))
            (undecided_wide (length p.items) places f g place wide within)
            (one.same (set f place Chosen) (set g (old_of places place) Chosen) (wide_set (length p.items) places f g place Chosen part.members within wide)))
            (two.same (set f place Left) (set g (old_of places place) Left) (wide_set (length p.items) places f g place Left part.members within wide)));
      });
    }) tree).agree range).same f g wide

-- a lean tree
pub lean_wide : (p q : Clearing) (places lines : List ℕ) (u v : ℕ) (tree : Tree) (f g : List Mark) → IsPart p q places lines →
    tree_in_range (length q.items) (length q.lines) tree ≡ true → IsWide (length p.items) places f g →
    lean_tree p u v (wide_tree places lines tree) g ≡ lean_tree q u v tree f
lean_wide p q places lines u v tree f g part range wide =
    ((tree_agrees p q places lines (lean_end p u v) (lean_end q u v) part (record {
      bound = (λ lam inner. record { same = (λ f g wide. finished_wide p q places lines f g v lam part wide inner) });
      short = (λ line below. record { same = (λ f g wide. refl) });
      branch = (λ place lam in_outer in_inner out_outer out_inner within inner one two. record {
        same = (λ f g wide. both (is_led p u (wide_lam lines lam) g (old_of places place) && in_outer (set g (old_of places place) Chosen)) (is_led q u lam f place && in_inner (set f place Chosen))
            (out_outer (set g (old_of places place) Left)) (out_inner (set f place Left))
            (both (is_led p u (wide_lam lines lam) g (old_of places place)) (is_led q u lam f place) (in_outer (set g (old_of places place) Chosen)) (in_inner (set f place Chosen))
            (led_wide p q places lines f g u lam place part wide inner within)
            (one.same (set f place Chosen) (set g (old_of places place) Chosen) (wide_set (length p.items) places f g place Chosen part.members within wide)))
            (two.same (set f place Left) (set g (old_of places place) Left) (wide_set (length p.items) places f g place Left part.members within wide)));
      });
    }) tree).agree range).same f g wide

-- a tight one
pub tightest_wide : (p q : Clearing) (places lines : List ℕ) (u : ℕ) (tree : Tree) (f g : List Mark) → IsPart p q places lines →
    tree_in_range (length q.items) (length q.lines) tree ≡ true → IsWide (length p.items) places f g →
    tight_tree p u (wide_tree places lines tree) g ≡ tight_tree q u tree f
tightest_wide p q places lines u tree f g part range wide =
    ((tree_agrees p q places lines (tight_end p u) (tight_end q u) part (record {
      bound = (λ lam inner. record { same = (λ f g wide. tight_wide p q places lines f g u lam part wide inner) });
      short = (λ line below. record { same = (λ f g wide. refl) });
      branch = (λ place lam in_outer in_inner out_outer out_inner within inner one two. record {
        same = (λ f g wide.
            ap (λ b. b || out_outer (set g (old_of places place) Left))
            (one.same (set f place Chosen) (set g (old_of places place) Chosen) (wide_set (length p.items) places f g place Chosen part.members within wide))
            ∙ ap (λ b. in_inner (set f place Chosen) || b)
            (two.same (set f place Left) (set g (old_of places place) Left) (wide_set (length p.items) places f g place Left part.members within wide)));
      });
    }) tree).agree range).same f g wide
