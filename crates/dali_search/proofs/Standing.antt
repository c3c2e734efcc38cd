use Rattle.std.proofs.Common.{◌≡◌, inl, inr, ℕ, ◌+◌, ◌^◌, ◌<◌, ◌≤◌, max, ltb, leb, Bool, true, ◌&&◌, ◌||◌, not, List, length, set, Some, refl, ap, sym, ◌∙◌, subst, add-one, arith}
use Rattle.std.specs.List.{list_all}
use Rattle.std.proofs.Math.Nat.{pow-suc, pow-le-pow_right}
use Rattle.std.proofs.lemmas.Bool.{cases_lt, cases_eq, and_from, or_left, or_right, not-false, not-true, le-leb, lt-ltb}
use Rattle.std.proofs.lemmas.Nat.{pow_pos}
use Rattle.dali_problem.specs.declared.mark.Mark.{Mark}
use Rattle.dali_problem.specs.declared.mark.Mark.TheVariants.{Undecided, Chosen, Left}
use Rattle.dali_problem.specs.Clearing.{Clearing}
use Rattle.dali_problem.specs.Limits.{IsProblem}
use Rattle.dali_problem.specs.Partial.{mark, is_undecided}
use Rattle.dali_problem.specs.Rules.{all_below}
use Rattle.dali_problem.proofs.Opened.{within_undecided}
use Rattle.dali_problem.proofs.RuleTests.{undecided_is}
use Rattle.dali_tree.specs.declared.fix.Fix.{Fix}
use Rattle.dali_tree.specs.declared.tree.Tree.{Tree}
use Rattle.dali_tree.specs.declared.tree.End.{End, Bound, Short, Branch}
use Rattle.dali_tree.specs.declared.tree.End.TheFolds.{fold_out-Tree}
use Rattle.dali_tree.specs.Fits.{fix_fits, lam_fits, end_fits, tree_fits}
use Rattle.dali_tree.specs.Tree.{count_step, depth_step, branch_count, branch_depth}
use Rattle.dali_tree.specs.Ends.{end_count, end_depth, ends_fit}
use Rattle.dali_fixes.specs.Fixed.{after}
use Rattle.dali_fixes.proofs.Exchange.{after_length}
use Rattle.dali_reduce.specs.Reduced.{undecided_count}
use Rattle.dali_check.specs.Sides.{when_fixed}
use Rattle.dali_check.specs.Proves.{closes, proves_end, proves_tree}
use Rattle.dali_check.specs.Lean.{reaches, is_worked, is_open, is_finished, is_led, is_tight, lean_end, lean_tree, tight_end, tight_tree}
use Rattle.dali_check.specs.Ends.{proves_ends, lean_ends, tight_ends}
use Rattle.dali_check.proofs.Reducing.{all_below_finds}
use Rattle.dali_check.proofs.Stands.{closes_is}
use Rattle.dali_search.specs.declared.node.Node.{Node}
use Rattle.dali_search.specs.declared.node.NodeEnd.{NodeEnd}
use Rattle.dali_search.specs.declared.node.NodeEnd.TheVariants.{Open, Pruned, Branched}
use Rattle.dali_search.specs.declared.node.Total.{Total}
use Rattle.dali_search.specs.Nodes.{node_at, total_at, total_of, AreTotals}
use Rattle.dali_search.specs.Arena.{IsOpenAt, IsPrunedAt, IsBranchedAt, EndHolds, IsArena}
use Rattle.dali_search.specs.Stands.{Stands, IsTreeOf}
use Rattle.dali_search.proofs.Falling.{closes_more}
use Rattle.dali_search.proofs.Folding.{fold_bound, fold_short, fold_branch}
use Rattle.dali_search.proofs.Members.{count_set, count_after, count_most}

abbrev Test : Type 0
Test = List Mark → Bool

-- what `Stands` says of a tree, of an end
pub record EndStands (p : Clearing) (u v : ℕ) (f : List Mark) (total : Total) (end : End) : Type 0 where
  pub proves : total.greatest ≤ u → proves_ends p u end f ≡ true
  pub lean : lean_ends p u v end f ≡ true
  pub tight : total.greatest ≡ u → 0 < u → tight_ends p u end f ≡ true
  pub fits : ends_fit (length p.items) (length p.lines) end ≡ true
  pub depth : end_depth end ≤ undecided_count f
  pub branches : end_count end ≡ total.branches
  pub few : end_count end + 1 ≤ 2 ^ undecided_count f
  pub fewer : v < total.greatest → end_count end + 1 < 2 ^ undecided_count f

-- powers of two
power_more : (m n : ℕ) → m ≤ n → 2 ^ m ≤ 2 ^ n
power_more m n more = pow-le-pow_right {n = 2} (omega arith) {i = m} {j = n} more

power_next : (m n : ℕ) → m + 1 ≡ n → 2 ^ n ≡ 2 ^ m + 2 ^ m
power_next m n next = ap (λ k. 2 ^ k) (sym next ∙ add-one m) ∙ pow-suc 2 m ∙ omega arith

-- some member is undecided
open_some : (p : Clearing) (f : List Mark) → is_open p f ≡ true → 1 ≤ undecided_count f
unfolding is_open
open_some p f told =
    let found = all_below_finds (λ j. not (is_undecided (mark f j))) (length p.items) (not-true (all_below (λ j. not (is_undecided (mark f j))) (length p.items)) told) in
    let was : mark f found.0 ≡ Undecided = undecided_is (mark f found.0) (not-false (is_undecided (mark f found.0)) found.2) in
    omega (arith, count_set f found.0 Left was refl)

-- the equations of the folds at a tree
out_proves : (p : Clearing) (u : ℕ) (t : Tree) (f : List Mark) → proves_tree p u t f ≡ when_fixed (after p t.fixes f) (proves_ends p u t.end)
out_proves p u t f = ap (λ (test : Test). test f) (fold_out-Tree Test Test (proves_end p u) (λ node g. when_fixed (after p node.fixes g) node.end) t)

out_lean : (p : Clearing) (u v : ℕ) (t : Tree) (f : List Mark) → lean_tree p u v t f ≡ when_fixed (after p t.fixes f) (lean_ends p u v t.end)
out_lean p u v t f = ap (λ (test : Test). test f) (fold_out-Tree Test Test (lean_end p u v) (λ node g. when_fixed (after p node.fixes g) node.end) t)

out_tight : (p : Clearing) (u : ℕ) (t : Tree) (f : List Mark) → tight_tree p u t f ≡ when_fixed (after p t.fixes f) (tight_ends p u t.end)
out_tight p u t f = ap (λ (test : Test). test f) (fold_out-Tree Test Test (tight_end p u) (λ node g. when_fixed (after p node.fixes g) node.end) t)

out_fits : (items lines : ℕ) (t : Tree) → tree_fits items lines t ≡ (leb (length t.fixes) 1024 && list_all (fix_fits items lines) t.fixes && ends_fit items lines t.end)
out_fits items lines t = fold_out-Tree Bool Bool (end_fits items lines)
    (λ node. leb (length node.fixes) 1024 && list_all (fix_fits items lines) node.fixes && node.end) t

out_count : (t : Tree) → branch_count t ≡ end_count t.end
out_count t = fold_out-Tree ℕ ℕ count_step (λ node. node.end) t

out_depth : (t : Tree) → branch_depth t ≡ end_depth t.end
out_depth t = fold_out-Tree ℕ ℕ depth_step (λ node. node.end) t

-- a tree whose fixes lead to where its end stands
pub tree_stands : (p : Clearing) (u v : ℕ) (f g : List Mark) (total : Total) (t : Tree) → IsProblem p → length f ≡ length p.items → after p t.fixes f ≡ Some g →
    list_all (fix_fits (length p.items) (length p.lines)) t.fixes ≡ true → EndStands p u v g total t.end → Stands p u v f total t
tree_stands p u v f g total t limits size leads fit stands =
    let counted = count_after p t.fixes f g leads in
    let most = count_most f in
    let least : undecided_count g ≤ undecided_count f = omega (arith, counted) in
    let few : leb (length t.fixes) 1024 ≡ true = le-leb (length t.fixes) 1024 (omega (arith, counted, most, size, limits.items)) in
    let power = power_more (undecided_count g) (undecided_count f) least in
    record {
      proves = (λ over. out_proves p u t f ∙ ap (λ to. when_fixed to (proves_ends p u t.end)) leads ∙ stands.proves over);
      lean = out_lean p u v t f ∙ ap (λ to. when_fixed to (lean_ends p u v t.end)) leads ∙ stands.lean;
      tight = (λ is some. out_tight p u t f ∙ ap (λ to. when_fixed to (tight_ends p u t.end)) leads ∙ stands.tight is some);
      fits = out_fits (length p.items) (length p.lines) t
          ∙ and_from (leb (length t.fixes) 1024 && list_all (fix_fits (length p.items) (length p.lines)) t.fixes) (ends_fit (length p.items) (length p.lines) t.end)
          (and_from (leb (length t.fixes) 1024) (list_all (fix_fits (length p.items) (length p.lines)) t.fixes) few fit) stands.fits;
      depth = omega (arith, out_depth t, stands.depth, least);
      branches = out_count t ∙ stands.branches;
      few = omega (arith, out_count t, stands.few, power);
      fewer = (λ over. omega (arith, out_count t, stands.fewer over, power));
    }

-- an open node stands as a bound end
finished_by : (p : Clearing) (v : ℕ) (f : List Mark) (lam : List (ℕ × ℕ)) (bound : ℕ) → IsOpenAt p v f lam bound → is_finished p v lam f ≡ true
unfolding is_finished
finished_by p v f lam bound holds = elim (cases_lt v bound) as (λ _. (not (reaches p (v + 1) lam f) || (is_worked p lam f && is_open p f)) ≡ true) [
  | inl over ↦ or_right (not (reaches p (v + 1) lam f)) (is_worked p lam f && is_open p f)
      (and_from (is_worked p lam f) (is_open p f) holds.worked (holds.unfinished over))
  | inr under ↦ or_left (not (reaches p (v + 1) lam f)) (is_worked p lam f && is_open p f)
      (closes_is p v lam f ∙ closes_more p bound v lam f under holds.above)
]

tight_by : (p : Clearing) (u : ℕ) (lam : List (ℕ × ℕ)) (f : List Mark) → reaches p u lam f ≡ true → closes p u lam f ≡ true → is_tight p u lam f ≡ true
unfolding is_tight
tight_by p u lam f reached closed = and_from (reaches p u lam f) (closes p u lam f) reached closed

open_stands : (p : Clearing) (u v : ℕ) (f : List Mark) (lam : List (ℕ × ℕ)) (bound : ℕ) → IsOpenAt p v f lam bound →
    EndStands p u v f (record { greatest = bound; branches = 0 }) (Bound lam)
open_stands p u v f lam bound holds =
    let none : end_count (Bound lam) ≡ 0 = fold_bound ℕ ℕ count_step (λ node. node.end) lam in
    let deep : end_depth (Bound lam) ≡ 0 = fold_bound ℕ ℕ depth_step (λ node. node.end) lam in
    record {
      proves = (λ over. ap (λ (test : Test). test f) (fold_bound Test Test (proves_end p u) (λ node g. when_fixed (after p node.fixes g) node.end) lam)
          ∙ closes_more p bound u lam f over holds.above);
      lean = ap (λ (test : Test). test f) (fold_bound Test Test (lean_end p u v) (λ node g. when_fixed (after p node.fixes g) node.end) lam)
          ∙ finished_by p v f lam bound holds;
      tight = (λ is some. ap (λ (test : Test). test f) (fold_bound Test Test (tight_end p u) (λ node g. when_fixed (after p node.fixes g) node.end) lam)
          ∙ tight_by p u lam f (subst (λ (b : ℕ). reaches p b lam f ≡ true) is (holds.least (omega (arith, is, some))))
          (subst (λ (b : ℕ). closes p b lam f ≡ true) is holds.above));
      fits = fold_bound Bool Bool (end_fits (length p.items) (length p.lines))
          (λ node. leb (length node.fixes) 1024 && list_all (fix_fits (length p.items) (length p.lines)) node.fixes && node.end) lam ∙ holds.listed;
      depth = omega (arith, deep);
      branches = none;
      few = omega (arith, none, pow_pos (undecided_count f));
      fewer = (λ over.
          let some = open_some p f (holds.unfinished over) in
          let power = power_more 1 (undecided_count f) some in
          omega (arith, none, power));
    }

-- a node that is pruned stands as a short end
pruned_stands : (p : Clearing) (u v : ℕ) (f : List Mark) (line : ℕ) → IsPrunedAt p f line →
    EndStands p u v f (record { greatest = 0; branches = 0 }) (Short line)
pruned_stands p u v f line holds =
    let none : end_count (Short line) ≡ 0 = fold_short ℕ ℕ count_step (λ node. node.end) line in
    let deep : end_depth (Short line) ≡ 0 = fold_short ℕ ℕ depth_step (λ node. node.end) line in
    record {
      proves = (λ over. ap (λ (test : Test). test f) (fold_short Test Test (proves_end p u) (λ node g. when_fixed (after p node.fixes g) node.end) line) ∙ holds.short);
      lean = ap (λ (test : Test). test f) (fold_short Test Test (lean_end p u v) (λ node g. when_fixed (after p node.fixes g) node.end) line);
      tight = (λ is some. absurd (omega (arith, is, some)));
      fits = fold_short Bool Bool (end_fits (length p.items) (length p.lines))
          (λ node. leb (length node.fixes) 1024 && list_all (fix_fits (length p.items) (length p.lines)) node.fixes && node.end) line
          ∙ lt-ltb line (length p.lines) holds.within;
      depth = omega (arith, deep);
      branches = none;
      few = omega (arith, none, pow_pos (undecided_count f));
      fewer = (λ over. absurd (omega (arith, over)));
    }

-- a branched node stands where both sides do
branched_stands : (p : Clearing) (u v : ℕ) (f : List Mark) (place : ℕ) (lam : List (ℕ × ℕ)) (inside outside : Tree) (inner outer : Total) → length f ≡ length p.items →
    lam_fits (length p.lines) lam ≡ true → is_led p u lam f place ≡ true → mark f place ≡ Undecided →
    Stands p u v (set f place Chosen) inner inside → Stands p u v (set f place Left) outer outside →
    EndStands p u v f (record { greatest = max inner.greatest outer.greatest; branches = inner.branches + outer.branches + 1 }) (Branch place lam inside outside)
branched_stands p u v f place lam inside outside inner outer size listed led was one two =
    let count : end_count (Branch place lam inside outside) ≡ branch_count inside + branch_count outside + 1 =
    fold_branch ℕ ℕ count_step (λ node. node.end) place lam inside outside in
    let deep : end_depth (Branch place lam inside outside) ≡ max (branch_depth inside) (branch_depth outside) + 1 =
    fold_branch ℕ ℕ depth_step (λ node. node.end) place lam inside outside in
    let chosen = count_set f place Chosen was refl in
    let left = count_set f place Left was refl in
    let power_one = power_next (undecided_count (set f place Chosen)) (undecided_count f) chosen in
    let same : undecided_count (set f place Left) ≡ undecided_count (set f place Chosen) = omega (arith, chosen, left) in
    let power_two : 2 ^ undecided_count (set f place Left) ≡ 2 ^ undecided_count (set f place Chosen) = ap (λ k. 2 ^ k) same in
    let within : place < length p.items = omega (arith, within_undecided f place was, size) in
    record {
      proves = (λ over. ap (λ (test : Test). test f) (fold_branch Test Test (proves_end p u) (λ node g. when_fixed (after p node.fixes g) node.end) place lam inside outside)
          ∙ and_from (is_undecided (mark f place) && proves_tree p u inside (set f place Chosen)) (proves_tree p u outside (set f place Left))
          (and_from (is_undecided (mark f place)) (proves_tree p u inside (set f place Chosen)) (ap is_undecided was) (one.proves (omega (arith, over))))
          (two.proves (omega (arith, over))));
      lean = ap (λ (test : Test). test f) (fold_branch Test Test (lean_end p u v) (λ node g. when_fixed (after p node.fixes g) node.end) place lam inside outside)
          ∙ and_from (is_led p u lam f place && lean_tree p u v inside (set f place Chosen)) (lean_tree p u v outside (set f place Left))
          (and_from (is_led p u lam f place) (lean_tree p u v inside (set f place Chosen)) led one.lean) two.lean;
      tight = (λ is some. ap (λ (test : Test). test f) (fold_branch Test Test (tight_end p u) (λ node g. when_fixed (after p node.fixes g) node.end) place lam inside outside)
          ∙ elim (cases_eq inner.greatest u) as (λ _. (tight_tree p u inside (set f place Chosen) || tight_tree p u outside (set f place Left)) ≡ true) [
            | inl here ↦ or_left (tight_tree p u inside (set f place Chosen)) (tight_tree p u outside (set f place Left)) (one.tight here some)
            | inr other ↦ or_right (tight_tree p u inside (set f place Chosen)) (tight_tree p u outside (set f place Left)) (two.tight (omega (arith, is, other)) some)
          ]);
      fits = fold_branch Bool Bool (end_fits (length p.items) (length p.lines))
          (λ node. leb (length node.fixes) 1024 && list_all (fix_fits (length p.items) (length p.lines)) node.fixes && node.end) place lam inside outside
          ∙ and_from (ltb place (length p.items) && lam_fits (length p.lines) lam && tree_fits (length p.items) (length p.lines) inside) (tree_fits (length p.items) (length p.lines) outside)
          (and_from (ltb place (length p.items) && lam_fits (length p.lines) lam) (tree_fits (length p.items) (length p.lines) inside)
          (and_from (ltb place (length p.items)) (lam_fits (length p.lines) lam) (lt-ltb place (length p.items) within) listed) one.fits) two.fits;
      depth = omega (arith, deep, one.depth, two.depth, chosen, left);
      branches = omega (arith, count, one.branches, two.branches);
      few = omega (arith, count, one.few, two.few, power_one, power_two);
      fewer = (λ over. elim (cases_lt v inner.greatest) as (λ _. end_count (Branch place lam inside outside) + 1 < 2 ^ undecided_count f) [
        | inl here ↦ omega (arith, count, one.fewer here, two.few, power_one, power_two)
        | inr other ↦ omega (arith, count, one.few, two.fewer (omega (arith, over, other)), power_one, power_two)
      ]);
    }

-- the trees of nodes
tree_by : (nodes : List Node) (k : ℕ) (t : Tree) → k < length nodes → t.fixes ≡ (node_at nodes k).fixes →
    ((p : Clearing) (u v : ℕ) (enter : ℕ → List Mark) (totals : List Total) (f : List Mark) → IsProblem p → IsArena p u v nodes enter → AreTotals nodes totals → length f ≡ length p.items →
    EndHolds p u v enter f (node_at nodes k).end → EndStands p u v f (total_of totals (node_at nodes k).end) t.end) → IsTreeOf nodes k t
tree_by nodes k t below fixes ends = record {
  stands = (λ p u v enter totals limits arena exact.
      let at = arena.each k below in
      let leads : after p t.fixes (enter k) ≡ Some at.leads = ap (λ (xs : List Fix). after p xs (enter k)) fixes ∙ at.fixed in
      let size = after_length p t.fixes (enter k) at.leads leads ∙ arena.size k below in
      tree_stands p u v (enter k) at.leads (total_at totals k) t limits (arena.size k below) leads
      (ap (list_all (fix_fits (length p.items) (length p.lines))) fixes ∙ at.fits)
      (subst (λ (total : Total). EndStands p u v at.leads total t.end) (sym (exact.each k below)) (ends p u v enter totals at.leads limits arena exact size at.ends)));
}

pub open_tree : (nodes : List Node) (k : ℕ) (node : Node) (fixes : List Fix) (lam listed : List (ℕ × ℕ)) (bound : ℕ) → k < length nodes → node ≡ node_at nodes k →
    node.end ≡ Open lam bound → fixes ≡ node.fixes → listed ≡ lam → IsTreeOf nodes k (record { fixes = fixes; end = Bound listed })
open_tree nodes k node fixes lam listed bound below is end same copied =
    let here : (node_at nodes k).end ≡ Open lam bound = ap (λ (n : Node). n.end) (sym is) ∙ end in
    tree_by nodes k (record { fixes = fixes; end = Bound listed }) below (same ∙ ap (λ (n : Node). n.fixes) is)
    (λ p u v enter totals f limits arena exact size holds.
    subst (λ (e : NodeEnd). EndStands p u v f (total_of totals e) (Bound listed)) (sym here)
    (subst (λ (l : List (ℕ × ℕ)). EndStands p u v f (record { greatest = bound; branches = 0 }) (Bound l)) (sym copied)
    (open_stands p u v f lam bound (subst (λ (e : NodeEnd). EndHolds p u v enter f e) here holds))))

pub pruned_tree : (nodes : List Node) (k : ℕ) (node : Node) (fixes : List Fix) (line : ℕ) → k < length nodes → node ≡ node_at nodes k →
    node.end ≡ Pruned line → fixes ≡ node.fixes → IsTreeOf nodes k (record { fixes = fixes; end = Short line })
pruned_tree nodes k node fixes line below is end same =
    let here : (node_at nodes k).end ≡ Pruned line = ap (λ (n : Node). n.end) (sym is) ∙ end in
    tree_by nodes k (record { fixes = fixes; end = Short line }) below (same ∙ ap (λ (n : Node). n.fixes) is)
    (λ p u v enter totals f limits arena exact size holds.
    subst (λ (e : NodeEnd). EndStands p u v f (total_of totals e) (Short line)) (sym here)
    (pruned_stands p u v f line (subst (λ (e : NodeEnd). EndHolds p u v enter f e) here holds)))

pub branched_tree : (nodes : List Node) (k : ℕ) (node : Node) (fixes : List Fix) (place : ℕ) (lam listed : List (ℕ × ℕ)) (inside outside : ℕ) (inner outer : Tree) →
    k < length nodes → node ≡ node_at nodes k → node.end ≡ Branched place lam inside outside → fixes ≡ node.fixes → listed ≡ lam →
    IsTreeOf nodes inside inner → IsTreeOf nodes outside outer → IsTreeOf nodes k (record { fixes = fixes; end = Branch place listed inner outer })
branched_tree nodes k node fixes place lam listed inside outside inner outer below is end same copied first second =
    let here : (node_at nodes k).end ≡ Branched place lam inside outside = ap (λ (n : Node). n.end) (sym is) ∙ end in
    tree_by nodes k (record { fixes = fixes; end = Branch place listed inner outer }) below (same ∙ ap (λ (n : Node). n.fixes) is)
    (λ p u v enter totals f limits arena exact size holds.
    let at : IsBranchedAt p u enter f place lam inside outside = subst (λ (e : NodeEnd). EndHolds p u v enter f e) here holds in
    subst (λ (e : NodeEnd). EndStands p u v f (total_of totals e) (Branch place listed inner outer)) (sym here)
    (subst (λ (l : List (ℕ × ℕ)). EndStands p u v f (total_of totals (Branched place lam inside outside)) (Branch place l inner outer)) (sym copied)
    (branched_stands p u v f place lam inner outer (total_at totals inside) (total_at totals outside) size at.listed at.led at.undecided
    (subst (λ (g : List Mark). Stands p u v g (total_at totals inside) inner) at.inner (first.stands p u v enter totals limits arena exact))
    (subst (λ (g : List Mark). Stands p u v g (total_at totals outside) outer) at.outer (second.stands p u v enter totals limits arena exact)))))
