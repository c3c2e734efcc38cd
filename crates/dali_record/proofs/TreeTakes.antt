-- What a reader of trees takes from the front is the text of the tree that it gives.
use Rattle.std.proofs.Common.{◌≡◌, inl, inr, ℕ, zero, suc, ◌+◌, cond, eqb, List, [], ◌∷◌, ◌++◌, Option, Some, None, sym, ap, subst, arith}
use Rattle.std.specs.Int.{w16}
use Rattle.std.proofs.lemmas.Bool.{eqb-true}
use Rattle.dali_tree.specs.declared.fix.Fix.{Fix}
use Rattle.dali_tree.specs.declared.fix.Fix.TheVariants.{Barred, Needed, Safe}
use Rattle.dali_tree.specs.declared.tree.Tree.{Tree}
use Rattle.dali_tree.specs.declared.tree.End.{End}
use Rattle.dali_tree.specs.declared.tree.End.TheVariants as ends
use Rattle.dali_tree.specs.Tree.{branch_count}
use Rattle.dali_tree.specs.Ends.{end_count}
use Rattle.dali_record.specs.Multipliers.{multiplier}
use Rattle.dali_record.specs.TreeText.{two_bytes, list_text, fix_text, lam_text, tree_text, ends_text}
use Rattle.dali_record.specs.Reading.{◌>>=◌, number_at, list_at, line_fix_at, fix_at, lam_at, Reader, bound_at, short_at, branch_at, any_end_at, node_at, no_branch_at, end_at, tree_at}
use Rattle.dali_record.proofs.Fields.{IsBytes, IsBytes-rest, bind_some, chosen, some_is, Takes, Takes-then, Takes-behind, TakesEach, two_takes, list_takes}
use Rattle.dali_record.proofs.LamLemmas.{lam_takes}
use Rattle.dali_record.proofs.TreeEquations.{text_bound, text_short, text_branch, text_node, count_bound, count_short, count_branch, count_node}

-- ---- fixes

line_fix_takes : (fix : ℕ → ℕ → Fix) (bytes : List ℕ) (x : Fix × List ℕ) → IsBytes bytes → line_fix_at fix bytes ≡ Some x →
    (place : ℕ) × (line : ℕ) × (fix place line ≡ x.0) × Takes bytes (two_bytes place ++ two_bytes line) x.1
line_fix_takes fix bytes x fits e =
    let a = bind_some (number_at w16 bytes) (λ place. number_at w16 place.1 >>= λ line. Some (fix place.0 line.0, line.1)) x e in
    let b = bind_some (number_at w16 a.0.1) (λ line. Some (fix a.0.0 line.0, line.1)) x a.2 in
    let one = two_takes bytes a.0 fits a.1 in
    let two = two_takes a.0.1 b.0 one.0.rest_fits b.1 in
    let is = some_is (fix a.0.0 b.0.0, b.0.1) x b.2 in (
      a.0.0,
      b.0.0,
      ap (λ (y : Fix × List ℕ). y.0) is,
      subst (λ (y : Fix × List ℕ). Takes bytes (two_bytes a.0.0 ++ two_bytes b.0.0) y.1) is
          (Takes-then bytes (two_bytes a.0.0) a.0.1 (two_bytes b.0.0) b.0.1 one.0 two.0),
    )

fix_takes : (bytes : List ℕ) (x : Fix × List ℕ) → IsBytes bytes → fix_at bytes ≡ Some x → Takes bytes (fix_text x.0) x.1
unfolding fix_at
fix_takes [] x fits e = absurd cc
fix_takes (b ∷ bytes) x fits e =
    let under = IsBytes-rest b bytes fits in
    let safe : Option (Fix × List ℕ) = number_at w16 bytes >>= λ place. Some (Safe place.0, place.1) in
    elim (chosen (eqb b 1) (line_fix_at (λ place line. Barred place line) bytes)
    (cond (eqb b 2) (line_fix_at (λ place line. Needed place line) bytes) (cond (eqb b 3) (number_at w16 bytes >>= λ place. Some (Safe place.0, place.1)) None)) (Some x) e) [
      | inl one ↦
          let t = line_fix_takes (λ place line. Barred place line) bytes x under one.1 in
          subst (λ (f : Fix). Takes (b ∷ bytes) (fix_text f) x.1) t.2
          (subst (λ (k : ℕ). Takes (b ∷ bytes) (k ∷ (two_bytes t.0 ++ two_bytes t.1)) x.1) (eqb-true b 1 one.0) (Takes-behind b bytes (two_bytes t.0 ++ two_bytes t.1) x.1 t.3))
      | inr other ↦
          elim (chosen (eqb b 2) (line_fix_at (λ place line. Needed place line) bytes) (cond (eqb b 3) (number_at w16 bytes >>= λ place. Some (Safe place.0, place.1)) None) (Some x) other.1) [
            | inl two ↦
                let t = line_fix_takes (λ place line. Needed place line) bytes x under two.1 in
                subst (λ (f : Fix). Takes (b ∷ bytes) (fix_text f) x.1) t.2
                (subst (λ (k : ℕ). Takes (b ∷ bytes) (k ∷ (two_bytes t.0 ++ two_bytes t.1)) x.1) (eqb-true b 2 two.0) (Takes-behind b bytes (two_bytes t.0 ++ two_bytes t.1) x.1 t.3))
            | inr more ↦
                elim (chosen (eqb b 3) (number_at w16 bytes >>= λ place. Some (Safe place.0, place.1)) None (Some x) more.1) [
                  | inl three ↦
                      let a = bind_some (number_at w16 bytes) (λ place. Some (Safe place.0, place.1)) x three.1 in
                      let t = two_takes bytes a.0 under a.1 in
                      subst (λ (y : Fix × List ℕ). Takes (b ∷ bytes) (fix_text y.0) y.1) (some_is (Safe a.0.0, a.0.1) x a.2)
                      (subst (λ (k : ℕ). Takes (b ∷ bytes) (k ∷ two_bytes a.0.0) a.0.1) (eqb-true b 3 three.0) (Takes-behind b bytes (two_bytes a.0.0) a.0.1 t.0))
                  | inr none ↦ absurd (let no = none.1 in cc)
                ]
          ]
    ]

pub each_fix_takes : TakesEach fix_text fix_at
each_fix_takes = record { takes = fix_takes }

-- ---- trees

-- what a reader of trees or ends took, below these multipliers, where so many branches were left
pub record Took {X : Type 0} (text : X → (ℕ → ℕ) → List ℕ) (count : X → ℕ) (left : ℕ) (above : ℕ → ℕ) (bytes : List ℕ) (x : X × ℕ × List ℕ) : Type 0 where
  pub front : Takes bytes (text x.0 above) x.2
  pub spent : count x.0 + x.1 ≡ left

pub record Reads {X : Type 0} (text : X → (ℕ → ℕ) → List ℕ) (count : X → ℕ) (reader : Reader X) : Type 0 where
  pub took : (left : ℕ) (above : ℕ → ℕ) (bytes : List ℕ) (x : X × ℕ × List ℕ) → IsBytes bytes → reader left above bytes ≡ Some x → Took text count left above bytes x

abbrev end_reads_as : Reader End → Type 0
end_reads_as reader = Reads (λ (e : End) above. ends_text e above) end_count reader

abbrev tree_reads_as : Reader Tree → Type 0
tree_reads_as reader = Reads (λ (t : Tree) above. tree_text t above) branch_count reader

abbrev EndTook : ℕ → (ℕ → ℕ) → List ℕ → End × ℕ × List ℕ → Type 0
EndTook left above bytes x = Took (λ (e : End) above. ends_text e above) end_count left above bytes x

abbrev TreeTook : ℕ → (ℕ → ℕ) → List ℕ → Tree × ℕ × List ℕ → Type 0
TreeTook left above bytes x = Took (λ (t : Tree) above. tree_text t above) branch_count left above bytes x

bound_made : (left : ℕ) (above : ℕ → ℕ) (bytes rest : List ℕ) (lam : List (ℕ × ℕ)) → Takes bytes (lam_text above lam) rest → EndTook left above (4 ∷ bytes) (ends.Bound lam, left, rest)
bound_made left above bytes rest lam t = record {
  front = subst (λ (text : List ℕ). Takes (4 ∷ bytes) text rest) (sym (text_bound lam above)) (Takes-behind 4 bytes (lam_text above lam) rest t);
  spent = omega (arith, count_bound lam);
}

bound_took : (left : ℕ) (above : ℕ → ℕ) (bytes : List ℕ) (x : End × ℕ × List ℕ) → IsBytes bytes → bound_at left above bytes ≡ Some x → EndTook left above (4 ∷ bytes) x
bound_took left above bytes x fits e =
    let a = bind_some (lam_at above bytes) (λ lam. Some (ends.Bound lam.0, left, lam.1)) x e in
    subst (EndTook left above (4 ∷ bytes)) (some_is (ends.Bound a.0.0, left, a.0.1) x a.2)
    (bound_made left above bytes a.0.1 a.0.0 (lam_takes above bytes a.0 fits a.1))

short_made : (left : ℕ) (above : ℕ → ℕ) (bytes rest : List ℕ) (line : ℕ) → Takes bytes (two_bytes line) rest → EndTook left above (5 ∷ bytes) (ends.Short line, left, rest)
short_made left above bytes rest line t = record {
  front = subst (λ (text : List ℕ). Takes (5 ∷ bytes) text rest) (sym (text_short line above)) (Takes-behind 5 bytes (two_bytes line) rest t);
  spent = omega (arith, count_short line);
}

short_took : (left : ℕ) (above : ℕ → ℕ) (bytes : List ℕ) (x : End × ℕ × List ℕ) → IsBytes bytes → short_at left above bytes ≡ Some x → EndTook left above (5 ∷ bytes) x
short_took left above bytes x fits e =
    let a = bind_some (number_at w16 bytes) (λ line. Some (ends.Short line.0, left, line.1)) x e in
    subst (EndTook left above (5 ∷ bytes)) (some_is (ends.Short a.0.0, left, a.0.1) x a.2)
    (short_made left above bytes a.0.1 a.0.0 (two_takes bytes a.0 fits a.1).0)

branch_made : (left : ℕ) (above : ℕ → ℕ) (bytes b1 b2 b3 b4 : List ℕ) (place : ℕ) (lam : List (ℕ × ℕ)) (inside outside : Tree) (between behind : ℕ) →
    Takes bytes (two_bytes place) b1 → Takes b1 (lam_text above lam) b2 → TreeTook left (multiplier lam) b2 (inside, between, b3) → TreeTook between (multiplier lam) b3 (outside, behind, b4) →
    EndTook (suc left) above (6 ∷ bytes) (ends.Branch place lam inside outside, behind, b4)
branch_made left above bytes b1 b2 b3 b4 place lam inside outside between behind p l i o =
    let sides = Takes-then b2 (tree_text inside (multiplier lam)) b3 (tree_text outside (multiplier lam)) b4 i.front o.front in
    let behind_place = Takes-then b1 (lam_text above lam) b2 (tree_text inside (multiplier lam) ++ tree_text outside (multiplier lam)) b4 l sides in
    let whole = Takes-then bytes (two_bytes place) b1 (lam_text above lam ++ (tree_text inside (multiplier lam) ++ tree_text outside (multiplier lam))) b4 p behind_place in
    record {
      front = subst (λ (text : List ℕ). Takes (6 ∷ bytes) text b4) (sym (text_branch place lam inside outside above))
          (Takes-behind 6 bytes (two_bytes place ++ (lam_text above lam ++ (tree_text inside (multiplier lam) ++ tree_text outside (multiplier lam)))) b4 whole);
      spent = omega (arith, i.spent, o.spent, count_branch place lam inside outside);
    }

node_made : (left : ℕ) (above : ℕ → ℕ) (bytes b1 b2 : List ℕ) (fixes : List Fix) (its_end : End) (behind : ℕ) → Takes bytes (list_text fix_text fixes) b1 →
    EndTook left above b1 (its_end, behind, b2) → TreeTook left above bytes (record { fixes = fixes; end = its_end }, behind, b2)
node_made left above bytes b1 b2 fixes its_end behind f e = record {
  front = subst (λ (text : List ℕ). Takes bytes text b2) (sym (text_node fixes its_end above)) (Takes-then bytes (list_text fix_text fixes) b1 (ends_text its_end above) b2 f e.front);
  spent = omega (arith, e.spent, count_node fixes its_end);
}

-- a reader of what stands behind the byte of a branch
pub record TakesBranch (branch : Reader End) : Type 0 where
  pub took : (left : ℕ) (above : ℕ → ℕ) (bytes : List ℕ) (x : End × ℕ × List ℕ) → IsBytes bytes → branch left above bytes ≡ Some x →
      Took (λ (e : End) above. ends_text e above) end_count left above (6 ∷ bytes) x

no_branch_took : TakesBranch no_branch_at
no_branch_took = record { took = (λ left above bytes x fits e. absurd cc) }

branch_took : (side : Reader Tree) → tree_reads_as side → (left : ℕ) (above : ℕ → ℕ) (bytes : List ℕ) (x : End × ℕ × List ℕ) → IsBytes bytes →
    branch_at side left above bytes ≡ Some x → Took (λ (e : End) above. ends_text e above) end_count left above (6 ∷ bytes) x
unfolding branch_at
branch_took side reads zero above bytes x fits e = absurd cc
branch_took side reads (suc left) above bytes x fits e =
    let a = bind_some (number_at w16 bytes) (λ place. lam_at above place.1 >>= λ lam. side left (multiplier lam.0) lam.1 >>= λ inside. side inside.1 (multiplier lam.0) inside.2
    >>= λ outside. Some (ends.Branch place.0 lam.0 inside.0 outside.0, outside.1, outside.2)) x e in
    let b = bind_some (lam_at above a.0.1) (λ lam. side left (multiplier lam.0) lam.1 >>= λ inside. side inside.1 (multiplier lam.0) inside.2
    >>= λ outside. Some (ends.Branch a.0.0 lam.0 inside.0 outside.0, outside.1, outside.2)) x a.2 in
    let c = bind_some (side left (multiplier b.0.0) b.0.1) (λ inside. side inside.1 (multiplier b.0.0) inside.2
    >>= λ outside. Some (ends.Branch a.0.0 b.0.0 inside.0 outside.0, outside.1, outside.2)) x b.2 in
    let d = bind_some (side c.0.1 (multiplier b.0.0) c.0.2) (λ outside. Some (ends.Branch a.0.0 b.0.0 c.0.0 outside.0, outside.1, outside.2)) x c.2 in
    let place = two_takes bytes a.0 fits a.1 in
    let lam = lam_takes above a.0.1 b.0 place.0.rest_fits b.1 in
    let inside = reads.took left (multiplier b.0.0) b.0.1 c.0 lam.rest_fits c.1 in
    let outside = reads.took c.0.1 (multiplier b.0.0) c.0.2 d.0 inside.front.rest_fits d.1 in
    subst (EndTook (suc left) above (6 ∷ bytes)) (some_is (ends.Branch a.0.0 b.0.0 c.0.0 d.0.0, d.0.1, d.0.2) x d.2)
    (branch_made left above bytes a.0.1 b.0.1 c.0.2 d.0.2 a.0.0 b.0.0 c.0.0 d.0.0 c.0.1 d.0.1 place.0 lam inside outside)

any_end_took : (branch : Reader End) → TakesBranch branch → (left : ℕ) (above : ℕ → ℕ) (bytes : List ℕ) (x : End × ℕ × List ℕ) → IsBytes bytes →
    any_end_at branch left above bytes ≡ Some x → Took (λ (e : End) above. ends_text e above) end_count left above bytes x
unfolding any_end_at
any_end_took branch reads left above [] x fits e = absurd cc
any_end_took branch reads left above (b ∷ bytes) x fits e =
    let under = IsBytes-rest b bytes fits in
    let Goal : ℕ → Type 0 = λ k. Took (λ (e : End) above. ends_text e above) end_count left above (k ∷ bytes) x in
    elim (chosen (eqb b 4) (bound_at left above bytes) (cond (eqb b 5) (short_at left above bytes) (cond (eqb b 6) (branch left above bytes) None)) (Some x) e) [
      | inl four ↦ subst Goal (sym (eqb-true b 4 four.0)) (bound_took left above bytes x under four.1)
      | inr other ↦
          elim (chosen (eqb b 5) (short_at left above bytes) (cond (eqb b 6) (branch left above bytes) None) (Some x) other.1) [
            | inl five ↦ subst Goal (sym (eqb-true b 5 five.0)) (short_took left above bytes x under five.1)
            | inr more ↦
                elim (chosen (eqb b 6) (branch left above bytes) None (Some x) more.1) [
                  | inl six ↦ subst Goal (sym (eqb-true b 6 six.0)) (reads.took left above bytes x under six.1)
                  | inr none ↦ absurd (let no = none.1 in cc)
                ]
          ]
    ]

node_reads : (end : Reader End) → end_reads_as end → tree_reads_as (node_at end)
unfolding node_at
node_reads end reads = record {
  took = (λ left above bytes x fits e.
      let a = bind_some (list_at fix_at bytes) (λ fixes. end left above fixes.1 >>= λ its_end. Some (record { fixes = fixes.0; end = its_end.0 }, its_end.1, its_end.2)) x e in
      let b = bind_some (end left above a.0.1) (λ its_end. Some (record { fixes = a.0.0; end = its_end.0 }, its_end.1, its_end.2)) x a.2 in
      let fixes = list_takes fix_text fix_at each_fix_takes bytes a.0 fits a.1 in
      let its_end = reads.took left above a.0.1 b.0 fixes.0.rest_fits b.1 in
      subst (TreeTook left above bytes) (some_is (record { fixes = a.0.0; end = b.0.0 }, b.0.1, b.0.2) x b.2)
      (node_made left above bytes a.0.1 b.0.2 a.0.0 b.0.0 b.0.1 fixes.0 its_end));
}

end_reads : (depth : ℕ) → end_reads_as (end_at depth)
unfolding end_at
end_reads zero = record { took = any_end_took no_branch_at no_branch_took }
end_reads (suc depth) =
    let side = node_reads (end_at depth) (end_reads depth) in
    record { took = any_end_took (branch_at (node_at (end_at depth))) (record { took = branch_took (node_at (end_at depth)) side }) }

pub tree_reads : (depth : ℕ) → Reads (λ (t : Tree) above. tree_text t above) branch_count (tree_at depth)
tree_reads depth = node_reads (end_at depth) (end_reads depth)
