-- The text of a tree within the bounds is read as that tree.
use Rattle.std.proofs.Common.{◌≡◌, ℕ, zero, suc, ◌+◌, ◌^◌, ◌<◌, ◌≤◌, true, ◌&&◌, List, [], ◌∷◌, ◌++◌, length, Some, refl, sym, ◌∙◌, ap, subst, append_assoc, arith}
use Rattle.std.specs.Prelude.{nat_lt, nat_le}
use Rattle.std.specs.List.{list_all, AllByRecursion}
use Rattle.std.proofs.lemmas.Bool.{and_parts, leb-true, ltb-true}
use Rattle.dali_tree.specs.declared.fix.Fix.{Fix}
use Rattle.dali_tree.specs.declared.fix.Fix.TheVariants.{Barred, Needed, Safe}
use Rattle.dali_tree.specs.declared.tree.Tree.{Tree}
use Rattle.dali_tree.specs.declared.tree.End.{End}
use Rattle.dali_tree.specs.declared.tree.End.TheVariants as ends
use Rattle.dali_tree.specs.declared.tree.End.TheVariants.{rolls-Bound, rolls-Short, rolls-Branch}
use Rattle.dali_tree.specs.declared.tree.End.TheOpen.{Tree-F, End-F}
use Rattle.dali_tree.specs.declared.tree.End.TheFolds.{ind-Tree, map-End, map-Tree}
use Rattle.dali_tree.specs.declared.tree.End.TheViews.{roll-End, roll-Tree, rolls-struct-Tree}
use Rattle.dali_tree.specs.Tree.{branch_count, branch_depth}
use Rattle.dali_tree.specs.Fits.{fix_fits, lam_fits, tree_fits}
use Rattle.dali_tree.specs.Ends.{end_count, end_depth, ends_fit}
use Rattle.dali_record.specs.Multipliers.{multiplier}
use Rattle.dali_record.specs.TreeText.{two_bytes, list_text, fix_text, lam_text, tree_text, ends_text}
use Rattle.dali_record.specs.Reading.{list_at, fix_at, Reader, branch_at, any_end_at, node_at, end_at, tree_at}
use Rattle.dali_record.proofs.Fields.{ReadsAgain, two_again, list_again}
use Rattle.dali_record.proofs.LamLemmas.{lam_again}
use Rattle.dali_record.proofs.TreeEquations.{text_bound, text_short, text_branch, text_node, count_bound, count_short, count_branch, count_node, depth_branch, depth_node, fits_bound, fits_short, fits_branch, fits_node}

-- ---- fixes

abbrev IsNear : Fix → Type 0
IsNear (Barred place line) = (place < 2 ^ 16) × (line < 2 ^ 16)
IsNear (Needed place line) = (place < 2 ^ 16) × (line < 2 ^ 16)
IsNear (Safe place) = place < 2 ^ 16

fix_again : (f : Fix) (rest : List ℕ) → IsNear f → fix_at (fix_text f ++ rest) ≡ Some (f, rest)
unfolding fix_at
fix_again (Barred place line) rest near = rw (two_again place (two_bytes line ++ rest) near.0, two_again line rest near.1) refl
fix_again (Needed place line) rest near = rw (two_again place (two_bytes line ++ rest) near.0, two_again line rest near.1) refl
fix_again (Safe place) rest near = rw (two_again place rest near) refl

each_fix_again : ReadsAgain IsNear fix_text fix_at
each_fix_again = record { again = fix_again }

near_told : (f : Fix) → fix_fits 1024 4096 f ≡ true → IsNear f
near_told (Barred place line) fits =
    let both = and_parts (nat_lt place 1024) (nat_lt line 4096) fits in
    let p = ltb-true place 1024 both.0 in
    let l = ltb-true line 4096 both.1 in
    (omega (arith, p), omega (arith, l))
near_told (Needed place line) fits =
    let both = and_parts (nat_lt place 1024) (nat_lt line 4096) fits in
    let p = ltb-true place 1024 both.0 in
    let l = ltb-true line 4096 both.1 in
    (omega (arith, p), omega (arith, l))
near_told (Safe place) fits = let p = ltb-true place 1024 fits in omega (arith, p)

all_near : (fixes : List Fix) → list_all (fix_fits 1024 4096) fixes ≡ true → AllByRecursion IsNear fixes
all_near [] fits = tt
all_near (f ∷ fixes) fits =
    let both = and_parts (fix_fits 1024 4096 f) (list_all (fix_fits 1024 4096) fixes) fits in
    (near_told f both.0, all_near fixes both.1)

-- ---- trees

record EndAgain (e : End) : Type 0 where
  again : (depth spare : ℕ) (above : ℕ → ℕ) (rest : List ℕ) → end_depth e ≤ depth → ends_fit 1024 4096 e ≡ true →
      end_at depth (end_count e + spare) above (ends_text e above ++ rest) ≡ Some (e, spare, rest)

pub record TreeAgain (t : Tree) : Type 0 where
  pub again : (depth spare : ℕ) (above : ℕ → ℕ) (rest : List ℕ) → branch_depth t ≤ depth → tree_fits 1024 4096 t ≡ true →
      tree_at depth (branch_count t + spare) above (tree_text t above ++ rest) ≡ Some (t, spare, rest)

-- how an end is read doesn't depend on the depth where it is no branch
any_bound : (branch : Reader End) (left : ℕ) (above : ℕ → ℕ) (lam : List (ℕ × ℕ)) (rest : List ℕ) → lam_fits 4096 lam ≡ true →
    any_end_at branch left above (4 ∷ (lam_text above lam ++ rest)) ≡ Some (ends.Bound lam, left, rest)
unfolding any_end_at
any_bound branch left above lam rest fits = rw (lam_again above lam rest fits) refl

any_short : (branch : Reader End) (left : ℕ) (above : ℕ → ℕ) (line : ℕ) (rest : List ℕ) → line < 2 ^ 16 →
    any_end_at branch left above (5 ∷ (two_bytes line ++ rest)) ≡ Some (ends.Short line, left, rest)
unfolding any_end_at
any_short branch left above line rest small = rw (two_again line rest small) refl

bound_at_any : (depth left : ℕ) (above : ℕ → ℕ) (lam : List (ℕ × ℕ)) (rest : List ℕ) → lam_fits 4096 lam ≡ true → end_at depth left above (4 ∷ (lam_text above lam ++ rest)) ≡ Some (ends.Bound lam, left, rest)
unfolding end_at
bound_at_any zero left above lam rest fits = any_bound _ left above lam rest fits
bound_at_any (suc depth) left above lam rest fits = any_bound _ left above lam rest fits

bound_again : (lam : List (ℕ × ℕ)) → EndAgain (ends.Bound lam)
bound_again lam = record {
  again = (λ depth spare above rest deep fits.
      let own = sym (fits_bound 1024 4096 lam) ∙ fits in
      ap (λ (text : List ℕ). end_at depth (end_count (ends.Bound lam) + spare) above (text ++ rest)) (text_bound lam above)
      ∙ ap (λ (k : ℕ). end_at depth k above (4 ∷ (lam_text above lam ++ rest))) (omega (arith, count_bound lam))
      ∙ bound_at_any depth spare above lam rest own);
}

short_at_any : (depth left : ℕ) (above : ℕ → ℕ) (line : ℕ) (rest : List ℕ) → line < 2 ^ 16 → end_at depth left above (5 ∷ (two_bytes line ++ rest)) ≡ Some (ends.Short line, left, rest)
unfolding end_at
short_at_any zero left above line rest small = any_short _ left above line rest small
short_at_any (suc depth) left above line rest small = any_short _ left above line rest small

short_again : (line : ℕ) → EndAgain (ends.Short line)
short_again line = record {
  again = (λ depth spare above rest deep fits.
      let own = ltb-true line 4096 (sym (fits_short 1024 4096 line) ∙ fits) in
      ap (λ (text : List ℕ). end_at depth (end_count (ends.Short line) + spare) above (text ++ rest)) (text_short line above)
      ∙ ap (λ (k : ℕ). end_at depth k above (5 ∷ (two_bytes line ++ rest))) (omega (arith, count_short line))
      ∙ short_at_any depth spare above line rest (omega (arith, own)));
}

any_branch : (side : Reader Tree) (left between behind : ℕ) (above : ℕ → ℕ) (place : ℕ) (lam : List (ℕ × ℕ)) (inside outside : Tree) (rest : List ℕ) → place < 2 ^ 16 → lam_fits 4096 lam ≡ true →
    side left (multiplier lam) (tree_text inside (multiplier lam) ++ (tree_text outside (multiplier lam) ++ rest)) ≡ Some (inside, between, tree_text outside (multiplier lam) ++ rest) →
    side between (multiplier lam) (tree_text outside (multiplier lam) ++ rest) ≡ Some (outside, behind, rest) →
    any_end_at (branch_at side) (suc left) above (6 ∷ (two_bytes place ++ (lam_text above lam ++ (tree_text inside (multiplier lam) ++ (tree_text outside (multiplier lam) ++ rest)))))
    ≡ Some (ends.Branch place lam inside outside, behind, rest)
unfolding any_end_at branch_at
any_branch side left between behind above place lam inside outside rest small fits first second =
    rw (
      two_again place (lam_text above lam ++ (tree_text inside (multiplier lam) ++ (tree_text outside (multiplier lam) ++ rest))) small,
      lam_again above lam (tree_text inside (multiplier lam) ++ (tree_text outside (multiplier lam) ++ rest)) fits,
      first,
      second,
    ) refl

end_deeper : (depth left : ℕ) (above : ℕ → ℕ) (bytes : List ℕ) → end_at (suc depth) left above bytes ≡ any_end_at (branch_at (tree_at depth)) left above bytes
unfolding end_at
end_deeper depth left above bytes = refl

regrouped : (place lam inside outside rest : List ℕ) → 6 ∷ ((place ++ (lam ++ (inside ++ outside))) ++ rest) ≡ 6 ∷ (place ++ (lam ++ (inside ++ (outside ++ rest))))
regrouped place lam inside outside rest = simp append_assoc

branch_again : (place : ℕ) (lam : List (ℕ × ℕ)) (inside outside : Tree) → TreeAgain inside → TreeAgain outside → EndAgain (ends.Branch place lam inside outside)
branch_again place lam inside outside first second = record { again = (λ depth spare above rest deep fits. by_depth depth spare above rest deep fits) }
  where
    by_depth : (depth spare : ℕ) (above : ℕ → ℕ) (rest : List ℕ) → end_depth (ends.Branch place lam inside outside) ≤ depth → ends_fit 1024 4096 (ends.Branch place lam inside outside) ≡ true →
        end_at depth (end_count (ends.Branch place lam inside outside) + spare) above (ends_text (ends.Branch place lam inside outside) above ++ rest) ≡ Some (ends.Branch place lam inside outside, spare, rest)
    by_depth zero spare above rest deep fits = absurd (omega (arith, deep, depth_branch place lam inside outside))
    by_depth (suc depth) spare above rest deep fits =
        let own = sym (fits_branch 1024 4096 place lam inside outside) ∙ fits in
        let a = and_parts (nat_lt place 1024 && lam_fits 4096 lam && tree_fits 1024 4096 inside) (tree_fits 1024 4096 outside) own in
        let b = and_parts (nat_lt place 1024 && lam_fits 4096 lam) (tree_fits 1024 4096 inside) a.0 in
        let c = and_parts (nat_lt place 1024) (lam_fits 4096 lam) b.0 in
        let small = ltb-true place 1024 c.0 in
        let deeper : (branch_depth inside ≤ depth) × (branch_depth outside ≤ depth) = let m = depth_branch place lam inside outside in (omega (arith, deep, m), omega (arith, deep, m)) in
        let left : end_count (ends.Branch place lam inside outside) + spare ≡ suc (branch_count inside + (branch_count outside + spare)) = omega (arith, count_branch place lam inside outside) in
        ap (λ (k : ℕ). end_at (suc depth) k above (ends_text (ends.Branch place lam inside outside) above ++ rest)) left
        ∙ ap (λ (text : List ℕ). end_at (suc depth) (suc (branch_count inside + (branch_count outside + spare))) above (text ++ rest)) (text_branch place lam inside outside above)
        ∙ ap (end_at (suc depth) (suc (branch_count inside + (branch_count outside + spare))) above)
        (regrouped (two_bytes place) (lam_text above lam) (tree_text inside (multiplier lam)) (tree_text outside (multiplier lam)) rest)
        ∙ end_deeper depth (suc (branch_count inside + (branch_count outside + spare))) above _
        ∙ any_branch (tree_at depth) (branch_count inside + (branch_count outside + spare)) (branch_count outside + spare) spare above place lam inside outside rest (omega (arith, small)) c.1
        (first.again depth (branch_count outside + spare) (multiplier lam) (tree_text outside (multiplier lam) ++ rest) deeper.0 b.1)
        (second.again depth spare (multiplier lam) rest deeper.1 a.1)

node_read : (depth left behind : ℕ) (above : ℕ → ℕ) (fixes : List Fix) (its_end : End) (bytes rest : List ℕ) → list_at fix_at bytes ≡ Some (fixes, rest) → (more : List ℕ) →
    end_at depth left above rest ≡ Some (its_end, behind, more) → tree_at depth left above bytes ≡ Some (record { fixes = fixes; end = its_end }, behind, more)
unfolding node_at
node_read depth left behind above fixes its_end bytes rest one more two = rw (one, two) refl

node_again : (fixes : List Fix) (its_end : End) → EndAgain its_end → TreeAgain (record { fixes = fixes; end = its_end })
node_again fixes its_end ending = record {
  again = (λ depth spare above rest deep fits.
      let own = sym (fits_node 1024 4096 fixes its_end) ∙ fits in
      let a = and_parts (nat_le (length fixes) 1024 && list_all (fix_fits 1024 4096) fixes) (ends_fit 1024 4096 its_end) own in
      let b = and_parts (nat_le (length fixes) 1024) (list_all (fix_fits 1024 4096) fixes) a.0 in
      let short = leb-true (length fixes) 1024 b.0 in
      let count = count_node fixes its_end in
      let deep_end : end_depth its_end ≤ depth = omega (arith, deep, depth_node fixes its_end) in
      let bytes : tree_text (record { fixes = fixes; end = its_end }) above ++ rest ≡ list_text fix_text fixes ++ (ends_text its_end above ++ rest) =
      ap (λ (text : List ℕ). text ++ rest) (text_node fixes its_end above) ∙ append_assoc (list_text fix_text fixes) (ends_text its_end above) rest in
      ap (tree_at depth (branch_count (record { fixes = fixes; end = its_end }) + spare) above) bytes
      ∙ ap (λ (k : ℕ). tree_at depth (k + spare) above (list_text fix_text fixes ++ (ends_text its_end above ++ rest))) count
      ∙ node_read depth (end_count its_end + spare) spare above fixes its_end (list_text fix_text fixes ++ (ends_text its_end above ++ rest)) (ends_text its_end above ++ rest)
      (list_again IsNear fix_text fix_at each_fix_again fixes (ends_text its_end above ++ rest) (omega (arith, short)) (all_near fixes b.1)) rest
      (ending.again depth spare above rest deep_end a.1));
}

ends_again : (y : End-F ((e : End) × EndAgain e) ((t : Tree) × TreeAgain t)) → EndAgain (roll-End (map-End _ _ End Tree (λ e. e.0) (λ t. t.0) y))
ends_again (End-F.Bound lam) = subst EndAgain (sym (rolls-Bound lam)) (bound_again lam)
ends_again (End-F.Short line) = subst EndAgain (sym (rolls-Short line)) (short_again line)
ends_again (End-F.Branch place lam inside outside) =
    subst EndAgain (sym (rolls-Branch place lam inside.0 outside.0)) (branch_again place lam inside.0 outside.0 inside.1 outside.1)

nodes_again : (y : Tree-F ((e : End) × EndAgain e) ((t : Tree) × TreeAgain t)) → TreeAgain (roll-Tree (map-Tree _ _ End Tree (λ e. e.0) (λ t. t.0) y))
nodes_again y = subst TreeAgain (sym (rolls-struct-Tree (record { fixes = y.fixes; end = y.end.0 }))) (node_again y.fixes y.end.0 y.end.1)

-- a tree within the bounds is read again from its text, whatever follows
pub tree_again : (t : Tree) → TreeAgain t
tree_again = ind-Tree EndAgain TreeAgain
    (λ x y is. subst (λ z. EndAgain (roll-End z)) is (ends_again y))
    (λ x y is. subst (λ z. TreeAgain (roll-Tree z)) is (nodes_again y))
