use Rattle.std.proofs.Common.{◌≡◌, ◌∙◌, ℕ, zero, suc, ◌+◌, ◌*◌, ◌^◌, ◌<◌, ◌≤◌, Bool, true, false, not, Option, Some, None, List, [], ◌∷◌, ◌++◌, length, map, get_or, max, refl, sym, ap, subst, arith, append_assoc, ◌&&◌, ◌||◌}
use Rattle.std.proofs.Math.Seq.{get_or-append_seam}
use Rattle.std.proofs.lemmas.Bool.Decides.{nat_tests}
use Rattle.std.proofs.lemmas.List.{append-nil, length-append, get_or_append_left}
use Rattle.std.proofs.lemmas.List.Sums.{sum_by-append, sum_by_push}
use Rattle.std.proofs.lemmas.List.Folds.{list_all-append}
use Rattle.std.specs.Prelude.{IsTrue, option_and_then, slice_index, sum_by, nat_le, nat_lt}
use Rattle.std.specs.List.{All, list_all, flat_map}
use Rattle.dali_base.specs.Spelling.{is_name}
use Rattle.dali_base.proofs.Spelled.{and_parts, both}
use Rattle.dali_problem.specs.declared.row.LineRow.{LineRow}
use Rattle.dali_problem.specs.Clearing.{Item, Clearing, line_at}
use Rattle.dali_problem.specs.Limits.{IsProblem, IsItem, IsBefore}
use Rattle.dali_tree.specs.declared.fix.Fix.{Fix}
use Rattle.dali_tree.specs.declared.tree.Tree.{Tree}
use Rattle.dali_tree.specs.declared.tree.End.{End}
use Rattle.dali_tree.specs.declared.tree.End.TheOpen.{Tree-F, End-F}
use Rattle.dali_tree.specs.declared.tree.End.TheFolds.{fold-roll-End, fold-roll-Tree, ind-Tree, map-End, map-Tree}
use Rattle.dali_tree.specs.declared.tree.End.TheViews.{roll-End, roll-Tree}
use Rattle.dali_tree.specs.declared.choice.Part.{Part}
use Rattle.dali_tree.specs.Fits.{PartFits, first_member, fix_fits, lam_fits, end_fits, tree_fits}
use Rattle.dali_tree.specs.Tree.{depth_step, branch_depth}
use Rattle.dali_tree.specs.Ends.{ends_fit, end_depth}
use Rattle.dali_cert_print.specs.declared.row.Row.{Row}
use Rattle.dali_cert_print.specs.declared.row.Row.TheVariants as rows
use Rattle.dali_cert_text.specs.declared.growth.Frame.{Frame}
use Rattle.dali_cert_text.specs.declared.growth.Frame.TheVariants as frames
use Rattle.dali_cert_text.specs.declared.growth.Growth.{Growth}
use Rattle.dali_cert_text.specs.declared.growth.Growth.TheVariants.{Open}
use Rattle.dali_cert_text.specs.declared.block.Block.{Block}
use Rattle.dali_cert_print.specs.Block.{is_small, is_small_item, is_small_bound, end_step, end_rows, tree_rows, part_rows, item_row}
use Rattle.dali_cert_text.specs.Form.{IsDraft, draft_rows}
use Rattle.dali_cert_text.specs.Growth.{tree_of, grown, grow}
use Rattle.dali_cert_text.specs.Stating.{no_lines, may_line, may_item, with_line, with_item, values_of, state_row, least_first, part_row, edition_row, budget_row}
use Rattle.dali_cert_text.specs.Stages.{Setting, Stage, Start, Opened, Stated, Parted, Growing, stated_to, parted_to, grown_to, step, setting_of, whole}
use Rattle.dali_cert_text.proofs.Binds.{if_true}
use Rattle.dali_cert_text.proofs.MayLaws.{may_line_again, may_item_again}
use Rattle.dali_cert_text.proofs.RisingLaws.{Rises, rises_of, from_zero}
use Rattle.dali_cert_text.proofs.Following.{Comes, Follows, follows_then, follows_as, follows_to}

-- The rows of a draft lead from the start to the whole draft.

step_is : (s u : Stage) (row : Row) (rs : List Row) (t : Stage) → Comes s row u → Follows u rs t → Follows s (row ∷ rs) t
step_is s u row rs t comes follows = (u, comes, follows)

-- ---- trees

-- a tree by its fixes and its end
abbrev node : List Fix → End → Tree
node fixes end = roll-Tree (record { fixes = fixes; end = end })

module _ (s : Setting) (parts : List Part) (bound : ℕ) (members : List ℕ) (few_items : length s.problem.items ≤ 1024) (few_lines : length s.problem.lines ≤ 4096) where
  abbrev at : List Frame → List Fix → Stage
  at above fixes = Growing s parts bound members above fixes

  abbrev behind : Growth → Stage
  behind g = grown_to s parts bound members g

  grows : (above : List Frame) (fixes : List Fix) (row : Row) (g : Growth) → grow above fixes row ≡ Some g → step (at above fixes) row ≡ Some (behind g)
  unfolding step
  grows above fixes row g told = ap (option_and_then (λ (h : Growth). Some (behind h))) told

  fix_comes : (above : List Frame) (fixes : List Fix) (fix : Fix) → length fixes < 1024 → fix_fits (length s.problem.items) (length s.problem.lines) fix ≡ true →
      Comes (at above fixes) (rows.Fix fix) (at above (fixes ++ fix ∷ []))
  unfolding grow
  fix_comes above fixes fix few fits =
      let told : nat_lt (length fixes) 1024 ≡ true = grind (arith, nat_tests, few) in
      record { items = few_items; lines = few_lines; is = fits; led = grows above fixes (rows.Fix fix) (Open above (fixes ++ fix ∷ [])) (if_true (nat_lt (length fixes) 1024) (Some (Open above (fixes ++ fix ∷ []))) None told) }

  fixes_follow : (above : List Frame) (done fixes : List Fix) → length done + length fixes ≤ 1024 → list_all (fix_fits (length s.problem.items) (length s.problem.lines)) fixes ≡ true →
      Follows (at above done) (map rows.Fix fixes) (at above (done ++ fixes))
  fixes_follow above done [] few fits = ap (λ (fs : List Fix). at above fs) (sym (append-nil done))
  fixes_follow above done (fix ∷ fixes) few fits =
      let tests = and_parts (fix_fits (length s.problem.items) (length s.problem.lines) fix) (list_all (fix_fits (length s.problem.items) (length s.problem.lines)) fixes) fits in
      let more : length (done ++ fix ∷ []) + length fixes ≤ 1024 = omega (arith, few, length-append done (fix ∷ [])) in
      step_is (at above done) (at above (done ++ fix ∷ [])) (rows.Fix fix) (map rows.Fix fixes) (at above (done ++ fix ∷ fixes))
      (fix_comes above done fix (omega (arith, few)) tests.0)
      (follows_to (map rows.Fix fixes) (at above (done ++ fix ∷ [])) (at above ((done ++ fix ∷ []) ++ fixes)) (at above (done ++ fix ∷ fixes))
      (ap (λ (fs : List Fix). at above fs) (append_assoc done (fix ∷ []) fixes)) (fixes_follow above (done ++ fix ∷ []) fixes more tests.1))

  -- an end leads on from its node's fixes, and a tree from an empty node
  record EndLeads (end : End) : Type 0 where
    leads : (above : List Frame) (fixes : List Fix) → ends_fit (length s.problem.items) (length s.problem.lines) end ≡ true → end_depth end + length above ≤ 1024 →
        Follows (at above fixes) (end_rows end) (behind (grown above (node fixes end)))

  record TreeLeads (tree : Tree) : Type 0 where
    leads : (above : List Frame) → tree_fits (length s.problem.items) (length s.problem.lines) tree ≡ true → branch_depth tree + length above ≤ 1024 →
        Follows (at above []) (tree_rows tree) (behind (grown above tree))

  one_row : (above : List Frame) (fixes : List Fix) (row : Row) (g : Growth) (rs : List Row) → rs ≡ row ∷ [] → grow above fixes row ≡ Some g →
      Comes (at above fixes) row (behind g) → Follows (at above fixes) rs (behind g)
  one_row above fixes row g rs same told comes = follows_as (row ∷ []) rs (at above fixes) (behind g) (sym same) (step_is (at above fixes) (behind g) row [] (behind g) comes refl)

  abbrev fits_node : Tree-F Bool Bool → Bool
  fits_node n = nat_le (length n.fixes) 1024 && list_all (fix_fits (length s.problem.items) (length s.problem.lines)) n.fixes && n.end

  abbrev rows_node : Tree-F (List Row) (List Row) → List Row
  rows_node n = map rows.Fix n.fixes ++ n.end

  end_fits_is : (x : End-F End Tree) → ends_fit (length s.problem.items) (length s.problem.lines) (roll-End x)
      ≡ end_fits (length s.problem.items) (length s.problem.lines) (map-End End Tree Bool Bool (ends_fit (length s.problem.items) (length s.problem.lines)) (tree_fits (length s.problem.items) (length s.problem.lines)) x)
  end_fits_is x = fold-roll-End Bool Bool (end_fits (length s.problem.items) (length s.problem.lines)) fits_node x

  end_rows_is : (x : End-F End Tree) → end_rows (roll-End x) ≡ end_step (map-End End Tree (List Row) (List Row) end_rows tree_rows x)
  end_rows_is x = fold-roll-End (List Row) (List Row) end_step rows_node x

  end_depth_is : (x : End-F End Tree) → end_depth (roll-End x) ≡ depth_step (map-End End Tree ℕ ℕ end_depth branch_depth x)
  end_depth_is x = fold-roll-End ℕ ℕ depth_step (λ n. n.end) x

  branch_may : (above : List Frame) (fixes : List Fix) (place : ℕ) (lam : List (ℕ × ℕ)) → length above < 1024 →
      grow above fixes (rows.Branch place lam) ≡ Some (Open (frames.Inside fixes place lam ∷ above) [])
  unfolding grow
  branch_may above fixes place lam few =
      let told : nat_lt (length above) 1024 ≡ true = grind (arith, nat_tests, few) in
      if_true (nat_lt (length above) 1024) (Some (Open (frames.Inside fixes place lam ∷ above) [])) None told

  bound_grows : (above : List Frame) (fixes : List Fix) (lam : List (ℕ × ℕ)) → grow above fixes (rows.Bound lam) ≡ Some (grown above (tree_of fixes (End-F.Bound lam)))
  unfolding grow
  bound_grows above fixes lam = refl

  short_grows : (above : List Frame) (fixes : List Fix) (line : ℕ) → grow above fixes (rows.Short line) ≡ Some (grown above (tree_of fixes (End-F.Short line)))
  unfolding grow
  short_grows above fixes line = refl

  test_lt : (n m : ℕ) → nat_lt n m ≡ true → n < m
  test_lt n m told = grind (arith, nat_tests, told)

  deep_inside : (a b n h : ℕ) → n ≡ max a b + 1 → n + h ≤ 1024 → (a + (h + 1) ≤ 1024) × (b + (h + 1) ≤ 1024) × (h < 1024)
  deep_inside a b n h is deep = (omega (arith, is, deep), omega (arith, is, deep), omega (arith, is, deep))

  ends_lead : (y : End-F ((e : End) × EndLeads e) ((t : Tree) × TreeLeads t)) → EndLeads (roll-End (map-End _ _ End Tree (λ e. e.0) (λ t. t.0) y))
  ends_lead (End-F.Bound lam) = record {
    leads = λ above fixes fits deep.
        one_row above fixes (rows.Bound lam) (grown above (tree_of fixes (End-F.Bound lam))) (end_rows (roll-End (End-F.Bound lam))) (end_rows_is (End-F.Bound lam)) (bound_grows above fixes lam)
        (record { items = few_items; lines = few_lines; is = sym (end_fits_is (End-F.Bound lam)) ∙ fits; led = grows above fixes (rows.Bound lam) (grown above (tree_of fixes (End-F.Bound lam))) (bound_grows above fixes lam) });
  }
  ends_lead (End-F.Short line) = record {
    leads = λ above fixes fits deep.
        one_row above fixes (rows.Short line) (grown above (tree_of fixes (End-F.Short line))) (end_rows (roll-End (End-F.Short line))) (end_rows_is (End-F.Short line)) (short_grows above fixes line)
        (record { items = few_items; lines = few_lines; is = test_lt line (length s.problem.lines) (sym (end_fits_is (End-F.Short line)) ∙ fits); led = grows above fixes (rows.Short line) (grown above (tree_of fixes (End-F.Short line))) (short_grows above fixes line) });
  }
  ends_lead (End-F.Branch place lam inside outside) = record {
    leads = λ above fixes fits deep.
        let x : End-F End Tree = End-F.Branch place lam inside.0 outside.0 in
        let items = length s.problem.items in
        let lines = length s.problem.lines in
        let all = and_parts (nat_lt place items && lam_fits lines lam && tree_fits items lines inside.0) (tree_fits items lines outside.0) (sym (end_fits_is x) ∙ fits) in
        let three = and_parts (nat_lt place items && lam_fits lines lam) (tree_fits items lines inside.0) all.0 in
        let two = and_parts (nat_lt place items) (lam_fits lines lam) three.0 in
        let depths = deep_inside (branch_depth inside.0) (branch_depth outside.0) (end_depth (roll-End x)) (length above) (end_depth_is x) deep in
        let over : List Frame = frames.Inside fixes place lam ∷ above in
        let past : List Frame = frames.Outside fixes place lam inside.0 ∷ above in
        let deep_in : branch_depth inside.0 + length over ≤ 1024 = omega (arith, depths.0) in
        let deep_out : branch_depth outside.0 + length past ≤ 1024 = omega (arith, depths.1) in
        follows_as (rows.Branch place lam ∷ (tree_rows inside.0 ++ tree_rows outside.0)) (end_rows (roll-End x)) (at above fixes) (behind (grown above (node fixes (roll-End x)))) (sym (end_rows_is x))
        (step_is (at above fixes) (at over []) (rows.Branch place lam) (tree_rows inside.0 ++ tree_rows outside.0) (behind (grown above (node fixes (roll-End x))))
        (record { items = few_items; lines = few_lines; is = (test_lt place items two.0, two.1); led = grows above fixes (rows.Branch place lam) (Open over []) (branch_may above fixes place lam depths.2) })
        (follows_then (tree_rows inside.0) (tree_rows outside.0) (at over []) (at past []) (behind (grown above (node fixes (roll-End x))))
        (inside.1.leads over three.1 deep_in) (outside.1.leads past all.1 deep_out)));
  }

  trees_lead : (y : Tree-F ((e : End) × EndLeads e) ((t : Tree) × TreeLeads t)) → TreeLeads (roll-Tree (map-Tree _ _ End Tree (λ e. e.0) (λ t. t.0) y))
  trees_lead y = record {
    leads = λ above fits deep.
        let x : Tree-F End Tree = map-Tree _ _ End Tree (λ e. e.0) (λ t. t.0) y in
        let items = length s.problem.items in
        let lines = length s.problem.lines in
        let fits_is = fold-roll-Tree Bool Bool (end_fits items lines) fits_node x in
        let rows_is = fold-roll-Tree (List Row) (List Row) end_step rows_node x in
        let depth_is = fold-roll-Tree ℕ ℕ depth_step (λ n. n.end) x in
        let all = and_parts (nat_le (length y.fixes) 1024 && list_all (fix_fits items lines) y.fixes) (ends_fit items lines y.end.0) (sym fits_is ∙ fits) in
        let two = and_parts (nat_le (length y.fixes) 1024) (list_all (fix_fits items lines) y.fixes) all.0 in
        let few : length y.fixes ≤ 1024 = grind (arith, nat_tests, two.0) in
        let none : length {A = Fix} [] + length y.fixes ≤ 1024 = omega (arith, few) in
        let deep_end : end_depth y.end.0 + length above ≤ 1024 = subst (λ (n : ℕ). n + length above ≤ 1024) depth_is deep in
        follows_as (map rows.Fix y.fixes ++ end_rows y.end.0) (tree_rows (roll-Tree x)) (at above []) (behind (grown above (roll-Tree x))) (sym rows_is)
        (follows_then (map rows.Fix y.fixes) (end_rows y.end.0) (at above []) (at above y.fixes) (behind (grown above (roll-Tree x)))
        (fixes_follow above [] y.fixes none two.1) (y.end.1.leads above y.fixes all.1 deep_end));
  }

  tree_leads : (tree : Tree) → TreeLeads tree
  tree_leads = ind-Tree EndLeads TreeLeads
      (λ x y is. subst (λ z. EndLeads (roll-End z)) is (ends_lead y))
      (λ x y is. subst (λ z. TreeLeads (roll-Tree z)) is (trees_lead y))

  pub whole_tree : (tree : Tree) → tree_fits (length s.problem.items) (length s.problem.lines) tree ≡ true → branch_depth tree ≤ 1024 →
      Follows (Growing s parts bound members [] []) (tree_rows tree) (Parted s (parts ++ record { members = members; bound = bound; tree = tree } ∷ []))
  whole_tree tree fits deep = (tree_leads tree).leads [] fits (omega (arith, deep))

-- ---- parts

wide_or : (wide test : Bool) → (wide ≡ false → test ≡ true) → (wide || test) ≡ true
wide_or true test small = refl
wide_or false test small = small refl

module _ (s : Setting) (few_items : length s.problem.items ≤ 1024) (few_lines : length s.problem.lines ≤ 4096) where
  abbrev IsPart : Part → Type 0
  IsPart part = PartFits (length s.problem.items) (length s.problem.lines) part × (s.wide ≡ false → is_small_bound part.bound ≡ true)

  part_comes : (done : List Part) (part : Part) → IsPart part → least_first 0 done ≤ first_member part →
      Comes (Parted s done) (rows.Part part.bound part.members) (Growing s done part.bound part.members [] [])
  unfolding step part_row
  part_comes done part fits least =
      let low : nat_le (least_first 0 done) (slice_index part.members 0) ≡ true = grind (arith, nat_tests, least) in
      let tests : ((s.wide || is_small_bound part.bound) && nat_le (least_first 0 done) (slice_index part.members 0)) ≡ true =
      both (s.wide || is_small_bound part.bound) (nat_le (least_first 0 done) (slice_index part.members 0)) (wide_or s.wide (is_small_bound part.bound) fits.1) low in
      record {
        items = few_items;
        lines = few_lines;
        is = (fits.0.bound, fits.0.some, fits.0.members);
        led = ap (option_and_then (λ (x : Option (ℕ × List ℕ)). Some (parted_to s done x)))
            (if_true ((s.wide || is_small_bound part.bound) && nat_le (least_first 0 done) (slice_index part.members 0)) (Some (Some (part.bound, part.members))) None tests);
      }

  least_push : (low : ℕ) (done : List Part) (part : Part) → least_first low (done ++ part ∷ []) ≡ first_member part + 1
  least_push low [] part = refl
  least_push low (p ∷ done) part = least_push (first_member p + 1) done part

  pub parts_follow : (done parts : List Part) → All IsPart parts → Rises first_member (least_first 0 done) parts →
      Follows (Parted s done) (flat_map part_rows parts) (Parted s (done ++ parts))
  parts_follow done [] fits rises = ap (λ (ps : List Part). Parted s ps) (sym (append-nil done))
  parts_follow done (part ∷ parts) fits rises =
      let first : IsPart part = fits 0 part (omega arith) in
      let others : All IsPart parts = λ k d below. fits (suc k) d (omega (arith, below)) in
      step_is (Parted s done) (Growing s done part.bound part.members [] []) (rows.Part part.bound part.members) (tree_rows part.tree ++ flat_map part_rows parts) (Parted s (done ++ part ∷ parts))
      (part_comes done part first rises.0)
      (follows_then (tree_rows part.tree) (flat_map part_rows parts) (Growing s done part.bound part.members [] []) (Parted s (done ++ part ∷ [])) (Parted s (done ++ part ∷ parts))
      (whole_tree s done part.bound part.members few_items few_lines part.tree first.0.tree first.0.depth)
      (follows_to (flat_map part_rows parts) (Parted s (done ++ part ∷ [])) (Parted s ((done ++ part ∷ []) ++ parts)) (Parted s (done ++ part ∷ parts))
      (ap (λ (ps : List Part). Parted s ps) (append_assoc done (part ∷ []) parts))
      (parts_follow (done ++ part ∷ []) parts others (subst (λ (n : ℕ). Rises first_member n parts) (sym (least_push 0 done part)) rises.1))))

-- ---- lines and items

total_of : (all before here behind : ℕ) → all ≡ before + here + behind → all ≤ 16384 * 10 ^ 15 → before + here ≤ 16384 * 10 ^ 15
total_of all before here behind is most = omega (arith, is, most)

module _ (wide : Bool) (budget : ℕ) (p : Clearing) (limits : IsProblem p) (names : All (λ line. IsTrue (is_name line.account) × IsTrue (is_name line.asset)) p.lines) where
  abbrev lined : List LineRow → Stage
  lined lines = Stated wide budget (record { lines = lines; items = [] })

  line_comes : (done : List LineRow) (line : LineRow) (more : List LineRow) → p.lines ≡ done ++ line ∷ more → Comes (lined done) (rows.Line line) (lined (done ++ line ∷ []))
  unfolding step state_row
  line_comes done line more whole' =
      let none : LineRow = record { account = []; asset = []; balance = 0 } in
      let so_far : Clearing = record { lines = done; items = [] } in
      let size : length p.lines ≡ length done + suc (length more) = ap length whole' ∙ length-append done (line ∷ more) in
      let within : length done < length p.lines = omega (arith, size) in
      let here : (d : LineRow) → get_or p.lines (length done) d ≡ line = λ d. ap (λ (ls : List LineRow). get_or ls (length done) d) whole' ∙ get_or-append_seam done line more d in
      let before : (k : ℕ) → k < length done → line_at p k ≡ line_at so_far k = λ k below. ap (λ (ls : List LineRow). get_or ls k none) whole' ∙ get_or_append_left done (line ∷ more) none k below in
      let may : may_line so_far line ≡ true = may_line_again so_far line (record {
        no_items = refl;
        few = omega (arith, size, limits.lines);
        after = λ k last.
            let step' : k + 1 < length p.lines = omega (arith, last, within) in
            let ordered : IsBefore (line_at p k) (line_at p (k + 1)) = limits.ordered k step' in
            let at_end : line_at p (k + 1) ≡ line = ap (λ (i : ℕ). line_at p i) last ∙ here none in
            subst (λ (l : LineRow). IsBefore (line_at so_far k) l) at_end (subst (λ (l : LineRow). IsBefore l (line_at p (k + 1))) (before k (omega (arith, last))) ordered);
      }) in
      let named = subst (λ (l : LineRow). IsTrue (is_name l.account) × IsTrue (is_name l.asset)) (here none) (names (length done) none within) in
      let small : line.balance ≤ 10 ^ 18 = subst (λ (l : LineRow). l.balance ≤ 10 ^ 18) (here none) (limits.balances (length done) none within) in
      record {
        items = omega arith;
        lines = omega (arith, size, limits.lines);
        is = (named.0, named.1, small);
        led = ap (option_and_then (λ (x : Clearing × Option (List ℕ)). Some (stated_to wide budget x))) (if_true (may_line so_far line) (Some (with_line so_far line, None)) None may);
      }

  lines_follow : (done lines : List LineRow) → p.lines ≡ done ++ lines → Follows (lined done) (map rows.Line lines) (lined p.lines)
  lines_follow done [] whole' = ap lined (sym (whole' ∙ append-nil done))
  lines_follow done (line ∷ lines) whole' =
      step_is (lined done) (lined (done ++ line ∷ [])) (rows.Line line) (map rows.Line lines) (lined p.lines) (line_comes done line lines whole')
      (lines_follow (done ++ line ∷ []) lines (whole' ∙ sym (append_assoc done (line ∷ []) lines)))

  module _ (ids : All (λ item. IsTrue (is_name item.id)) p.items) (small : wide ≡ false → list_all is_small_item p.items ≡ true) where
    abbrev itemed : List Item → Stage
    itemed items = Stated wide budget (record { lines = p.lines; items = items })

    item_comes : (done : List Item) (item : Item) (more : List Item) → p.items ≡ done ++ item ∷ more → Comes (itemed done) (item_row item) (itemed (done ++ item ∷ []))
    unfolding step state_row
    item_comes done item more whole' =
        let none : Item = record { id = []; value = 0; effects = [] } in
        let so_far : Clearing = record { lines = p.lines; items = done } in
        let size : length p.items ≡ length done + suc (length more) = ap length whole' ∙ length-append done (item ∷ more) in
        let within : length done < length p.items = omega (arith, size) in
        let here : (d : Item) → get_or p.items (length done) d ≡ item = λ d. ap (λ (ls : List Item). get_or ls (length done) d) whole' ∙ get_or-append_seam done item more d in
        let fits : IsItem (length p.lines) item = subst (IsItem (length p.lines)) (here none) (limits.each (length done) none within) in
        let named : IsTrue (is_name item.id) = subst (λ (i : Item). IsTrue (is_name i.id)) (here none) (ids (length done) none within) in
        let total : values_of so_far + item.value ≤ 16384 * 10 ^ 15 =
        total_of (sum_by (λ (i : Item). i.value) p.items) (values_of so_far) item.value (sum_by (λ (i : Item). i.value) more)
        (ap (sum_by (λ (i : Item). i.value)) (whole' ∙ sym (append_assoc done (item ∷ []) more)) ∙ sum_by-append (λ (i : Item). i.value) (done ++ item ∷ []) more
        ∙ ap (λ (n : ℕ). n + sum_by (λ (i : Item). i.value) more) (sum_by_push (λ (i : Item). i.value) done item)) limits.total in
        let narrow : wide ≡ false → is_small item.value item.effects ≡ true = λ e.
        let all = sym (list_all-append is_small_item done (item ∷ more)) ∙ sym (ap (list_all is_small_item) whole') ∙ small e in
        (and_parts (is_small_item item) (list_all is_small_item more) (and_parts (list_all is_small_item done) (list_all is_small_item (item ∷ more)) all).1).0 in
        let may : may_item wide so_far item.id item.value item.effects ≡ true = may_item_again wide so_far item.id item.value item.effects (record {
          few = omega (arith, size, limits.items);
          new_id = λ k d below same.
              let at_k : get_or p.items k d ≡ get_or done k d = ap (λ (ls : List Item). get_or ls k d) whole' ∙ get_or_append_left done (item ∷ more) d k below in
              limits.ids k (length done) d below within (ap (λ (i : Item). i.id) at_k ∙ same ∙ ap (λ (i : Item). i.id) (sym (here d)));
          total = total;
          small = narrow;
        }) in
        record {
          items = omega (arith, size, limits.items);
          lines = limits.lines;
          is = (named, fits.value_low, fits.value_high, fits.effects);
          led = ap (option_and_then (λ (x : Clearing × Option (List ℕ)). Some (stated_to wide budget x)))
              (if_true (may_item wide so_far item.id item.value item.effects) (Some (with_item so_far item.id item.value item.effects, None)) None may);
        }

    items_follow : (done items : List Item) → p.items ≡ done ++ items → Follows (itemed done) (map item_row items) (itemed p.items)
    items_follow done [] whole' = ap itemed (sym (whole' ∙ append-nil done))
    items_follow done (item ∷ items) whole' =
        step_is (itemed done) (itemed (done ++ item ∷ [])) (item_row item) (map item_row items) (itemed p.items) (item_comes done item items whole')
        (items_follow (done ++ item ∷ []) items (whole' ∙ sym (append_assoc done (item ∷ []) items)))

    pub problem_follows : Follows (Stated wide budget no_lines) (map rows.Line p.lines ++ map item_row p.items) (Stated wide budget p)
    problem_follows = follows_then (map rows.Line p.lines) (map item_row p.items) (Stated wide budget no_lines) (lined p.lines) (Stated wide budget p) (lines_follow [] p.lines refl) (items_follow [] p.items refl)

-- ---- all of it

narrow_small : (a b wide : Bool) → (not (a && b) ≡ true → wide ≡ true) → wide ≡ false → (a ≡ true) × (b ≡ true)
narrow_small true true wide edition narrow = (refl, refl)
narrow_small true false wide edition narrow = absurd (cc (edition refl, narrow))
narrow_small false b wide edition narrow = absurd (cc (edition refl, narrow))

all_of : {A : Type 0} (test : A → Bool) (xs : List A) → list_all test xs ≡ true → All (λ x. test x ≡ true) xs
all_of test [] told k d below = absurd (omega (arith, below))
all_of test (x ∷ xs) told zero d below = (and_parts (test x) (list_all test xs) told).0
all_of test (x ∷ xs) told (suc k) d below = all_of test xs (and_parts (test x) (list_all test xs) told).1 k d (omega (arith, below))

module _ (wide : Bool) (b : Block) (draft : IsDraft wide b) where
  opens : Comes Start (rows.Block wide) (Opened wide)
  unfolding step edition_row
  opens = record { items = omega arith; lines = omega arith; is = tt; led = refl }

  budgets : Comes (Opened wide) (rows.Budget b.budget) (Stated wide b.budget no_lines)
  unfolding step budget_row
  budgets = record { items = omega arith; lines = omega arith; is = draft.block.budget; led = refl }

  sets : Comes (Stated wide b.budget b.problem) (rows.Set b.choice.places) (Parted (setting_of wide b) [])
  unfolding step state_row
  sets = record { items = draft.block.problem.items; lines = draft.block.problem.lines; is = draft.block.choice.set; led = refl }

  ends : Comes (Parted (setting_of wide b) b.choice.parts) rows.Last (whole wide b)
  unfolding step part_row
  ends = record { items = draft.block.problem.items; lines = draft.block.problem.lines; is = tt; led = refl }

  pub draft_follows : Follows Start (draft_rows wide b) (whole wide b)
  draft_follows =
      let block = draft.block in
      let at : Setting = setting_of wide b in
      let small = narrow_small (list_all is_small_item b.problem.items) (list_all (λ (part : Part). is_small_bound part.bound) b.choice.parts) wide draft.edition in
      let parts = parts_follow at block.problem.items block.problem.lines [] b.choice.parts
      (λ k d below. (block.choice.parts k d below, λ narrow. all_of (λ (part : Part). is_small_bound part.bound) b.choice.parts (small narrow).1 k d below))
      (rises_of first_member 0 b.choice.parts block.choice.order (from_zero first_member b.choice.parts)) in
      let last = follows_then (flat_map part_rows b.choice.parts) (rows.Last ∷ []) (Parted at []) (Parted at b.choice.parts) (whole wide b) parts
      (step_is (Parted at b.choice.parts) (whole wide b) rows.Last [] (whole wide b) ends refl) in
      let set = step_is (Stated wide b.budget b.problem) (Parted at []) (rows.Set b.choice.places) (flat_map part_rows b.choice.parts ++ rows.Last ∷ []) (whole wide b) sets last in
      let problem = follows_then (map rows.Line b.problem.lines ++ map item_row b.problem.items) (rows.Set b.choice.places ∷ (flat_map part_rows b.choice.parts ++ rows.Last ∷ []))
      (Stated wide b.budget no_lines) (Stated wide b.budget b.problem) (whole wide b)
      (problem_follows wide b.budget b.problem block.problem block.names block.ids (λ narrow. (small narrow).0)) set in
      let tail : List Row = map rows.Line b.problem.lines ++ map item_row b.problem.items ++ rows.Set b.choice.places ∷ (flat_map part_rows b.choice.parts ++ rows.Last ∷ []) in
      step_is Start (Opened wide) (rows.Block wide) (rows.Budget b.budget ∷ tail) (whole wide b) opens
      (step_is (Opened wide) (Stated wide b.budget no_lines) (rows.Budget b.budget) tail (whole wide b) budgets problem)
