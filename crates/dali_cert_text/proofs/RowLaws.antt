use Rattle.std.proofs.Common.{◌≡◌, ◌∙◌, inl, inr, ℕ, ◌*◌, ◌^◌, ◌<◌, ◌≤◌, true, false, cond, Some, None, List, [], ◌∷◌, length, map, refl, sym, ap, subst, arith}
use Rattle.std.proofs.lemmas.Bool.Decides.{nat_tests}
use Rattle.std.specs.Prelude.{codes, decimal, option_and_then, nat_lt, nat_le}
use Rattle.dali_base.specs.Readers.{same_bytes}
use Rattle.dali_base.proofs.Spelled.{and_parts, both, same_then}
use Rattle.dali_problem.specs.declared.row.LineRow.{LineRow}
use Rattle.dali_problem.specs.declared.row.Effect.{Effect}
use Rattle.dali_tree.specs.declared.fix.Fix.TheVariants.{Barred, Needed, Safe}
use Rattle.dali_cert_print.specs.declared.row.Row.{Row}
use Rattle.dali_cert_print.specs.declared.row.Row.TheVariants as rows
use Rattle.dali_cert_print.specs.Rows.{word_of, fields_of, effect_field, multiplier_field}
use Rattle.dali_cert_text.specs.Rowed.{IsRow}
use Rattle.dali_cert_text.specs.Fields.{alone, number_of, name_of, place_of, places_of, effects_of, multipliers_of}
use Rattle.dali_cert_text.specs.Reading.{block_of, budget_of, line_of, item_of, set_of, part_of, barred_of, needed_of, safe_of, bound_of, short_of, branch_of, last_of, tree_row_of, other_row_of, is_tree_word, row_with}
use Rattle.dali_cert_text.proofs.Binds.{bind_some, if_some, either, some_is, if_true}
use Rattle.dali_cert_text.proofs.FieldLaws.{alone_is, number_field, number_again, name_field, name_again, place_field, place_again}
use Rattle.dali_cert_text.proofs.RisingLaws.{places_are, places_again, effects_are, effects_again, multipliers_are, multipliers_again}

-- A row that is read is the row of its word and fields, and a row's word and fields are read.

pub record Spelt (items lines : ℕ) (word : List ℕ) (fields : List (List ℕ)) (row : Row) : Type 0 where
  pub is : IsRow items lines row
  pub word_is : word ≡ word_of row
  pub fields_are : fields ≡ fields_of row

spelt_as : (items lines : ℕ) (word : List ℕ) (fields : List (List ℕ)) (made row : Row) → made ≡ row → Spelt items lines word fields made → Spelt items lines word fields row
spelt_as items lines word fields made row e spelt = subst (Spelt items lines word fields) e spelt

below_test : (n end : ℕ) → n < end → nat_lt n end ≡ true
below_test n end below = grind (arith, nat_tests, below)

test_below : (n end : ℕ) → nat_lt n end ≡ true → n < end
test_below n end told = grind (arith, nat_tests, told)

le_test : (n end : ℕ) → n ≤ end → nat_le n end ≡ true
le_test n end below = grind (arith, nat_tests, below)

test_le : (n end : ℕ) → nat_le n end ≡ true → n ≤ end
test_le n end told = grind (arith, nat_tests, told)

module _ (items lines : ℕ) where
  block_is : (fields : List (List ℕ)) (row : Row) → block_of fields ≡ Some row → Spelt items lines (codes "BLOCK") fields row
  unfolding block_of
  block_is [] row told = absurd cc
  block_is (f ∷ fs) row told =
      elim (either (same_bytes f (codes "1")) (alone fs (rows.Block false)) (cond (same_bytes f (codes "2")) (alone fs (rows.Block true)) None) (Some row) told) [
        | inl h ↦
            let a = alone_is fs (rows.Block false) row h.1 in
            spelt_as items lines (codes "BLOCK") (f ∷ fs) (rows.Block false) row a.1
            (record { is = tt; word_is = refl; fields_are = ap (λ (g : List ℕ). g ∷ fs) (same_then f (codes "1") h.0) ∙ ap (λ (gs : List (List ℕ)). codes "1" ∷ gs) a.0 })
        | inr h ↦
            let t = if_some (same_bytes f (codes "2")) (alone fs (rows.Block true)) row h.1 in
            let a = alone_is fs (rows.Block true) row t.1 in
            spelt_as items lines (codes "BLOCK") (f ∷ fs) (rows.Block true) row a.1
            (record { is = tt; word_is = refl; fields_are = ap (λ (g : List ℕ). g ∷ fs) (same_then f (codes "2") t.0) ∙ ap (λ (gs : List (List ℕ)). codes "2" ∷ gs) a.0 })
      ]

  budget_is : (fields : List (List ℕ)) (row : Row) → budget_of fields ≡ Some row → Spelt items lines (codes "BUDGET") fields row
  unfolding budget_of
  budget_is fields row told =
      let b = bind_some (λ (b : ℕ × List (List ℕ)). alone b.1 (rows.Budget b.0)) (number_of 4096 fields) row told in
      let n = number_field 4096 fields b.0 b.1 in
      let a = alone_is b.0.1 (rows.Budget b.0.0) row b.2 in
      spelt_as items lines (codes "BUDGET") fields (rows.Budget b.0.0) row a.1
      (record { is = n.0; word_is = refl; fields_are = n.1 ∙ ap (λ (gs : List (List ℕ)). decimal b.0.0 ∷ gs) a.0 })

  line_is : (fields : List (List ℕ)) (row : Row) → line_of fields ≡ Some row → Spelt items lines (codes "LINE") fields row
  unfolding line_of
  line_is fields row told =
      let a = bind_some (λ (a : List ℕ × List (List ℕ)). option_and_then (λ s. option_and_then (λ b. alone b.1 (rows.Line (record { account = a.0; asset = s.0; balance = b.0 }))) (number_of (10 ^ 18) s.1)) (name_of a.1)) (name_of fields) row told in
      let s = bind_some (λ (s : List ℕ × List (List ℕ)). option_and_then (λ b. alone b.1 (rows.Line (record { account = a.0.0; asset = s.0; balance = b.0 }))) (number_of (10 ^ 18) s.1)) (name_of a.0.1) row a.2 in
      let b = bind_some (λ (b : ℕ × List (List ℕ)). alone b.1 (rows.Line (record { account = a.0.0; asset = s.0.0; balance = b.0 }))) (number_of (10 ^ 18) s.0.1) row s.2 in
      let made : LineRow = record { account = a.0.0; asset = s.0.0; balance = b.0.0 } in
      let e = alone_is b.0.1 (rows.Line made) row b.2 in
      let one = name_field fields a.0 a.1 in
      let two = name_field a.0.1 s.0 s.1 in
      let three = number_field (10 ^ 18) s.0.1 b.0 b.1 in
      spelt_as items lines (codes "LINE") fields (rows.Line made) row e.1
      (record {
        is = (one.0, two.0, three.0);
        word_is = refl;
        fields_are = one.1 ∙ ap (λ (gs : List (List ℕ)). a.0.0 ∷ gs) two.1 ∙ ap (λ (gs : List (List ℕ)). a.0.0 ∷ s.0.0 ∷ gs) three.1
            ∙ ap (λ (gs : List (List ℕ)). a.0.0 ∷ s.0.0 ∷ decimal b.0.0 ∷ gs) e.0;
      })

  item_is : (fields : List (List ℕ)) (row : Row) → item_of lines fields ≡ Some row → Spelt items lines (codes "ITEM") fields row
  unfolding item_of
  item_is fields row told =
      let i = bind_some (λ (i : List ℕ × List (List ℕ)). option_and_then (λ v. cond (nat_le 1 v.0) (option_and_then (λ es. cond (nat_le (length es) 32) (Some (rows.Item i.0 v.0 es)) None) (effects_of lines 0 v.1)) None) (number_of (128 * 10 ^ 15) i.1)) (name_of fields) row told in
      let v = bind_some (λ (v : ℕ × List (List ℕ)). cond (nat_le 1 v.0) (option_and_then (λ es. cond (nat_le (length es) 32) (Some (rows.Item i.0.0 v.0 es)) None) (effects_of lines 0 v.1)) None) (number_of (128 * 10 ^ 15) i.0.1) row i.2 in
      let t = if_some (nat_le 1 v.0.0) (option_and_then (λ es. cond (nat_le (length es) 32) (Some (rows.Item i.0.0 v.0.0 es)) None) (effects_of lines 0 v.0.1)) row v.2 in
      let es = bind_some (λ (es : List Effect). cond (nat_le (length es) 32) (Some (rows.Item i.0.0 v.0.0 es)) None) (effects_of lines 0 v.0.1) row t.1 in
      let few = if_some (nat_le (length es.0) 32) (Some (rows.Item i.0.0 v.0.0 es.0)) row es.2 in
      let one = name_field fields i.0 i.1 in
      let two = number_field (128 * 10 ^ 15) i.0.1 v.0 v.1 in
      let three = effects_are lines v.0.1 es.0 es.1 (test_le (length es.0) 32 few.0) in
      spelt_as items lines (codes "ITEM") fields (rows.Item i.0.0 v.0.0 es.0) row (some_is (rows.Item i.0.0 v.0.0 es.0) row few.1)
      (record {
        is = (one.0, test_le 1 v.0.0 t.0, two.0, three.0);
        word_is = refl;
        fields_are = one.1 ∙ ap (λ (gs : List (List ℕ)). i.0.0 ∷ gs) two.1 ∙ ap (λ (gs : List (List ℕ)). i.0.0 ∷ decimal v.0.0 ∷ gs) three.1;
      })

  set_is : (fields : List (List ℕ)) (row : Row) → set_of items fields ≡ Some row → Spelt items lines (codes "SET") fields row
  unfolding set_of
  set_is fields row told =
      let b = bind_some (λ (ps : List ℕ). Some (rows.Set ps)) (places_of items 0 fields) row told in
      let are = places_are items fields b.0 b.1 in
      spelt_as items lines (codes "SET") fields (rows.Set b.0) row (some_is (rows.Set b.0) row b.2)
      (record { is = are.0; word_is = refl; fields_are = are.1 })

  part_is : (fields : List (List ℕ)) (row : Row) → part_of items fields ≡ Some row → Spelt items lines (codes "PART") fields row
  unfolding part_of
  part_is fields row told =
      let b = bind_some (λ (b : ℕ × List (List ℕ)). option_and_then (λ ps. cond (nat_le 1 (length ps)) (Some (rows.Part b.0 ps)) None) (places_of items 0 b.1)) (number_of (16384 * 10 ^ 15) fields) row told in
      let ps = bind_some (λ (ps : List ℕ). cond (nat_le 1 (length ps)) (Some (rows.Part b.0.0 ps)) None) (places_of items 0 b.0.1) row b.2 in
      let t = if_some (nat_le 1 (length ps.0)) (Some (rows.Part b.0.0 ps.0)) row ps.2 in
      let one = number_field (16384 * 10 ^ 15) fields b.0 b.1 in
      let are = places_are items b.0.1 ps.0 ps.1 in
      let has : 1 ≤ length ps.0 = test_le 1 (length ps.0) t.0 in
      spelt_as items lines (codes "PART") fields (rows.Part b.0.0 ps.0) row (some_is (rows.Part b.0.0 ps.0) row t.1)
      (record { is = (one.0, omega (arith, has), are.0); word_is = refl; fields_are = one.1 ∙ ap (λ (gs : List (List ℕ)). decimal b.0.0 ∷ gs) are.1 })

  barred_is : (fields : List (List ℕ)) (row : Row) → barred_of items lines fields ≡ Some row → Spelt items lines (codes "BARRED") fields row
  unfolding barred_of
  barred_is fields row told =
      let p = bind_some (λ (p : ℕ × List (List ℕ)). option_and_then (λ l. alone l.1 (rows.Fix (Barred p.0 l.0))) (place_of lines p.1)) (place_of items fields) row told in
      let l = bind_some (λ (l : ℕ × List (List ℕ)). alone l.1 (rows.Fix (Barred p.0.0 l.0))) (place_of lines p.0.1) row p.2 in
      let e = alone_is l.0.1 (rows.Fix (Barred p.0.0 l.0.0)) row l.2 in
      let one = place_field items fields p.0 p.1 in
      let two = place_field lines p.0.1 l.0 l.1 in
      spelt_as items lines (codes "BARRED") fields (rows.Fix (Barred p.0.0 l.0.0)) row e.1
      (record {
        is = both (nat_lt p.0.0 items) (nat_lt l.0.0 lines) (below_test p.0.0 items one.0) (below_test l.0.0 lines two.0);
        word_is = refl;
        fields_are = one.1 ∙ ap (λ (gs : List (List ℕ)). decimal p.0.0 ∷ gs) two.1 ∙ ap (λ (gs : List (List ℕ)). decimal p.0.0 ∷ decimal l.0.0 ∷ gs) e.0;
      })

  needed_is : (fields : List (List ℕ)) (row : Row) → needed_of items lines fields ≡ Some row → Spelt items lines (codes "NEEDED") fields row
  unfolding needed_of
  needed_is fields row told =
      let p = bind_some (λ (p : ℕ × List (List ℕ)). option_and_then (λ l. alone l.1 (rows.Fix (Needed p.0 l.0))) (place_of lines p.1)) (place_of items fields) row told in
      let l = bind_some (λ (l : ℕ × List (List ℕ)). alone l.1 (rows.Fix (Needed p.0.0 l.0))) (place_of lines p.0.1) row p.2 in
      let e = alone_is l.0.1 (rows.Fix (Needed p.0.0 l.0.0)) row l.2 in
      let one = place_field items fields p.0 p.1 in
      let two = place_field lines p.0.1 l.0 l.1 in
      spelt_as items lines (codes "NEEDED") fields (rows.Fix (Needed p.0.0 l.0.0)) row e.1
      (record {
        is = both (nat_lt p.0.0 items) (nat_lt l.0.0 lines) (below_test p.0.0 items one.0) (below_test l.0.0 lines two.0);
        word_is = refl;
        fields_are = one.1 ∙ ap (λ (gs : List (List ℕ)). decimal p.0.0 ∷ gs) two.1 ∙ ap (λ (gs : List (List ℕ)). decimal p.0.0 ∷ decimal l.0.0 ∷ gs) e.0;
      })

  safe_is : (fields : List (List ℕ)) (row : Row) → safe_of items fields ≡ Some row → Spelt items lines (codes "SAFE") fields row
  unfolding safe_of
  safe_is fields row told =
      let p = bind_some (λ (p : ℕ × List (List ℕ)). alone p.1 (rows.Fix (Safe p.0))) (place_of items fields) row told in
      let e = alone_is p.0.1 (rows.Fix (Safe p.0.0)) row p.2 in
      let one = place_field items fields p.0 p.1 in
      spelt_as items lines (codes "SAFE") fields (rows.Fix (Safe p.0.0)) row e.1
      (record { is = below_test p.0.0 items one.0; word_is = refl; fields_are = one.1 ∙ ap (λ (gs : List (List ℕ)). decimal p.0.0 ∷ gs) e.0 })

  bound_is : (fields : List (List ℕ)) (row : Row) → bound_of lines fields ≡ Some row → Spelt items lines (codes "BOUND") fields row
  unfolding bound_of
  bound_is fields row told =
      let b = bind_some (λ (lam : List (ℕ × ℕ)). Some (rows.Bound lam)) (multipliers_of lines 0 fields) row told in
      let are = multipliers_are lines fields b.0 b.1 in
      spelt_as items lines (codes "BOUND") fields (rows.Bound b.0) row (some_is (rows.Bound b.0) row b.2)
      (record { is = are.0; word_is = refl; fields_are = are.1 })

  short_is : (fields : List (List ℕ)) (row : Row) → short_of lines fields ≡ Some row → Spelt items lines (codes "SHORT") fields row
  unfolding short_of
  short_is fields row told =
      let l = bind_some (λ (l : ℕ × List (List ℕ)). alone l.1 (rows.Short l.0)) (place_of lines fields) row told in
      let e = alone_is l.0.1 (rows.Short l.0.0) row l.2 in
      let one = place_field lines fields l.0 l.1 in
      spelt_as items lines (codes "SHORT") fields (rows.Short l.0.0) row e.1
      (record { is = one.0; word_is = refl; fields_are = one.1 ∙ ap (λ (gs : List (List ℕ)). decimal l.0.0 ∷ gs) e.0 })

  branch_is : (fields : List (List ℕ)) (row : Row) → branch_of items lines fields ≡ Some row → Spelt items lines (codes "BRANCH") fields row
  unfolding branch_of
  branch_is fields row told =
      let p = bind_some (λ (p : ℕ × List (List ℕ)). option_and_then (λ lam. Some (rows.Branch p.0 lam)) (multipliers_of lines 0 p.1)) (place_of items fields) row told in
      let b = bind_some (λ (lam : List (ℕ × ℕ)). Some (rows.Branch p.0.0 lam)) (multipliers_of lines 0 p.0.1) row p.2 in
      let one = place_field items fields p.0 p.1 in
      let are = multipliers_are lines p.0.1 b.0 b.1 in
      spelt_as items lines (codes "BRANCH") fields (rows.Branch p.0.0 b.0) row (some_is (rows.Branch p.0.0 b.0) row b.2)
      (record { is = (one.0, are.0); word_is = refl; fields_are = one.1 ∙ ap (λ (gs : List (List ℕ)). decimal p.0.0 ∷ gs) are.1 })

  last_is : (fields : List (List ℕ)) (row : Row) → last_of fields ≡ Some row → Spelt items lines (codes "LAST") fields row
  unfolding last_of
  last_is fields row told =
      let e = alone_is fields rows.Last row told in
      spelt_as items lines (codes "LAST") fields rows.Last row e.1 (record { is = tt; word_is = refl; fields_are = e.0 })

  -- the word that was met
  met : (word named : List ℕ) (fields : List (List ℕ)) (row : Row) → same_bytes word named ≡ true → Spelt items lines named fields row → Spelt items lines word fields row
  met word named fields row told spelt = subst (λ (w : List ℕ). Spelt items lines w fields row) (sym (same_then word named told)) spelt

  tree_row_is : (word : List ℕ) (fields : List (List ℕ)) (row : Row) → tree_row_of items lines word fields ≡ Some row → Spelt items lines word fields row
  unfolding tree_row_of
  tree_row_is word fields row told =
      elim (either (same_bytes word (codes "BOUND")) _ _ (Some row) told) [
        | inl h ↦ met word (codes "BOUND") fields row h.0 (bound_is fields row h.1)
        | inr a ↦ elim (either (same_bytes word (codes "BRANCH")) _ _ (Some row) a.1) [
          | inl h ↦ met word (codes "BRANCH") fields row h.0 (branch_is fields row h.1)
          | inr b ↦ elim (either (same_bytes word (codes "BARRED")) _ _ (Some row) b.1) [
            | inl h ↦ met word (codes "BARRED") fields row h.0 (barred_is fields row h.1)
            | inr c ↦ elim (either (same_bytes word (codes "NEEDED")) _ _ (Some row) c.1) [
              | inl h ↦ met word (codes "NEEDED") fields row h.0 (needed_is fields row h.1)
              | inr d ↦ elim (either (same_bytes word (codes "SAFE")) _ _ (Some row) d.1) [
                | inl h ↦ met word (codes "SAFE") fields row h.0 (safe_is fields row h.1)
                | inr e ↦ let h = if_some (same_bytes word (codes "SHORT")) (short_of lines fields) row e.1 in
                    met word (codes "SHORT") fields row h.0 (short_is fields row h.1)
              ]
            ]
          ]
        ]
      ]

  other_row_is : (word : List ℕ) (fields : List (List ℕ)) (row : Row) → other_row_of items lines word fields ≡ Some row → Spelt items lines word fields row
  unfolding other_row_of
  other_row_is word fields row told =
      elim (either (same_bytes word (codes "PART")) _ _ (Some row) told) [
        | inl h ↦ met word (codes "PART") fields row h.0 (part_is fields row h.1)
        | inr a ↦ elim (either (same_bytes word (codes "ITEM")) _ _ (Some row) a.1) [
          | inl h ↦ met word (codes "ITEM") fields row h.0 (item_is fields row h.1)
          | inr b ↦ elim (either (same_bytes word (codes "LINE")) _ _ (Some row) b.1) [
            | inl h ↦ met word (codes "LINE") fields row h.0 (line_is fields row h.1)
            | inr c ↦ elim (either (same_bytes word (codes "SET")) _ _ (Some row) c.1) [
              | inl h ↦ met word (codes "SET") fields row h.0 (set_is fields row h.1)
              | inr d ↦ elim (either (same_bytes word (codes "LAST")) _ _ (Some row) d.1) [
                | inl h ↦ met word (codes "LAST") fields row h.0 (last_is fields row h.1)
                | inr e ↦ elim (either (same_bytes word (codes "BLOCK")) _ _ (Some row) e.1) [
                  | inl h ↦ met word (codes "BLOCK") fields row h.0 (block_is fields row h.1)
                  | inr f ↦ let h = if_some (same_bytes word (codes "BUDGET")) (budget_of fields) row f.1 in
                      met word (codes "BUDGET") fields row h.0 (budget_is fields row h.1)
                ]
              ]
            ]
          ]
        ]
      ]

  pub with_is : (word : List ℕ) (fields : List (List ℕ)) (row : Row) → row_with items lines (word ∷ fields) ≡ Some row → Spelt items lines word fields row
  with_is word fields row told =
      elim (either (is_tree_word word) (tree_row_of items lines word fields) (other_row_of items lines word fields) (Some row) told) [
        | inl h ↦ tree_row_is word fields row h.1
        | inr h ↦ other_row_is word fields row h.1
      ]

-- ---- the other way

module _ (items lines : ℕ) (few_items : items ≤ 2 ^ 32) (few_lines : lines ≤ 2 ^ 32) where
  pub with_again : (row : Row) → IsRow items lines row → row_with items lines (word_of row ∷ fields_of row) ≡ Some row
  unfolding is_tree_word tree_row_of other_row_of block_of budget_of line_of item_of set_of part_of barred_of needed_of safe_of bound_of short_of branch_of last_of
  with_again (rows.Block true) is = refl
  with_again (rows.Block false) is = refl
  with_again (rows.Budget b) is = ap (option_and_then (λ (b : ℕ × List (List ℕ)). alone b.1 (rows.Budget b.0))) (number_again 4096 b [] (omega arith) is)
  with_again (rows.Line line) is =
      ap (option_and_then (λ (a : List ℕ × List (List ℕ)). option_and_then (λ s. option_and_then (λ b. alone b.1 (rows.Line (record { account = a.0; asset = s.0; balance = b.0 }))) (number_of (10 ^ 18) s.1)) (name_of a.1)))
      (name_again line.account (line.asset ∷ decimal line.balance ∷ []) is.0)
      ∙ ap (option_and_then (λ (s : List ℕ × List (List ℕ)). option_and_then (λ b. alone b.1 (rows.Line (record { account = line.account; asset = s.0; balance = b.0 }))) (number_of (10 ^ 18) s.1)))
      (name_again line.asset (decimal line.balance ∷ []) is.1)
      ∙ ap (option_and_then (λ (b : ℕ × List (List ℕ)). alone b.1 (rows.Line (record { account = line.account; asset = line.asset; balance = b.0 })))) (number_again (10 ^ 18) line.balance [] (omega arith) is.2)
  with_again (rows.Item id value effects) is =
      ap (option_and_then (λ (i : List ℕ × List (List ℕ)). option_and_then (λ v. cond (nat_le 1 v.0) (option_and_then (λ es. cond (nat_le (length es) 32) (Some (rows.Item i.0 v.0 es)) None) (effects_of lines 0 v.1)) None) (number_of (128 * 10 ^ 15) i.1)))
      (name_again id (decimal value ∷ map effect_field effects) is.0)
      ∙ ap (option_and_then (λ (v : ℕ × List (List ℕ)). cond (nat_le 1 v.0) (option_and_then (λ es. cond (nat_le (length es) 32) (Some (rows.Item id v.0 es)) None) (effects_of lines 0 v.1)) None))
      (number_again (128 * 10 ^ 15) value (map effect_field effects) (omega arith) is.2)
      ∙ if_true (nat_le 1 value) (option_and_then (λ es. cond (nat_le (length es) 32) (Some (rows.Item id value es)) None) (effects_of lines 0 (map effect_field effects))) None (le_test 1 value is.1)
      ∙ ap (option_and_then (λ (es : List Effect). cond (nat_le (length es) 32) (Some (rows.Item id value es)) None)) (effects_again lines effects few_lines is.3)
      ∙ if_true (nat_le (length effects) 32) (Some (rows.Item id value effects)) None (le_test (length effects) 32 is.3.size)
  with_again (rows.Set places) is = ap (option_and_then (λ (ps : List ℕ). Some (rows.Set ps))) (places_again items places few_items is)
  with_again (rows.Part bound members) is =
      let has : 1 ≤ length members = omega (arith, is.1) in
      ap (option_and_then (λ (b : ℕ × List (List ℕ)). option_and_then (λ ps. cond (nat_le 1 (length ps)) (Some (rows.Part b.0 ps)) None) (places_of items 0 b.1))) (number_again (16384 * 10 ^ 15) bound (map decimal members) (omega arith) is.0)
      ∙ ap (option_and_then (λ (ps : List ℕ). cond (nat_le 1 (length ps)) (Some (rows.Part bound ps)) None)) (places_again items members few_items is.2)
      ∙ if_true (nat_le 1 (length members)) (Some (rows.Part bound members)) None (le_test 1 (length members) has)
  with_again (rows.Fix (Barred place line)) is =
      let tests = and_parts (nat_lt place items) (nat_lt line lines) is in
      ap (option_and_then (λ (p : ℕ × List (List ℕ)). option_and_then (λ l. alone l.1 (rows.Fix (Barred p.0 l.0))) (place_of lines p.1))) (place_again items place (decimal line ∷ []) few_items (test_below place items tests.0))
      ∙ ap (option_and_then (λ (l : ℕ × List (List ℕ)). alone l.1 (rows.Fix (Barred place l.0)))) (place_again lines line [] few_lines (test_below line lines tests.1))
  with_again (rows.Fix (Needed place line)) is =
      let tests = and_parts (nat_lt place items) (nat_lt line lines) is in
      ap (option_and_then (λ (p : ℕ × List (List ℕ)). option_and_then (λ l. alone l.1 (rows.Fix (Needed p.0 l.0))) (place_of lines p.1))) (place_again items place (decimal line ∷ []) few_items (test_below place items tests.0))
      ∙ ap (option_and_then (λ (l : ℕ × List (List ℕ)). alone l.1 (rows.Fix (Needed place l.0)))) (place_again lines line [] few_lines (test_below line lines tests.1))
  with_again (rows.Fix (Safe place)) is = ap (option_and_then (λ (p : ℕ × List (List ℕ)). alone p.1 (rows.Fix (Safe p.0)))) (place_again items place [] few_items (test_below place items is))
  with_again (rows.Bound lam) is = ap (option_and_then (λ (lam : List (ℕ × ℕ)). Some (rows.Bound lam))) (multipliers_again lines lam few_lines is)
  with_again (rows.Short line) is = ap (option_and_then (λ (l : ℕ × List (List ℕ)). alone l.1 (rows.Short l.0))) (place_again lines line [] few_lines is)
  with_again (rows.Branch place lam) is =
      ap (option_and_then (λ (p : ℕ × List (List ℕ)). option_and_then (λ lam. Some (rows.Branch p.0 lam)) (multipliers_of lines 0 p.1))) (place_again items place (map multiplier_field lam) few_items is.0)
      ∙ ap (option_and_then (λ (lam : List (ℕ × ℕ)). Some (rows.Branch place lam))) (multipliers_again lines lam few_lines is.1)
  with_again rows.Last is = refl
