use Rattle.std.proofs.Common.{◌≡◌, ℕ, zero, suc, ◌+◌, ◌<◌, Bool, true, false, cond, not, ◌||◌, List, [], ◌∷◌, ◌++◌, length, map, take, drop, Some, None, refl, sym, ap, ◌∙◌, subst, arith, true≢false}
use Rattle.std.specs.Prelude.{nat_eq, slice_get}
use Rattle.std.specs.List.{AllByRecursion, IsDistinct, list_any, filter}
use Rattle.std.specs.Map.{lookup, set_value, keys_of, values_of}
use Rattle.std.proofs.lemmas.Map.Keys.{IsDistinct-head, IsDistinct-tail}
use Rattle.std.proofs.lemmas.Bool.Decides.{nat_tests}
use Rattle.std.proofs.lemmas.List.Folds.{list_any-append}
use Rattle.indexmap.specs.Layout.{set_value_at}
use Rattle.dali_base.specs.Readers.{same_bytes}
use Rattle.dali_account.proofs.SumLemmas.{same_name_is}
use Rattle.dali_queue.specs.declared.entries.Entry.{Entry}
use Rattle.dali_queue.specs.Queue.{others, with_rank, ranked}
use Rattle.dali_queue.specs.Groups.{with_group, regrouped}
use Rattle.dali_queue.specs.EntryList.{queued_of, IsStored, marked, regrouped_entry}
use Rattle.dali_queue.proofs.EntryLemmas.{Stored}

abbrev pub ranked_entry : Entry → ℕ → Entry
ranked_entry e rank = record e { item = record e.item { rank = rank } }

-- no entry has the id
ranked_none : (es : List (List ℕ × Entry)) (id : List ℕ) (rank : ℕ) → Stored es → AllByRecursion (λ k. same_bytes id k ≡ false) (keys_of es) → map queued_of es ≡ ranked (map queued_of es) id rank
ranked_none [] id rank kept none = refl
ranked_none (e ∷ es) id rank kept none =
    let apart : same_bytes id e.1.item.id ≡ false = ap (same_bytes id) (sym kept.0.0) ∙ none.0 in
    ap (λ ws. queued_of e ∷ ws) (ranked_none es id rank kept.1 none.1)
    ∙ ap (λ b. cond b (with_rank (queued_of e) rank) (queued_of e) ∷ ranked (map queued_of es) id rank) (sym apart)

pub ranked_absent : (es : List (List ℕ × Entry)) (id : List ℕ) (rank : ℕ) → Stored es → lookup (same_bytes id) es ≡ None → map queued_of es ≡ ranked (map queued_of es) id rank
ranked_absent [] id rank kept none = refl
ranked_absent (e ∷ es) id rank kept none = by (same_bytes id e.0) refl (ranked_absent es id rank kept.1)
  where
    by : (b : Bool) → same_bytes id e.0 ≡ b → (lookup (same_bytes id) es ≡ None → map queued_of es ≡ ranked (map queued_of es) id rank) → map queued_of (e ∷ es) ≡ ranked (map queued_of (e ∷ es)) id rank
    by true told rest = absurd (cc (none, ap (λ t. cond t (Some e.1) (lookup (same_bytes id) es)) told))
    by false told rest =
        let later : lookup (same_bytes id) es ≡ None = sym (ap (λ t. cond t (Some e.1) (lookup (same_bytes id) es)) told) ∙ none in
        let apart : same_bytes id e.1.item.id ≡ false = ap (same_bytes id) (sym kept.0.0) ∙ told in
        ap (λ ws. queued_of e ∷ ws) (rest later) ∙ ap (λ b. cond b (with_rank (queued_of e) rank) (queued_of e) ∷ ranked (map queued_of es) id rank) (sym apart)

-- a new rank for the entry under the id
pub ranked_set : (es : List (List ℕ × Entry)) (id : List ℕ) (rank : ℕ) (e : Entry) → Stored es → IsDistinct same_bytes (keys_of es) → lookup (same_bytes id) es ≡ Some e →
    map queued_of (set_value (same_bytes id) es (ranked_entry e rank)) ≡ ranked (map queued_of es) id rank
ranked_set [] id rank e kept distinct found = refl
ranked_set (x ∷ es) id rank e kept distinct found = by (same_bytes id x.0) refl (ranked_set es id rank e kept.1 (IsDistinct-tail same_bytes x.0 (keys_of es) distinct))
  where
    by : (b : Bool) → same_bytes id x.0 ≡ b → (lookup (same_bytes id) es ≡ Some e → map queued_of (set_value (same_bytes id) es (ranked_entry e rank)) ≡ ranked (map queued_of es) id rank) →
        map queued_of (cond b ((x.0, ranked_entry e rank) ∷ es) (x ∷ set_value (same_bytes id) es (ranked_entry e rank))) ≡ ranked (map queued_of (x ∷ es)) id rank
    by true told rest =
        let first : Some x.1 ≡ Some e = sym (ap (λ t. cond t (Some x.1) (lookup (same_bytes id) es)) told) ∙ found in
        let is : x.1 ≡ e = cc in
        let own : same_bytes id x.1.item.id ≡ true = ap (same_bytes id) (sym kept.0.0) ∙ told in
        let key : x.0 ≡ id = sym (same_name_is id x.0 told) in
        let none = subst (λ k. AllByRecursion (λ q. same_bytes k q ≡ false) (keys_of es)) key (IsDistinct-head same_bytes x.0 (keys_of es) distinct) in
        ap (λ (f : Entry). queued_of (id, ranked_entry f rank) ∷ map queued_of es) (sym is)
        ∙ ap (λ ws. with_rank (queued_of x) rank ∷ ws) (ranked_none es id rank kept.1 none)
        ∙ ap (λ b. cond b (with_rank (queued_of x) rank) (queued_of x) ∷ ranked (map queued_of es) id rank) (sym own)
    by false told rest =
        let later : lookup (same_bytes id) es ≡ Some e = sym (ap (λ t. cond t (Some x.1) (lookup (same_bytes id) es)) told) ∙ found in
        let apart : same_bytes id x.1.item.id ≡ false = ap (same_bytes id) (sym kept.0.0) ∙ told in
        ap (λ ws. queued_of x ∷ ws) (rest later) ∙ ap (λ b. cond b (with_rank (queued_of x) rank) (queued_of x) ∷ ranked (map queued_of es) id rank) (sym apart)

pub stored_set : (es : List (List ℕ × Entry)) (id : List ℕ) (rank : ℕ) (e : Entry) → Stored es → lookup (same_bytes id) es ≡ Some e → Stored (set_value (same_bytes id) es (ranked_entry e rank))
stored_set [] id rank e kept found = tt
stored_set (x ∷ es) id rank e kept found = by (same_bytes id x.0) refl (stored_set es id rank e kept.1)
  where
    by : (b : Bool) → same_bytes id x.0 ≡ b → (lookup (same_bytes id) es ≡ Some e → Stored (set_value (same_bytes id) es (ranked_entry e rank))) → Stored (cond b ((x.0, ranked_entry e rank) ∷ es) (x ∷ set_value (same_bytes id) es (ranked_entry e rank)))
    by true told rest =
        let first : Some x.1 ≡ Some e = sym (ap (λ t. cond t (Some x.1) (lookup (same_bytes id) es)) told) ∙ found in
        let is : x.1 ≡ e = cc in
        ((kept.0.0 ∙ ap (λ (f : Entry). f.item.id) is, sym (ap (λ (f : Entry). f.leaving) is) ∙ kept.0.1), kept.1)
    by false told rest = (kept.0, rest (sym (ap (λ t. cond t (Some x.1) (lookup (same_bytes id) es)) told) ∙ found))

-- entries of one group put into another
pub stored_regrouped : (from to : List ℕ) (es : List (List ℕ × Entry)) → Stored es → Stored (map (regrouped_entry from to) es)
stored_regrouped from to [] kept = tt
stored_regrouped from to (e ∷ es) kept = (by (same_bytes from e.1.group), stored_regrouped from to es kept.1)
  where
    by : (b : Bool) → IsStored (e.0, cond b (record e.1 { group = to }) e.1)
    by true = kept.0
    by false = kept.0

pub queued_regrouped : (from to : List ℕ) (es : List (List ℕ × Entry)) → map queued_of (map (regrouped_entry from to) es) ≡ regrouped (map queued_of es) from to
queued_regrouped from to [] = refl
queued_regrouped from to (e ∷ es) = ap (λ w. w ∷ map queued_of (map (regrouped_entry from to) es)) (by (same_bytes from e.1.group)) ∙ ap (λ ws. cond (same_bytes from e.1.group) (with_group (queued_of e) to) (queued_of e) ∷ ws) (queued_regrouped from to es)
  where
    by : (b : Bool) → queued_of (e.0, cond b (record e.1 { group = to }) e.1) ≡ cond b (with_group (queued_of e) to) (queued_of e)
    by true = refl
    by false = refl

-- the entry at k is put into the other group, or stays
pub regrouped_yes : (from to : List ℕ) (es : List (List ℕ × Entry)) (k : ℕ) (v : Entry) → slice_get (values_of (map (regrouped_entry from to) (take k es) ++ drop k es)) k ≡ Some v → same_bytes from v.group ≡ true →
    set_value_at (map (regrouped_entry from to) (take k es) ++ drop k es) k (record v { group = to }) ≡ map (regrouped_entry from to) (take (suc k) es) ++ drop (suc k) es
regrouped_yes from to [] zero v at told = refl
regrouped_yes from to [] (suc k) v at told = refl
regrouped_yes from to (e ∷ es) zero v at told =
    let is : e.1 ≡ v = cc in
    ap (λ (f : Entry). (e.0, record f { group = to }) ∷ es) (sym is)
    ∙ ap (λ b. (e.0, cond b (record e.1 { group = to }) e.1) ∷ es) (sym (ap (λ (f : Entry). same_bytes from f.group) is ∙ told))
regrouped_yes from to (e ∷ es) (suc k) v at told = ap (λ rest. regrouped_entry from to e ∷ rest) (regrouped_yes from to es k v at told)

pub regrouped_no : (from to : List ℕ) (es : List (List ℕ × Entry)) (k : ℕ) (v : Entry) → slice_get (values_of (map (regrouped_entry from to) (take k es) ++ drop k es)) k ≡ Some v → same_bytes from v.group ≡ false →
    map (regrouped_entry from to) (take k es) ++ drop k es ≡ map (regrouped_entry from to) (take (suc k) es) ++ drop (suc k) es
regrouped_no from to [] zero v at told = refl
regrouped_no from to [] (suc k) v at told = refl
regrouped_no from to (e ∷ es) zero v at told =
    let is : e.1 ≡ v = cc in
    ap (λ b. (e.0, cond b (record e.1 { group = to }) e.1) ∷ es) (sym (ap (λ (f : Entry). same_bytes from f.group) is ∙ told))
regrouped_no from to (e ∷ es) (suc k) v at told = ap (λ rest. regrouped_entry from to e ∷ rest) (regrouped_no from to es k v at told)

-- no place marked
pub marked_none : (k : ℕ) (es : List (List ℕ × Entry)) → es ≡ marked [] k es
marked_none k [] = refl
marked_none k (e ∷ es) = ap (λ rest. e ∷ rest) (marked_none (k + 1) es)

pub length_marked : (places : List ℕ) (k : ℕ) (es : List (List ℕ × Entry)) → length (marked places k es) ≡ length es
length_marked places k [] = refl
length_marked places k (e ∷ es) = ap suc (length_marked places (k + 1) es)

-- one more place changes the test at that place alone
other_place : (places : List ℕ) (k p : ℕ) → nat_eq k p ≡ false → list_any (nat_eq k) (places ++ p ∷ []) ≡ list_any (nat_eq k) places
other_place places k p apart = list_any-append (nat_eq k) places (p ∷ []) ∙ ap (λ t. list_any (nat_eq k) places || (t || false)) apart ∙ or_false (list_any (nat_eq k) places)
  where
    or_false : (b : Bool) → (b || false) ≡ b
    or_false true = refl
    or_false false = refl

own_place : (places : List ℕ) (k p : ℕ) → nat_eq k p ≡ true → list_any (nat_eq k) (places ++ p ∷ []) ≡ true
own_place places k p same = list_any-append (nat_eq k) places (p ∷ []) ∙ ap (λ t. list_any (nat_eq k) places || (t || false)) same ∙ or_true (list_any (nat_eq k) places)
  where
    or_true : (b : Bool) → (b || true) ≡ true
    or_true true = refl
    or_true false = refl

marked_past : (places : List ℕ) (k p : ℕ) (es : List (List ℕ × Entry)) → p < k → marked places k es ≡ marked (places ++ p ∷ []) k es
marked_past places k p [] past = refl
marked_past places k p (e ∷ es) past =
    let apart : nat_eq k p ≡ false = grind (arith, nat_tests, past) in
    ap (λ b. (e.0, record e.1 { leaving = b || e.1.leaving }) ∷ marked places (k + 1) es) (sym (other_place places k p apart))
    ∙ ap (λ rest. (e.0, record e.1 { leaving = list_any (nat_eq k) (places ++ p ∷ []) || e.1.leaving }) ∷ rest) (marked_past places (k + 1) p es (omega (arith, past)))

-- one more place marked
pub marked_more : (places : List ℕ) (k p : ℕ) (es : List (List ℕ × Entry)) (v : Entry) → slice_get (values_of (marked places k es)) p ≡ Some v →
    set_value_at (marked places k es) p (record v { leaving = true }) ≡ marked (places ++ (k + p) ∷ []) k es
marked_more places k p [] v at = refl
marked_more places k zero (e ∷ es) v at =
    let is : record e.1 { leaving = list_any (nat_eq k) places || e.1.leaving } ≡ v = cc in
    let same : nat_eq k (k + 0) ≡ true = grind (arith, nat_tests) in
    ap (λ (f : Entry). (e.0, record f { leaving = true }) ∷ marked places (k + 1) es) (sym is)
    ∙ ap (λ b. (e.0, record e.1 { leaving = b || e.1.leaving }) ∷ marked places (k + 1) es) (sym (own_place places k (k + 0) same))
    ∙ ap (λ rest. (e.0, record e.1 { leaving = list_any (nat_eq k) (places ++ (k + 0) ∷ []) || e.1.leaving }) ∷ rest) (marked_past places (k + 1) (k + 0) es (omega arith))
marked_more places k (suc p) (e ∷ es) v at =
    let apart : nat_eq k (k + suc p) ≡ false = grind (arith, nat_tests) in
    let on : k + 1 + p ≡ k + suc p = omega arith in
    ap (λ b. (e.0, record e.1 { leaving = b || e.1.leaving }) ∷ set_value_at (marked places (k + 1) es) p (record v { leaving = true })) (sym (other_place places k (k + suc p) apart))
    ∙ ap (λ rest. (e.0, record e.1 { leaving = list_any (nat_eq k) (places ++ (k + suc p) ∷ []) || e.1.leaving }) ∷ rest)
    (marked_more places (k + 1) p es v at ∙ ap (λ q. marked (places ++ q ∷ []) (k + 1) es) on)

-- all in one pass
pub stored_removed : (places : List ℕ) (k : ℕ) (es : List (List ℕ × Entry)) → Stored es → Stored (filter (λ e. not e.1.leaving) (marked places k es))
stored_removed places k [] kept = tt
stored_removed places k (e ∷ es) kept = by (list_any (nat_eq k) places) e.1.leaving kept.0.1 (stored_removed places (k + 1) es kept.1)
  where
    by : (b l : Bool) → l ≡ false → Stored (filter (λ e. not e.1.leaving) (marked places (k + 1) es)) →
        Stored (cond (not (b || l)) ((e.0, record e.1 { leaving = b || l }) ∷ filter (λ e. not e.1.leaving) (marked places (k + 1) es)) (filter (λ e. not e.1.leaving) (marked places (k + 1) es)))
    by true l stays rest = rest
    by false true stays rest = rest
    by false false stays rest = ((kept.0.0, refl), rest)

pub queued_left : (places : List ℕ) (k : ℕ) (es : List (List ℕ × Entry)) → Stored es → map queued_of (filter (λ e. not e.1.leaving) (marked places k es)) ≡ others places k (map queued_of es)
queued_left places k [] kept = refl
queued_left places k (e ∷ es) kept = by (list_any (nat_eq k) places) e.1.leaving kept.0.1 (queued_left places (k + 1) es kept.1)
  where
    by : (b l : Bool) → l ≡ false → map queued_of (filter (λ e. not e.1.leaving) (marked places (k + 1) es)) ≡ others places (k + 1) (map queued_of es) →
        map queued_of (cond (not (b || l)) ((e.0, record e.1 { leaving = b || l }) ∷ filter (λ e. not e.1.leaving) (marked places (k + 1) es)) (filter (λ e. not e.1.leaving) (marked places (k + 1) es)))
        ≡ cond b (others places (k + 1) (map queued_of es)) (queued_of e ∷ others places (k + 1) (map queued_of es))
    by true l stays rest = rest
    by false true stays rest = absurd (true≢false stays)
    by false false stays rest = ap (λ ws. queued_of e ∷ ws) rest
