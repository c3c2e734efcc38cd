use Rattle.std.proofs.Common.{◌≡◌, ℕ, ◌+◌, Bool, true, false, cond, not, List, [], ◌∷◌, ◌++◌, map, Option, Some, None, is_some, refl, sym, ap, ◌∙◌, true≢false}
use Rattle.std.specs.List.{AllByRecursion, count_by}
use Rattle.std.specs.Option.{option_map}
use Rattle.std.specs.Map.{lookup, keys_of, values_of, remove_entry}
use Rattle.std.proofs.lemmas.List.Sums.{sum_by-cons}
use Rattle.dali_base.specs.Readers.{same_bytes}
use Rattle.dali_queue.specs.declared.entries.Entry.{Entry}
use Rattle.dali_queue.specs.Queue.{Queued, id_of, find, is_queued, item_of, without}
use Rattle.dali_queue.specs.Groups.{in_group, group_of}
use Rattle.dali_queue.specs.EntryList.{queued_of, IsStored}

abbrev pub Stored : List (List ℕ × Entry) → Type 0
Stored es = AllByRecursion IsStored es

-- the keys are the ids
pub keys_are_ids : (es : List (List ℕ × Entry)) → Stored es → keys_of es ≡ map id_of (map queued_of es)
keys_are_ids [] kept = refl
keys_are_ids (e ∷ es) kept = ap (λ k. k ∷ keys_of es) kept.0.0 ∙ ap (λ ks. e.1.item.id ∷ ks) (keys_are_ids es kept.1)

-- what is found under an id
pub found_queued : (es : List (List ℕ × Entry)) (id : List ℕ) → Stored es → option_map (λ (e : Entry). record { item = e.item; group = e.group }) (lookup (same_bytes id) es) ≡ find (map queued_of es) id
found_queued [] id kept = refl
found_queued (e ∷ es) id kept =
    ap (λ k. option_map (λ (f : Entry). record { item = f.item; group = f.group }) (cond (same_bytes id k) (Some e.1) (lookup (same_bytes id) es))) kept.0.0
    ∙ by (same_bytes id e.1.item.id) (found_queued es id kept.1)
  where
    by : (b : Bool) → option_map (λ (f : Entry). record { item = f.item; group = f.group }) (lookup (same_bytes id) es) ≡ find (map queued_of es) id →
        option_map (λ (f : Entry). record { item = f.item; group = f.group }) (cond b (Some e.1) (lookup (same_bytes id) es)) ≡ cond b (Some (queued_of e)) (find (map queued_of es) id)
    by true rest = refl
    by false rest = rest

map_map : {A B C : Type 0} (f : A → B) (g : B → C) (o : Option A) → option_map (λ x. g (f x)) o ≡ option_map g (option_map f o)
map_map f g None = refl
map_map f g (Some x) = refl

pub found_group : (es : List (List ℕ × Entry)) (id : List ℕ) → Stored es → option_map (λ (e : Entry). e.group) (lookup (same_bytes id) es) ≡ group_of (map queued_of es) id
found_group es id kept = map_map (λ (e : Entry). record { item = e.item; group = e.group }) (λ (w : Queued). w.group) (lookup (same_bytes id) es)
    ∙ ap (option_map (λ (w : Queued). w.group)) (found_queued es id kept)

pub found_item : (es : List (List ℕ × Entry)) (id : List ℕ) → Stored es → option_map (λ (e : Entry). e.item) (lookup (same_bytes id) es) ≡ item_of (map queued_of es) id
found_item es id kept = map_map (λ (e : Entry). record { item = e.item; group = e.group }) (λ (w : Queued). w.item) (lookup (same_bytes id) es)
    ∙ ap (option_map (λ (w : Queued). w.item)) (found_queued es id kept)

pub count_queued : (group : List ℕ) (es : List (List ℕ × Entry)) → count_by (λ (e : Entry). same_bytes group e.group) (values_of es) ≡ count_by (in_group group) (map queued_of es)
count_queued group [] = refl
count_queued group (e ∷ es) = sum_by-cons (λ (f : Entry). cond (same_bytes group f.group) 1 0) e.1 (values_of es)
    ∙ ap (λ n. cond (same_bytes group e.1.group) 1 0 + n) (count_queued group es)
    ∙ sym (sum_by-cons (λ w. cond (in_group group w) 1 0) (queued_of e) (map queued_of es))

-- one more entry
pub stored_push : (es : List (List ℕ × Entry)) (id : List ℕ) (e : Entry) → Stored es → id ≡ e.item.id → e.leaving ≡ false → Stored (es ++ (id, e) ∷ [])
stored_push [] id e kept own stays = ((own, stays), tt)
stored_push (x ∷ es) id e kept own stays = (kept.0, stored_push es id e kept.1 own stays)

pub queued_push : (es : List (List ℕ × Entry)) (x : List ℕ × Entry) → map queued_of (es ++ x ∷ []) ≡ map queued_of es ++ queued_of x ∷ []
queued_push [] x = refl
queued_push (e ∷ es) x = ap (λ ws. queued_of e ∷ ws) (queued_push es x)

-- without one entry
pub stored_removed : (test : List ℕ → Bool) (es : List (List ℕ × Entry)) → Stored es → Stored (remove_entry test es)
stored_removed test [] kept = tt
stored_removed test (e ∷ es) kept = by (test e.0) (stored_removed test es kept.1)
  where
    by : (b : Bool) → Stored (remove_entry test es) → Stored (cond b es (e ∷ remove_entry test es))
    by true rest = kept.1
    by false rest = (kept.0, rest)

-- no entry has the id
without_absent : (es : List (List ℕ × Entry)) (id : List ℕ) → Stored es → lookup (same_bytes id) es ≡ None → map queued_of es ≡ without (map queued_of es) id
without_absent [] id kept none = refl
without_absent (e ∷ es) id kept none = by (same_bytes id e.0) refl (without_absent es id kept.1)
  where
    by : (b : Bool) → same_bytes id e.0 ≡ b → (lookup (same_bytes id) es ≡ None → map queued_of es ≡ without (map queued_of es) id) → map queued_of (e ∷ es) ≡ without (map queued_of (e ∷ es)) id
    by true told rest = absurd (cc (none, ap (λ t. cond t (Some e.1) (lookup (same_bytes id) es)) told))
    by false told rest =
        let later : lookup (same_bytes id) es ≡ None = sym (ap (λ t. cond t (Some e.1) (lookup (same_bytes id) es)) told) ∙ none in
        let apart : same_bytes id e.1.item.id ≡ false = ap (same_bytes id) (sym kept.0.0) ∙ told in
        ap (λ ws. queued_of e ∷ ws) (rest later) ∙ ap (λ b. cond (not b) (queued_of e ∷ without (map queued_of es) id) (without (map queued_of es) id)) (sym apart)

-- without the first entry that has the id, where no other has it
pub queued_removed : (es : List (List ℕ × Entry)) (id : List ℕ) → Stored es → lookup (same_bytes id) (remove_entry (same_bytes id) es) ≡ None → map queued_of (remove_entry (same_bytes id) es) ≡ without (map queued_of es) id
queued_removed [] id kept none = refl
queued_removed (e ∷ es) id kept none = by (same_bytes id e.0) refl (queued_removed es id kept.1)
  where
    by : (b : Bool) → same_bytes id e.0 ≡ b → (lookup (same_bytes id) (remove_entry (same_bytes id) es) ≡ None → map queued_of (remove_entry (same_bytes id) es) ≡ without (map queued_of es) id) →
        map queued_of (cond b es (e ∷ remove_entry (same_bytes id) es)) ≡ without (map queued_of (e ∷ es)) id
    by true told rest =
        let later : lookup (same_bytes id) es ≡ None = sym (ap (λ t. lookup (same_bytes id) (cond t es (e ∷ remove_entry (same_bytes id) es))) told) ∙ none in
        let own : same_bytes id e.1.item.id ≡ true = ap (same_bytes id) (sym kept.0.0) ∙ told in
        without_absent es id kept.1 later ∙ ap (λ b. cond (not b) (queued_of e ∷ without (map queued_of es) id) (without (map queued_of es) id)) (sym own)
    by false told rest =
        let later : lookup (same_bytes id) (remove_entry (same_bytes id) es) ≡ None =
        sym (ap (λ t. lookup (same_bytes id) (cond t es (e ∷ remove_entry (same_bytes id) es))) told ∙ ap (λ t. cond t (Some e.1) (lookup (same_bytes id) (remove_entry (same_bytes id) es))) told) ∙ none in
        let apart : same_bytes id e.1.item.id ≡ false = ap (same_bytes id) (sym kept.0.0) ∙ told in
        ap (λ ws. queued_of e ∷ ws) (rest later) ∙ ap (λ b. cond (not b) (queued_of e ∷ without (map queued_of es) id) (without (map queued_of es) id)) (sym apart)

some_kept : {A B : Type 0} (f : A → B) (o : Option A) → is_some (option_map f o) ≡ is_some o
some_kept f None = refl
some_kept f (Some x) = refl

none_there : {A : Type 0} (o : Option A) → is_some o ≡ false → o ≡ None
none_there None e = refl
none_there (Some x) e = absurd (true≢false e)

-- something stands under an id exactly where it is queued
pub there_is : (es : List (List ℕ × Entry)) (id : List ℕ) → Stored es → is_some (lookup (same_bytes id) es) ≡ is_queued (map queued_of es) id
there_is es id kept = sym (some_kept (λ (e : Entry). record { item = e.item; group = e.group }) (lookup (same_bytes id) es)) ∙ ap is_some (found_queued es id kept)

-- nothing stands under an id that isn't queued
pub absent : (es : List (List ℕ × Entry)) (id : List ℕ) → Stored es → is_queued (map queued_of es) id ≡ false → lookup (same_bytes id) es ≡ None
absent es id kept none = none_there (lookup (same_bytes id) es) (there_is es id kept ∙ none)
