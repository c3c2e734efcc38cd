use Rattle.std.proofs.Common.{◌≡◌, ◌≢◌, ◌⊎◌, inl, inr, ℕ, zero, suc, ◌+◌, ◌*◌, ◌^◌, ◌<◌, ◌≤◌, Bool, true, false, cond, ◌||◌, List, [], ◌∷◌, ◌++◌, length, map, take, get_or, refl, sym, ap, ◌∙◌, subst, arith, Option, Some, None}
use Rattle.std.specs.Prelude.{flat_map, set, sum_by, slice_get, Result, Ok, Err, OnOk}
use Rattle.std.specs.Option.{option_map, option_map_or}
use Rattle.std.specs.Map.{values_of}
use Rattle.std.specs.FinMap as finite
use Rattle.std.specs.List.{All, IsDistinct, list_any}
use Rattle.std.specs.List.Sorted.{IsStrictlySortedBy, IsSorted}
use Rattle.std.specs.Ordering.{nat_cmp, ordering_then}
use Rattle.std.specs.Cmp.Lexicographic.{slice_cmp}
use Rattle.std.specs.declared.cmp.Ordering.{Ordering}
use Rattle.std.specs.declared.cmp.Ordering.TheVariants.{Less, Equal, Greater}
use Rattle.std.proofs.lemmas.Cmp.{eq_by_cmp_equiv}
use Rattle.std.proofs.lemmas.List.{length-map, length-take-le, take-map, take_more, map_more, get_or-map, get_or-take, append-nil}
use Rattle.std.proofs.lemmas.List.Elements.{All-get_or, All-from_get_or}
use Rattle.std.proofs.lemmas.List.Folds.{list_any-append}
use Rattle.std.proofs.lemmas.List.Sums.{sum_by_more_le, sum_by-append, sum_by-cons}
use Rattle.std.proofs.lemmas.Grind.{flat_map-append}
use Rattle.std.proofs.lemmas.Map.Keys.{Less-from_sorted}
use Rattle.dali_account.specs.declared.net.Move.{Move}
use Rattle.dali_account.specs.Book.{BookRecord}
use Rattle.dali_account.specs.Net.{pair_of}
use Rattle.dali_account.specs.Units.{PairKey, pair_cmp}
use Rattle.dali_account.proofs.UnitsLemmas.{pair_total, pair_ties}
use Rattle.dali_problem.specs.declared.row.LineRow.{LineRow}
use Rattle.dali_problem.specs.Clearing.{Item, Clearing, no_line}
use Rattle.dali_problem.specs.Limits.{IsBefore, IsItem}
use Rattle.dali_queue.specs.declared.draft.Draft.{Draft}
use Rattle.dali_queue.specs.declared.entries.Entry.{Entry}
use Rattle.dali_queue.specs.Queue.{Queued}
use Rattle.dali_queue.specs.Instruction.{weight}
use Rattle.dali_queue.specs.EntryList.{queued_of}
use Rattle.dali_queue.specs.NetOf.{in_order, items_at}
use Rattle.dali_queue.specs.CycleProblem.{line_row, changed_by}
use Rattle.dali_queue.specs.Drafts.{same_pair, drafted_pairs, drafted, item_of_draft, AreItems}
use Rattle.dali_queue.specs.Eligible.{with_place, waiting_of}
use Rattle.dali_queue.proofs.LineLemmas.{same_rising, rising_keys, tested_alike}
use Rattle.dali_queue.proofs.PlaceLists.{items_append}
use Rattle.dali_queue.proofs.PairOrder.{in_order_same, in_order_rises}

-- a place written into the lists
pub placed_there : (pss : List (List ℕ)) (k place : ℕ) (d : List ℕ) → k < length pss → set pss k (get_or pss k d ++ place ∷ []) ≡ with_place pss k place
placed_there [] k place d within = absurd (omega (arith, within))
placed_there (ps ∷ pss) zero place d within = refl
placed_there (ps ∷ pss) (suc k) place d within = ap (λ qss. ps ∷ qss) (placed_there pss k place d (omega (arith, within)))

pub placed_last : (pss : List (List ℕ)) (k place : ℕ) (d : List ℕ) → k ≡ length pss → set (pss ++ [] ∷ []) k (get_or (pss ++ [] ∷ []) k d ++ place ∷ []) ≡ with_place pss k place
placed_last [] zero place d is = refl
placed_last [] (suc k) place d is = absurd (omega (arith, is))
placed_last (ps ∷ pss) zero place d is = absurd (omega (arith, is))
placed_last (ps ∷ pss) (suc k) place d is = ap (λ qss. ps ∷ qss) (placed_last pss k place d (omega (arith, is)))

-- the pairs of one more move
either_way : (p q : PairKey) → same_pair p q ≡ same_pair q p
either_way p q = pair_ties p q ∙ (eq_by_cmp_equiv pair_total).symm p q ∙ sym (pair_ties q p)

pub pair_more : (ms : List Move) (i : ℕ) (d : Move) → i < length ms → (start before after : Bool) (q : PairKey) → before ≡ (start || list_any (same_pair q) (map pair_of (take i ms))) →
    after ≡ cond (same_pair (pair_of (get_or ms i d)) q) true before → after ≡ (start || list_any (same_pair q) (map pair_of (take (i + 1) ms)))
pair_more ms i d within start before after q was is =
    is ∙ ap (λ b. cond b true before) (either_way (pair_of (get_or ms i d)) q)
    ∙ ap (cond (same_pair q (pair_of (get_or ms i d))) true) was
    ∙ by start (list_any (same_pair q) (map pair_of (take i ms))) (same_pair q (pair_of (get_or ms i d)))
    ∙ ap (λ b. start || b) (sym (list_any-append (same_pair q) (map pair_of (take i ms)) (pair_of (get_or ms i d) ∷ [])))
    ∙ ap (λ ps. start || list_any (same_pair q) ps) (sym (map_more pair_of ms i d within))
  where
    by : (a b c : Bool) → cond c true (a || b) ≡ (a || (b || (c || false)))
    by true b true = refl
    by true b false = refl
    by false true true = refl
    by false true false = refl
    by false false true = refl
    by false false false = refl

-- and of one more net
pub net_more : (ds : List Draft) (i : ℕ) (d : Draft) → i < length ds → (t : PairKey → Bool) →
    list_any t (flat_map (map pair_of) (map (λ (x : Draft). x.net) (take (i + 1) ds))) ≡ (list_any t (flat_map (map pair_of) (map (λ (x : Draft). x.net) (take i ds))) || list_any t (map pair_of (get_or ds i d).net))
net_more ds i d within t =
    ap (λ nets. list_any t (flat_map (map pair_of) nets)) (map_more (λ (x : Draft). x.net) ds i d within)
    ∙ ap (list_any t) (flat_map-append (map pair_of) (map (λ (x : Draft). x.net) (take i ds)) ((get_or ds i d).net ∷ []))
    ∙ list_any-append t (flat_map (map pair_of) (map (λ (x : Draft). x.net) (take i ds))) (map pair_of (get_or ds i d).net ++ [])
    ∙ ap (λ ps. list_any t (flat_map (map pair_of) (map (λ (x : Draft). x.net) (take i ds))) || list_any t ps) (append-nil (map pair_of (get_or ds i d).net))

-- keys that were sorted are the changed pairs in order
pub keys_in_order : (keys : List PairKey) (nets : List (List Move)) → IsSorted pair_cmp keys → IsDistinct same_pair keys → ((q : PairKey) → list_any (same_pair q) keys ≡ list_any (same_pair q) (flat_map (map pair_of) nets)) → keys ≡ changed_by nets
keys_in_order keys nets sorted distinct same =
    same_rising keys (in_order (flat_map (map pair_of) nets)) (rising_keys keys sorted distinct) (in_order_rises (flat_map (map pair_of) nets))
    (λ q. sym (tested_alike q keys) ∙ same q ∙ tested_alike q (flat_map (map pair_of) nets) ∙ sym (in_order_same (flat_map (map pair_of) nets) q))

-- a line comes after the one before it
before_row : (a b : List ℕ × List ℕ) → pair_cmp a b ≡ Less → (slice_cmp nat_cmp a.0 b.0 ≡ Less) ⊎ ((a.0 ≡ b.0) × (slice_cmp nat_cmp a.1 b.1 ≡ Less))
before_row a b less = by (slice_cmp nat_cmp a.0 b.0) refl less
  where
    by : (o : Ordering) → slice_cmp nat_cmp a.0 b.0 ≡ o → ordering_then o (slice_cmp nat_cmp a.1 b.1) ≡ Less → (slice_cmp nat_cmp a.0 b.0 ≡ Less) ⊎ ((a.0 ≡ b.0) × (slice_cmp nat_cmp a.1 b.1 ≡ Less))
    by Less e rest = inl e
    by Equal e rest = inr (finite.slice_cmp-IsAntisymmetric finite.nat_cmp-IsAntisymmetric a.0 b.0 e, rest)
    by Greater e rest = absurd (cc)

pub line_after : (book : BookRecord) (ps : List PairKey) (i k : ℕ) (d : PairKey) (row : LineRow) → IsStrictlySortedBy pair_cmp ps → i < length ps → k + 1 ≡ i → row.account ≡ (get_or ps i d).0 → row.asset ≡ (get_or ps i d).1 →
    IsBefore (get_or (map (line_row book) (take i ps)) k no_line) row
line_after book ps i k d row sorted within next account asset =
    let short : length (take i ps) ≡ i = length-take-le i ps (omega (arith, within)) in
    let inside : k < length (take i ps) = omega (arith, short, next) in
    let is : get_or (map (line_row book) (take i ps)) k no_line ≡ line_row book (get_or ps k d) = get_or-map (line_row book) (take i ps) k d no_line inside ∙ ap (line_row book) (get_or-take i ps k d (omega (arith, next))) in
    let less : pair_cmp (get_or ps k d) (get_or ps i d) ≡ Less = Less-from_sorted pair_cmp ps k i d sorted (omega (arith, next)) within in
    let there : pair_cmp (get_or ps k d) (row.account, row.asset) ≡ Less = ap (λ a. pair_cmp (get_or ps k d) (a, row.asset)) account ∙ ap (λ a. pair_cmp (get_or ps k d) ((get_or ps i d).0, a)) asset ∙ less in
    subst (λ (r : LineRow). IsBefore r row) (sym is) (before_row (get_or ps k d) (row.account, row.asset) there)

-- one more of what is made of a list
pub pushed_more : {X Y : Type 0} (f : X → Y) (xs : List X) (i : ℕ) (x : X) (before after : List Y) (y : Y) → i < length xs → x ≡ get_or xs i x → before ≡ map f (take i xs) → after ≡ before ++ y ∷ [] → y ≡ f x → after ≡ map f (take (i + 1) xs)
pushed_more f xs i x before after y within is so_far pushed own =
    pushed ∙ ap (λ ys. ys ++ y ∷ []) so_far ∙ ap (λ z. map f (take i xs) ++ z ∷ []) (own ∙ ap f is) ∙ sym (map_more f xs i x within)

pub lines_more : (book : BookRecord) (ps : List PairKey) (i : ℕ) (p : PairKey) (before after : Clearing) (row : LineRow) → i < length ps → p ≡ get_or ps i p → before ≡ record { lines = map (line_row book) (take i ps); items = [] } →
    after ≡ record before { lines = before.lines ++ row ∷ [] } → row ≡ line_row book p → after ≡ record { lines = map (line_row book) (take (i + 1) ps); items = [] }
lines_more book ps i p before after row within is so_far added own =
    added ∙ ap (λ (b : Clearing). record b { lines = b.lines ++ row ∷ [] }) so_far
    ∙ ap (λ (rows : List LineRow). record { lines = rows; items = [] }) (pushed_more (line_row book) ps i p (map (line_row book) (take i ps)) (map (line_row book) (take i ps) ++ row ∷ []) row within is refl refl own)

pub items_more : (f : Draft → Item) (ds : List Draft) (i : ℕ) (d : Draft) (start before after : Clearing) (item : Item) → i < length ds → d ≡ get_or ds i d → before ≡ record start { items = map f (take i ds) } →
    after ≡ record before { items = before.items ++ item ∷ [] } → item ≡ f d → after ≡ record start { items = map f (take (i + 1) ds) }
items_more f ds i d start before after item within is so_far added own =
    added ∙ ap (λ (b : Clearing). record b { items = b.items ++ item ∷ [] }) so_far
    ∙ ap (λ (items : List Item). record start { items = items }) (pushed_more f ds i d (map f (take i ds)) (map f (take i ds) ++ item ∷ []) item within is refl refl own)

pub drafted_from : (book : BookRecord) (ds : List Draft) (slice keys : List PairKey) (before after : Clearing) → slice ≡ keys → keys ≡ drafted_pairs ds → before ≡ record { lines = map (line_row book) slice; items = [] } →
    after ≡ record before { items = map (item_of_draft keys) ds } → after ≡ drafted book ds
drafted_from book ds slice keys before after same are lines items =
    items ∙ ap (λ (b : Clearing). record b { items = map (item_of_draft keys) ds }) lines
    ∙ ap (λ ps. record { lines = map (line_row book) ps; items = map (item_of_draft keys) ds }) (same ∙ are)
    ∙ ap (λ ps. record { lines = map (line_row book) (drafted_pairs ds); items = map (item_of_draft ps) ds }) are

pub listed_waiting : (es : List (List ℕ × Entry)) → waiting_of (values_of es) ≡ map queued_of es
listed_waiting [] = refl
listed_waiting (e ∷ es) = ap (λ ws. queued_of e ∷ ws) (listed_waiting es)

pub on_ok_then : {T E P Q : Type 0} (r : Result T E) → (P → Q) → OnOk r P → OnOk r Q
on_ok_then (Ok x) h p = h p
on_ok_then (Err e) h p = tt

pub put_last : (old now : List (List ℕ)) (k place : ℕ) (fresh seen pushed : List ℕ) → now ≡ old ++ fresh ∷ [] → fresh ≡ [] → k ≡ length old → seen ≡ get_or now k seen → pushed ≡ seen ++ place ∷ [] → set now k pushed ≡ with_place old k place
put_last old now k place fresh seen pushed grown none is read after =
    let now_is : now ≡ old ++ [] ∷ [] = grown ∙ ap (λ ps. old ++ ps ∷ []) none in
    ap (set now k) (after ∙ ap (λ ps. ps ++ place ∷ []) read) ∙ ap (λ (pss : List (List ℕ)). set pss k (get_or pss k seen ++ place ∷ [])) now_is ∙ placed_last old k place seen is

pub put_there : (old now : List (List ℕ)) (k place : ℕ) (seen pushed : List ℕ) → now ≡ old → k < length old → seen ≡ get_or now k seen → pushed ≡ seen ++ place ∷ [] → set now k pushed ≡ with_place old k place
put_there old now k place seen pushed same within read after =
    ap (set now k) (after ∙ ap (λ ps. ps ++ place ∷ []) read) ∙ ap (λ (pss : List (List ℕ)). set pss k (get_or pss k seen ++ place ∷ [])) same ∙ placed_there old k place seen within

-- what the instruction at one more place is counted for
pub value_more : (ws : List Queued) (ps : List ℕ) (i d : ℕ) → i < length ps →
    sum_by weight (items_at ws (take (i + 1) ps)) ≡ sum_by weight (items_at ws (take i ps)) + option_map_or weight (option_map (λ (w : Queued). w.item) (slice_get ws (get_or ps i d))) 0
value_more ws ps i d within =
    ap (λ qs. sum_by weight (items_at ws qs)) (take_more ps i d within)
    ∙ ap (sum_by weight) (items_append ws (take i ps) (get_or ps i d ∷ []))
    ∙ sum_by-append weight (items_at ws (take i ps)) (items_at ws (get_or ps i d ∷ []))
    ∙ ap (λ n. sum_by weight (items_at ws (take i ps)) + n) (by (slice_get ws (get_or ps i d)))
  where
    by : (o : Option Queued) → sum_by weight (option_map_or (λ (w : Queued). w.item ∷ []) o []) ≡ option_map_or weight (option_map (λ (w : Queued). w.item) o) 0
    by None = refl
    by (Some w) = omega (arith, sum_by-cons weight w.item [])

-- the next item fits
module _ (n : ℕ) (f : Draft → Item) (ds : List Draft) (fits : AreItems n (map f ds)) (i : ℕ) (d : Draft) (within : i < length ds) (is : d ≡ get_or ds i d) where
  inside : i < length (map f ds)
  inside = omega (arith, length-map ds f, within)

  pub next_few : length (map f (take i ds)) < 1024
  next_few =
      let few = fits.few in
      omega (arith, length-map (take i ds) f, length-take-le i ds (omega (arith, within)), length-map ds f, few, within)

  at_next : get_or (map f ds) i (f d) ≡ f d
  at_next = get_or-map f ds i d (f d) within ∙ ap f (sym is)

  pub next_item : IsItem n (f d)
  next_item = subst (IsItem n) at_next (All-get_or (IsItem n) (map f ds) i (f d) inside fits.each)

  pub next_new : All (λ (item : Item). item.id ≢ (f d).id) (map f (take i ds))
  next_new = All-from_get_or (λ (item : Item). item.id ≢ (f d).id) (map f (take i ds)) (f d) (λ k below.
      let under : k < i = omega (arith, below, length-map (take i ds) f, length-take-le i ds (omega (arith, within))) in
      let one : get_or (map f (take i ds)) k (f d) ≡ get_or (map f ds) k (f d) = ap (λ is. get_or is k (f d)) (sym (take-map f i ds)) ∙ get_or-take i (map f ds) k (f d) under in
      subst (λ (item : Item). item.id ≢ (f d).id) (sym one)
      (subst (λ (item : Item). (get_or (map f ds) k (f d)).id ≢ item.id) at_next (fits.ids k i (f d) under inside)))

  pub next_total : sum_by (λ (item : Item). item.value) (map f (take i ds)) + (f d).value ≤ 16384 * 10 ^ 15
  next_total =
      let most = sum_by_more_le (λ (item : Item). item.value) (map f ds) i (f d) inside in
      let front : sum_by (λ (item : Item). item.value) (take i (map f ds)) ≡ sum_by (λ (item : Item). item.value) (map f (take i ds)) = ap (sum_by (λ (item : Item). item.value)) (take-map f i ds) in
      let one : (get_or (map f ds) i (f d)).value ≡ (f d).value = ap (λ (item : Item). item.value) at_next in
      let bound = fits.total in
      omega (arith, most, front, one, bound)
