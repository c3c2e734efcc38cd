use Rattle.std.proofs.Common.{◌≡◌, ℕ, suc, ◌+◌, ◌<◌, ◌≤◌, Bool, true, false, cond, ◌||◌, List, [], ◌∷◌, ◌++◌, length, map, Some, is_some, refl, sym, ap, ◌∙◌, subst, arith, length-append, true≢false}
use Rattle.std.specs.Prelude.{nat_eq, IsTrue}
use Rattle.std.specs.List.{All, AllByRecursion, IsDistinct, list_any, filter, count_by}
use Rattle.std.specs.Option.{option_map, option_map_or}
use Rattle.std.proofs.lemmas.List.{length-map, map-append}
use Rattle.std.proofs.lemmas.Map.Keys.{IsDistinct-push}
use Rattle.std.specs.Cmp.Lexicographic.{nat_list_eq_equiv}
use Rattle.std.proofs.lemmas.List.Sums.{sum_by-cons, sum_by_push, length-filter, count_by-le-length}
use Rattle.std.proofs.lemmas.List.Folds.{list_any-append}
use Rattle.std.proofs.lemmas.List.Elements.{All-push, All-filter, All-weaker, All-from_recursion, recursion_from_All}
use Rattle.dali_base.specs.Readers.{same_bytes}
use Rattle.dali_account.proofs.SumLemmas.{same_name_is, same_name_refl}
use Rattle.dali_queue.specs.declared.cutoffs.Cutoffs.{Cutoffs}
use Rattle.dali_queue.specs.declared.instruction.Instruction.{Instruction}
use Rattle.dali_queue.specs.Instruction.{IsInstruction}
use Rattle.dali_queue.specs.Queue.{Queued, QueueRecord, id_of, find, is_queued, is_used, entered, others, removed, with_rank, ranked}
use Rattle.dali_queue.specs.Groups.{in_group, group_of, group_size, with_group, regrouped}
use Rattle.dali_queue.specs.Limits.{IsQueue}

abbrev pub bit : Bool → ℕ
bit b = cond b 1 0

-- how many are in a group, of one more
pub count_cons : (g : List ℕ) (w : Queued) (ws : List Queued) → count_by (in_group g) (w ∷ ws) ≡ bit (in_group g w) + count_by (in_group g) ws
count_cons g w ws = sum_by-cons (λ v. cond (in_group g v) 1 0) w ws

-- an id that is used stays so
still_used : (used : List (List ℕ)) (id other : List ℕ) → list_any (same_bytes id) used ≡ true → list_any (same_bytes id) (used ++ other ∷ []) ≡ true
still_used used id other told = list_any-append (same_bytes id) used (other ∷ []) ∙ ap (λ t. t || list_any (same_bytes id) (other ∷ [])) told

now_used : (used : List (List ℕ)) (id : List ℕ) → list_any (same_bytes id) (used ++ id ∷ []) ≡ true
now_used used id = list_any-append (same_bytes id) used (id ∷ []) ∙ ap (λ t. list_any (same_bytes id) used || (t || false)) (same_name_refl id) ∙ or_true (list_any (same_bytes id) used)
  where
    or_true : (b : Bool) → (b || true) ≡ true
    or_true true = refl
    or_true false = refl

-- names that aren't used differ from those that are
pub used_apart : (used : List (List ℕ)) (id name : List ℕ) → list_any (same_bytes id) used ≡ false → list_any (same_bytes name) used ≡ true → same_bytes id name ≡ false
used_apart used id name new old = by (same_bytes id name) refl
  where
    by : (b : Bool) → same_bytes id name ≡ b → b ≡ false
    by false told = refl
    by true told = absurd (true≢false (sym old ∙ ap (λ n. list_any (same_bytes n) used) (sym (same_name_is id name told)) ∙ new))

-- no instruction is in a group whose name isn't used
pub count_none : (used : List (List ℕ)) (id : List ℕ) (ws : List Queued) → list_any (same_bytes id) used ≡ false → AllByRecursion (λ (w : Queued). IsTrue (list_any (same_bytes w.group) used)) ws → count_by (in_group id) ws ≡ 0
count_none used id [] new old = refl
count_none used id (w ∷ ws) new old =
    let rest = count_none used id ws new old.1 in
    let head : bit (in_group id w) ≡ 0 = ap bit (used_apart used id w.group new old.0) in
    omega (arith, count_cons id w ws, rest, head)

module _ (used : List (List ℕ)) (id : List ℕ) (new : list_any (same_bytes id) used ≡ false) where
  -- nor is one queued under an id that isn't used
  pub not_queued : (ws : List Queued) → AllByRecursion (λ (w : Queued). IsTrue (list_any (same_bytes w.item.id) used)) ws → is_queued ws id ≡ false
  not_queued [] old = refl
  not_queued (w ∷ ws) old = ap (λ b. is_some (cond b (Some w) (find ws id))) (used_apart used id w.item.id new old.0) ∙ not_queued ws old.1

pub new_not_queued : (q : QueueRecord) (id : List ℕ) → IsQueue q → is_used q id ≡ false → is_queued q.waiting id ≡ false
new_not_queued q id kept new = not_queued q.used id new q.waiting (recursion_from_All (λ (w : Queued). IsTrue (is_used q w.item.id)) q.waiting kept.ids_used)

-- nor among the ids
not_among : (used : List (List ℕ)) (id : List ℕ) → list_any (same_bytes id) used ≡ false → (ws : List Queued) → AllByRecursion (λ (w : Queued). IsTrue (list_any (same_bytes w.item.id) used)) ws → list_any (same_bytes id) (map id_of ws) ≡ false
not_among used id new [] old = refl
not_among used id new (w ∷ ws) old = ap (λ b. b || list_any (same_bytes id) (map id_of ws)) (used_apart used id w.item.id new old.0) ∙ not_among used id new ws old.1

distinct_none : IsDistinct same_bytes []
unfolding IsDistinct
distinct_none = tt

-- an empty queue
pub queue_none : (cutoffs : Cutoffs) → IsQueue (record { waiting = []; used = []; cutoffs = cutoffs })
queue_none cutoffs = record {
  few = omega arith;
  distinct = distinct_none;
  items = All-from_recursion (λ (w : Queued). IsInstruction w.item) [] tt;
  ids_used = All-from_recursion (λ (w : Queued). IsTrue (list_any (same_bytes w.item.id) [])) [] tt;
  groups_used = All-from_recursion (λ (w : Queued). IsTrue (list_any (same_bytes w.group) [])) [] tt;
  linked = λ g. omega arith;
}

-- one more instruction
pub queue_entered : (q : QueueRecord) (i : Instruction) → IsQueue q → IsInstruction i → length q.waiting < 1024 → is_used q i.id ≡ false → IsQueue (entered q i)
queue_entered q i kept item room new = record {
  few = omega (arith, length-append q.waiting (record { item = i; group = i.id } ∷ []), room);
  distinct = subst (IsDistinct same_bytes) (sym (map-append id_of q.waiting (record { item = i; group = i.id } ∷ [])))
      (IsDistinct-push nat_list_eq_equiv (map id_of q.waiting) i.id kept.distinct
      (not_among q.used i.id new q.waiting (recursion_from_All (λ (w : Queued). IsTrue (is_used q w.item.id)) q.waiting kept.ids_used)));
  items = All-push (λ (w : Queued). IsInstruction w.item) q.waiting _ kept.items item;
  ids_used = All-push (λ (w : Queued). IsTrue (list_any (same_bytes w.item.id) (q.used ++ i.id ∷ []))) q.waiting _
      (All-weaker (λ (w : Queued). IsTrue (list_any (same_bytes w.item.id) q.used)) (λ (w : Queued). IsTrue (list_any (same_bytes w.item.id) (q.used ++ i.id ∷ []))) (λ w told. still_used q.used w.item.id i.id told) q.waiting kept.ids_used)
      (now_used q.used i.id);
  groups_used = All-push (λ (w : Queued). IsTrue (list_any (same_bytes w.group) (q.used ++ i.id ∷ []))) q.waiting _
      (All-weaker (λ (w : Queued). IsTrue (list_any (same_bytes w.group) q.used)) (λ (w : Queued). IsTrue (list_any (same_bytes w.group) (q.used ++ i.id ∷ []))) (λ w told. still_used q.used w.group i.id told) q.waiting kept.groups_used)
      (now_used q.used i.id);
  linked = λ g.
      let pushed : count_by (in_group g) (q.waiting ++ record { item = i; group = i.id } ∷ []) ≡ count_by (in_group g) q.waiting + cond (same_bytes g i.id) 1 0 =
      sum_by_push (λ w. cond (in_group g w) 1 0) q.waiting (record { item = i; group = i.id }) in
      let fits : count_by (in_group g) q.waiting + cond (same_bytes g i.id) 1 0 ≤ 8 = by g (same_bytes g i.id) refl in
      omega (arith, pushed, fits);
}
  where
    by : (g : List ℕ) (b : Bool) → same_bytes g i.id ≡ b → count_by (in_group g) q.waiting + cond b 1 0 ≤ 8
    by g true told =
        let none : count_by (in_group i.id) q.waiting ≡ 0 = count_none q.used i.id q.waiting new (recursion_from_All (λ (w : Queued). IsTrue (is_used q w.group)) q.waiting kept.groups_used) in
        let own : count_by (in_group g) q.waiting ≡ 0 = ap (λ h. count_by (in_group h) q.waiting) (same_name_is g i.id told) ∙ none in
        omega (arith, own)
    by g false told = let before = kept.linked g in omega (arith, before)

-- fewer instructions
count_filter : (t : Queued → Bool) (g : List ℕ) (ws : List Queued) → count_by (in_group g) (filter t ws) ≤ count_by (in_group g) ws
count_filter t g [] = omega arith
count_filter t g (w ∷ ws) = by (t w) (count_filter t g ws)
  where
    by : (b : Bool) → count_by (in_group g) (filter t ws) ≤ count_by (in_group g) ws → count_by (in_group g) (cond b (w ∷ filter t ws) (filter t ws)) ≤ count_by (in_group g) (w ∷ ws)
    by true rest = omega (arith, count_cons g w (filter t ws), count_cons g w ws, rest)
    by false rest = omega (arith, count_cons g w ws, rest)

-- ids that differ still do
apart_filter : (t : Queued → Bool) (id : List ℕ) (ws : List Queued) → AllByRecursion (λ k. same_bytes id k ≡ false) (map id_of ws) → AllByRecursion (λ k. same_bytes id k ≡ false) (map id_of (filter t ws))
apart_filter t id [] apart = tt
apart_filter t id (w ∷ ws) apart = by (t w) (apart_filter t id ws apart.1)
  where
    by : (b : Bool) → AllByRecursion (λ k. same_bytes id k ≡ false) (map id_of (filter t ws)) → AllByRecursion (λ k. same_bytes id k ≡ false) (map id_of (cond b (w ∷ filter t ws) (filter t ws)))
    by true rest = (apart.0, rest)
    by false rest = rest

distinct_filter : (t : Queued → Bool) (ws : List Queued) → IsDistinct same_bytes (map id_of ws) → IsDistinct same_bytes (map id_of (filter t ws))
unfolding IsDistinct
distinct_filter t [] distinct = tt
distinct_filter t (w ∷ ws) distinct = by (t w) (distinct_filter t ws distinct.1)
  where
    by : (b : Bool) → IsDistinct same_bytes (map id_of (filter t ws)) → IsDistinct same_bytes (map id_of (cond b (w ∷ filter t ws) (filter t ws)))
    by true rest = (apart_filter t w.item.id ws distinct.0, rest)
    by false rest = rest

pub queue_filtered : (q : QueueRecord) (t : Queued → Bool) → IsQueue q → IsQueue (record q { waiting = filter t q.waiting })
queue_filtered q t kept = record {
  few = let before = kept.few in omega (arith, length-filter t q.waiting, count_by-le-length t q.waiting, before);
  distinct = distinct_filter t q.waiting kept.distinct;
  items = All-filter t (λ (w : Queued). IsInstruction w.item) q.waiting kept.items;
  ids_used = All-filter t (λ (w : Queued). IsTrue (is_used q w.item.id)) q.waiting kept.ids_used;
  groups_used = All-filter t (λ (w : Queued). IsTrue (is_used q w.group)) q.waiting kept.groups_used;
  linked = λ g. let before = kept.linked g in let fewer = count_filter t g q.waiting in omega (arith, before, fewer);
}

length_others : (places : List ℕ) (k : ℕ) (ws : List Queued) → length (others places k ws) ≤ length ws
length_others places k [] = omega arith
length_others places k (w ∷ ws) = by (list_any (nat_eq k) places) (length_others places (k + 1) ws)
  where
    by : (b : Bool) → length (others places (k + 1) ws) ≤ length ws → length (cond b (others places (k + 1) ws) (w ∷ others places (k + 1) ws)) ≤ suc (length ws)
    by true rest = omega (arith, rest)
    by false rest = omega (arith, rest)

count_others : (places : List ℕ) (k : ℕ) (g : List ℕ) (ws : List Queued) → count_by (in_group g) (others places k ws) ≤ count_by (in_group g) ws
count_others places k g [] = omega arith
count_others places k g (w ∷ ws) = by (list_any (nat_eq k) places) (count_others places (k + 1) g ws)
  where
    by : (b : Bool) → count_by (in_group g) (others places (k + 1) ws) ≤ count_by (in_group g) ws → count_by (in_group g) (cond b (others places (k + 1) ws) (w ∷ others places (k + 1) ws)) ≤ count_by (in_group g) (w ∷ ws)
    by true rest = omega (arith, count_cons g w ws, rest)
    by false rest = omega (arith, count_cons g w (others places (k + 1) ws), count_cons g w ws, rest)

all_others : (P : Queued → Type 0) (places : List ℕ) (k : ℕ) (ws : List Queued) → AllByRecursion P ws → AllByRecursion P (others places k ws)
all_others P places k [] all = tt
all_others P places k (w ∷ ws) all = by (list_any (nat_eq k) places) (all_others P places (k + 1) ws all.1)
  where
    by : (b : Bool) → AllByRecursion P (others places (k + 1) ws) → AllByRecursion P (cond b (others places (k + 1) ws) (w ∷ others places (k + 1) ws))
    by true rest = rest
    by false rest = (all.0, rest)

All-others : (P : Queued → Type 0) (places : List ℕ) (ws : List Queued) → All P ws → All P (others places 0 ws)
All-others P places ws all = All-from_recursion P (others places 0 ws) (all_others P places 0 ws (recursion_from_All P ws all))

apart_others : (places : List ℕ) (k : ℕ) (id : List ℕ) (ws : List Queued) → AllByRecursion (λ n. same_bytes id n ≡ false) (map id_of ws) → AllByRecursion (λ n. same_bytes id n ≡ false) (map id_of (others places k ws))
apart_others places k id [] apart = tt
apart_others places k id (w ∷ ws) apart = by (list_any (nat_eq k) places) (apart_others places (k + 1) id ws apart.1)
  where
    by : (b : Bool) → AllByRecursion (λ n. same_bytes id n ≡ false) (map id_of (others places (k + 1) ws)) → AllByRecursion (λ n. same_bytes id n ≡ false) (map id_of (cond b (others places (k + 1) ws) (w ∷ others places (k + 1) ws)))
    by true rest = rest
    by false rest = (apart.0, rest)

distinct_others : (places : List ℕ) (k : ℕ) (ws : List Queued) → IsDistinct same_bytes (map id_of ws) → IsDistinct same_bytes (map id_of (others places k ws))
unfolding IsDistinct
distinct_others places k [] distinct = tt
distinct_others places k (w ∷ ws) distinct = by (list_any (nat_eq k) places) (distinct_others places (k + 1) ws distinct.1)
  where
    by : (b : Bool) → IsDistinct same_bytes (map id_of (others places (k + 1) ws)) → IsDistinct same_bytes (map id_of (cond b (others places (k + 1) ws) (w ∷ others places (k + 1) ws)))
    by true rest = rest
    by false rest = (apart_others places (k + 1) w.item.id ws distinct.0, rest)

pub queue_removed : (q : QueueRecord) (places : List ℕ) → IsQueue q → IsQueue (record q { waiting = removed q.waiting places })
queue_removed q places kept = record {
  few = let before = kept.few in let fewer = length_others places 0 q.waiting in omega (arith, before, fewer);
  distinct = distinct_others places 0 q.waiting kept.distinct;
  items = All-others (λ (w : Queued). IsInstruction w.item) places q.waiting kept.items;
  ids_used = All-others (λ (w : Queued). IsTrue (is_used q w.item.id)) places q.waiting kept.ids_used;
  groups_used = All-others (λ (w : Queued). IsTrue (is_used q w.group)) places q.waiting kept.groups_used;
  linked = λ g. let before = kept.linked g in let fewer = count_others places 0 g q.waiting in omega (arith, before, fewer);
}

-- another rank
module _ (id : List ℕ) (rank : ℕ) where
  reranked : Queued → Queued
  reranked w = cond (same_bytes id w.item.id) (with_rank w rank) w

  count_ranked : (g : List ℕ) (ws : List Queued) → count_by (in_group g) (ranked ws id rank) ≡ count_by (in_group g) ws
  count_ranked g [] = refl
  count_ranked g (w ∷ ws) = count_cons g (cond (same_bytes id w.item.id) (with_rank w rank) w) (ranked ws id rank)
      ∙ ap (λ b. bit b + count_by (in_group g) (ranked ws id rank)) (by (same_bytes id w.item.id))
      ∙ ap (λ n. bit (in_group g w) + n) (count_ranked g ws) ∙ sym (count_cons g w ws)
    where
      by : (b : Bool) → in_group g (cond b (with_rank w rank) w) ≡ in_group g w
      by true = refl
      by false = refl

  ids_ranked : (ws : List Queued) → map id_of ws ≡ map id_of (ranked ws id rank)
  ids_ranked [] = refl
  ids_ranked (w ∷ ws) = ap (λ i. i ∷ map id_of ws) (by (same_bytes id w.item.id)) ∙ ap (λ is. id_of (cond (same_bytes id w.item.id) (with_rank w rank) w) ∷ is) (ids_ranked ws)
    where
      by : (b : Bool) → w.item.id ≡ id_of (cond b (with_rank w rank) w)
      by true = refl
      by false = refl

  all_ranked : (P : Queued → Type 0) → ((w : Queued) → P w → P (with_rank w rank)) → (ws : List Queued) → AllByRecursion P ws → AllByRecursion P (ranked ws id rank)
  all_ranked P too [] all = tt
  all_ranked P too (w ∷ ws) all = (by (same_bytes id w.item.id), all_ranked P too ws all.1)
    where
      by : (b : Bool) → P (cond b (with_rank w rank) w)
      by true = too w all.0
      by false = all.0

  All-ranked : (P : Queued → Type 0) → ((w : Queued) → P w → P (with_rank w rank)) → (ws : List Queued) → All P ws → All P (ranked ws id rank)
  All-ranked P too ws all = All-from_recursion P (ranked ws id rank) (all_ranked P too ws (recursion_from_All P ws all))

  pub queue_ranked : (q : QueueRecord) → IsQueue q → 1 ≤ rank → rank ≤ 16 → IsQueue (record q { waiting = ranked q.waiting id rank })
  queue_ranked q kept low high = record {
    few = let before = kept.few in omega (arith, length-map q.waiting (λ (w : Queued). cond (same_bytes id w.item.id) (with_rank w rank) w), before);
    distinct = subst (IsDistinct same_bytes) (ids_ranked q.waiting) kept.distinct;
    items = All-ranked (λ (w : Queued). IsInstruction w.item) (λ w h. record { parties = h.parties; code = h.code; quantity = h.quantity; cash = h.cash; value = h.value; rank_low = low; rank_high = high }) q.waiting kept.items;
    ids_used = All-ranked (λ (w : Queued). IsTrue (is_used q w.item.id)) (λ w h. h) q.waiting kept.ids_used;
    groups_used = All-ranked (λ (w : Queued). IsTrue (is_used q w.group)) (λ w h. h) q.waiting kept.groups_used;
    linked = λ g. let before = kept.linked g in omega (arith, count_ranked g q.waiting, before);
  }

-- two groups made one
module _ (from to : List ℕ) where
  count_own : (ws : List Queued) → count_by (in_group to) (regrouped ws from to) ≤ count_by (in_group to) ws + count_by (in_group from) ws
  count_own [] = omega arith
  count_own (w ∷ ws) =
      let rest = count_own ws in
      let head : bit (in_group to (cond (in_group from w) (with_group w to) w)) ≤ bit (in_group to w) + bit (in_group from w) = by (in_group from w) in
      omega (arith, count_cons to (cond (in_group from w) (with_group w to) w) (regrouped ws from to), count_cons to w ws, count_cons from w ws, head, rest)
    where
      one_at_most : (b : Bool) → bit b ≤ 1
      one_at_most true = omega arith
      one_at_most false = omega arith

      by : (b : Bool) → bit (in_group to (cond b (with_group w to) w)) ≤ bit (in_group to w) + bit b
      by true = let one = one_at_most (in_group to (with_group w to)) in omega (arith, one)
      by false = omega arith

  count_else : (g : List ℕ) → same_bytes g to ≡ false → (ws : List Queued) → count_by (in_group g) (regrouped ws from to) ≤ count_by (in_group g) ws
  count_else g apart [] = omega arith
  count_else g apart (w ∷ ws) =
      let rest = count_else g apart ws in
      let head : bit (in_group g (cond (in_group from w) (with_group w to) w)) ≤ bit (in_group g w) = by (in_group from w) in
      omega (arith, count_cons g (cond (in_group from w) (with_group w to) w) (regrouped ws from to), count_cons g w ws, head, rest)
    where
      by : (b : Bool) → bit (in_group g (cond b (with_group w to) w)) ≤ bit (in_group g w)
      by true = let none : bit (same_bytes g to) ≡ 0 = ap bit apart in omega (arith, none)
      by false = omega arith

  ids_regrouped : (ws : List Queued) → map id_of ws ≡ map id_of (regrouped ws from to)
  ids_regrouped [] = refl
  ids_regrouped (w ∷ ws) = ap (λ i. i ∷ map id_of ws) (by (in_group from w)) ∙ ap (λ is. id_of (cond (in_group from w) (with_group w to) w) ∷ is) (ids_regrouped ws)
    where
      by : (b : Bool) → w.item.id ≡ id_of (cond b (with_group w to) w)
      by true = refl
      by false = refl

  all_regrouped : (P : Queued → Type 0) → ((w : Queued) → P w → P (with_group w to)) → (ws : List Queued) → AllByRecursion P ws → AllByRecursion P (regrouped ws from to)
  all_regrouped P too [] all = tt
  all_regrouped P too (w ∷ ws) all = (by (in_group from w), all_regrouped P too ws all.1)
    where
      by : (b : Bool) → P (cond b (with_group w to) w)
      by true = too w all.0
      by false = all.0

  All-regrouped : (P : Queued → Type 0) → ((w : Queued) → P w → P (with_group w to)) → (ws : List Queued) → All P ws → All P (regrouped ws from to)
  All-regrouped P too ws all = All-from_recursion P (regrouped ws from to) (all_regrouped P too ws (recursion_from_All P ws all))

  pub queue_regrouped : (q : QueueRecord) → IsQueue q → IsTrue (is_used q to) → count_by (in_group to) q.waiting + count_by (in_group from) q.waiting ≤ 8 → IsQueue (record q { waiting = regrouped q.waiting from to })
  queue_regrouped q kept known fits = record {
    few = let before = kept.few in omega (arith, length-map q.waiting (λ (w : Queued). cond (in_group from w) (with_group w to) w), before);
    distinct = subst (IsDistinct same_bytes) (ids_regrouped q.waiting) kept.distinct;
    items = All-regrouped (λ (w : Queued). IsInstruction w.item) (λ w h. h) q.waiting kept.items;
    ids_used = All-regrouped (λ (w : Queued). IsTrue (is_used q w.item.id)) (λ w h. h) q.waiting kept.ids_used;
    groups_used = All-regrouped (λ (w : Queued). IsTrue (is_used q w.group)) (λ w h. known) q.waiting kept.groups_used;
    linked = λ g. by g (same_bytes g to) refl;
  }
    where
      by : (g : List ℕ) (b : Bool) → same_bytes g to ≡ b → count_by (in_group g) (regrouped q.waiting from to) ≤ 8
      by g true told =
          let own = count_own q.waiting in
          let is : count_by (in_group g) (regrouped q.waiting from to) ≡ count_by (in_group to) (regrouped q.waiting from to) = ap (λ h. count_by (in_group h) (regrouped q.waiting from to)) (same_name_is g to told) in
          omega (arith, own, is, fits)
      by g false told = let fewer = count_else g told q.waiting in let before = kept.linked g in omega (arith, fewer, before)

-- the group of a queued instruction is used
pub group_used : (used : List (List ℕ)) (ws : List Queued) (id g : List ℕ) → AllByRecursion (λ (w : Queued). IsTrue (list_any (same_bytes w.group) used)) ws → group_of ws id ≡ Some g → IsTrue (list_any (same_bytes g) used)
group_used used [] id g all there = absurd (cc)
group_used used (w ∷ ws) id g all there = by (same_bytes id w.item.id) refl (group_used used ws id g all.1)
  where
    by : (b : Bool) → same_bytes id w.item.id ≡ b → (group_of ws id ≡ Some g → IsTrue (list_any (same_bytes g) used)) → IsTrue (list_any (same_bytes g) used)
    by true told rest =
        let first : Some w.group ≡ Some g = sym (ap (λ b. option_map (λ (v : Queued). v.group) (cond b (Some w) (find ws id))) told) ∙ there in
        let is : w.group ≡ g = cc in
        subst (λ n. IsTrue (list_any (same_bytes n) used)) is all.0
    by false told rest = rest (sym (ap (λ b. option_map (λ (v : Queued). v.group) (cond b (Some w) (find ws id))) told) ∙ there)

pub queue_linked : (q : QueueRecord) (first second to from : List ℕ) → IsQueue q → group_of q.waiting first ≡ Some to → group_of q.waiting second ≡ Some from →
    group_size q.waiting first + group_size q.waiting second ≤ 8 → IsQueue (record q { waiting = regrouped q.waiting from to })
queue_linked q first second to from kept one other fits =
    let sizes : (id g : List ℕ) → group_of q.waiting id ≡ Some g → group_size q.waiting id ≡ count_by (in_group g) q.waiting = λ id g is. ap (λ o. option_map_or (λ h. count_by (in_group h) q.waiting) o 0) is in
    let a = sizes first to one in
    let b = sizes second from other in
    queue_regrouped from to q kept
    (group_used q.used q.waiting first to (recursion_from_All (λ (w : Queued). IsTrue (is_used q w.group)) q.waiting kept.groups_used) one)
    (omega (arith, a, b, fits))
