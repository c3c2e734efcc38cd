use Rattle.std.proofs.Common.{◌≡◌, ℕ, ◌+◌, ◌≤◌, Bool, true, false, cond, not, ◌&&◌, List, [], ◌∷◌, ◌++◌, length, map, None, refl, sym, ap, ◌∙◌, subst, arith, true≢false}
use Rattle.std.specs.Prelude.{filter, unwrap_or}
use Rattle.std.specs.List.{AllByRecursion, IsDistinct}
use Rattle.std.proofs.lemmas.List.{length-map, map_push, append-nil}
use Rattle.std.proofs.lemmas.List.Sums.{length-filter, count_by-le-length}
use Rattle.std.proofs.lemmas.List.Elements.{filter-append}
use Rattle.dali_base.specs.NameList.{NameList, knows, place_of, with_name}
use Rattle.dali_base.specs.Readers.{same_bytes}
use Rattle.dali_account.proofs.SumLemmas.{same_name_is, same_name_refl, same_name_symm}
use Rattle.dali_queue.specs.declared.eligible.Eligible.{Eligible}
use Rattle.dali_queue.specs.Queue.{Queued, QueueRecord}
use Rattle.dali_queue.specs.Groups.{in_group, is_eligible}
use Rattle.dali_queue.specs.CycleProblem.{may_settle, groups_at, places_from}
use Rattle.dali_queue.specs.Eligible.{with_place}
use Rattle.dali_queue.proofs.NameLemmas.{listed, listed_push, listed_distinct, listed_length, listed_knows, listed_all, with_place_kept, placed}
use Rattle.dali_queue.proofs.PlaceLists.{places_push, places_none, places_agree}

-- whether an instruction is in a group, and its group may settle
abbrev pub settles_in : (Queued → Bool) → List ℕ → Queued → Bool
settles_in may group w = may w && in_group group w

abbrev pub group_of_queued : Queued → List ℕ
group_of_queued w = w.group

-- the groups of the instructions so far that may settle
pub record Gathered (may : Queued → Bool) (ws : List Queued) (e : Eligible) : Type 0 where
  pub groups : e.groups ≡ listed (map group_of_queued (filter may ws))
  pub at : e.at ≡ places_from may 0 ws
  pub item : e.item ≡ map (λ (w : Queued). unwrap_or (place_of e.groups.names w.group) 0) (filter may ws)
  pub members : e.members.items ≡ map (λ g. places_from (settles_in may g) 0 ws) e.groups.names

-- of a filtered list with one more element
filter_yes : (may : Queued → Bool) (ws : List Queued) (w : Queued) → may w ≡ true → filter may (ws ++ w ∷ []) ≡ filter may ws ++ w ∷ []
filter_yes may ws w told = filter-append may ws (w ∷ []) ∙ ap (λ b. filter may ws ++ cond b (w ∷ []) []) told

filter_no : (may : Queued → Bool) (ws : List Queued) (w : Queued) → may w ≡ false → filter may (ws ++ w ∷ []) ≡ filter may ws
filter_no may ws w told = filter-append may ws (w ∷ []) ∙ ap (λ b. filter may ws ++ cond b (w ∷ []) []) told ∙ append-nil (filter may ws)

pub gathered_none : (may : Queued → Bool) (e : Eligible) → e.groups.names ≡ [] → e.groups.readied ≡ None → e.at ≡ [] → e.item ≡ [] → e.members.items ≡ [] → Gathered may [] e
gathered_none may e names readied at item members = record {
  groups = λ i. record { names = names i; readied = readied i };
  at = at;
  item = item;
  members = members ∙ ap (map (λ g. places_from (settles_in may g) 0 [])) (sym names);
}

module _ (may : Queued → Bool) (ws : List Queued) (w : Queued) (e f : Eligible) (g : Gathered may ws e) where
  pub gathered_no : may w ≡ false → f ≡ e → Gathered may (ws ++ w ∷ []) f
  gathered_no told same = record {
    groups = ap (λ (x : Eligible). x.groups) same ∙ g.groups ∙ ap (λ vs. listed (map group_of_queued vs)) (sym (filter_no may ws w told));
    at = ap (λ (x : Eligible). x.at) same ∙ g.at ∙ sym (append-nil (places_from may 0 ws)) ∙ ap (λ b. places_from may 0 ws ++ cond b ((0 + length ws) ∷ []) []) (sym told) ∙ sym (places_push may 0 ws w);
    item = ap (λ (x : Eligible). x.item) same ∙ g.item ∙ ap (λ (x : Eligible). map (λ (v : Queued). unwrap_or (place_of x.groups.names v.group) 0) (filter may ws)) (sym same)
        ∙ ap (map (λ (v : Queued). unwrap_or (place_of f.groups.names v.group) 0)) (sym (filter_no may ws w told));
    members = ap (λ (x : Eligible). x.members.items) same ∙ g.members ∙ each e.groups.names ∙ ap (λ (x : Eligible). map (λ h. places_from (settles_in may h) 0 (ws ++ w ∷ [])) x.groups.names) (sym same);
  }
    where
      each : (hs : List (List ℕ)) → map (λ h. places_from (settles_in may h) 0 ws) hs ≡ map (λ h. places_from (settles_in may h) 0 (ws ++ w ∷ [])) hs
      each [] = refl
      each (h ∷ hs) =
          ap (λ ps. ps ∷ map (λ k. places_from (settles_in may k) 0 ws) hs)
          (sym (append-nil (places_from (settles_in may h) 0 ws)) ∙ ap (λ b. places_from (settles_in may h) 0 ws ++ cond (b && in_group h w) ((0 + length ws) ∷ []) []) (sym told) ∙ sym (places_push (settles_in may h) 0 ws w))
          ∙ ap (λ pss. places_from (settles_in may h) 0 (ws ++ w ∷ []) ∷ pss) (each hs)

  -- no instruction so far is in a group that is new
  none_yet : (n : NameList) (vs : List Queued) → AllByRecursion (λ x. knows n.names x ≡ true) (map group_of_queued (filter may vs)) → knows n.names w.group ≡ false → AllByRecursion (λ (v : Queued). settles_in may w.group v ≡ false) vs
  none_yet n [] known new = tt
  none_yet n (v ∷ vs) known new = by (may v) refl known (λ all. none_yet n vs all new)
    where
      apart : (b : Bool) → same_bytes w.group v.group ≡ b → knows n.names v.group ≡ true → b ≡ false
      apart false e' there = refl
      apart true e' there = absurd (true≢false (sym there ∙ ap (knows n.names) (sym (same_name_is w.group v.group e')) ∙ new))

      by : (b : Bool) → may v ≡ b → AllByRecursion (λ x. knows n.names x ≡ true) (map group_of_queued (cond b (v ∷ filter may vs) (filter may vs))) →
          (AllByRecursion (λ x. knows n.names x ≡ true) (map group_of_queued (filter may vs)) → AllByRecursion (λ (u : Queued). settles_in may w.group u ≡ false) vs) →
          AllByRecursion (λ (u : Queued). settles_in may w.group u ≡ false) (v ∷ vs)
      by true told all rest = (ap (λ b. b && in_group w.group v) told ∙ apart (same_bytes w.group v.group) refl all.0, rest all.1)
      by false told all rest = (ap (λ b. b && in_group w.group v) told, rest all)

  pub gathered_yes : may w ≡ true → f.groups ≡ with_name e.groups w.group → f.at ≡ e.at ++ length ws ∷ [] →
      f.item ≡ e.item ++ unwrap_or (place_of f.groups.names w.group) 0 ∷ [] →
      f.members.items ≡ with_place e.members.items (unwrap_or (place_of f.groups.names w.group) 0) (length ws) → Gathered may (ws ++ w ∷ []) f
  gathered_yes told groups at item members = record {
    groups = groups ∙ ap (λ n. with_name n w.group) g.groups ∙ sym (listed_push (map group_of_queued (filter may ws)) w.group)
        ∙ ap listed (sym (map_push group_of_queued (filter may ws) w)) ∙ ap (λ vs. listed (map group_of_queued vs)) (sym (filter_yes may ws w told));
    at = at ∙ ap (λ ps. ps ++ length ws ∷ []) g.at ∙ ap (λ n. places_from may 0 ws ++ n ∷ []) (omega arith) ∙ ap (λ b. places_from may 0 ws ++ cond b ((0 + length ws) ∷ []) []) (sym told) ∙ sym (places_push may 0 ws w);
    item = item ∙ ap (λ ns. ns ++ unwrap_or (place_of f.groups.names w.group) 0 ∷ []) (g.item ∙ numbers (filter may ws) known)
        ∙ sym (map_push (λ (v : Queued). unwrap_or (place_of f.groups.names v.group) 0) (filter may ws) w)
        ∙ ap (map (λ (v : Queued). unwrap_or (place_of f.groups.names v.group) 0)) (sym (filter_yes may ws w told));
    members = members ∙ ap (λ pss. with_place pss (unwrap_or (place_of f.groups.names w.group) 0) (length ws)) g.members
        ∙ ap (λ (n : NameList). with_place (map (λ h. places_from (settles_in may h) 0 ws) e.groups.names) (unwrap_or (place_of n.names w.group) 0) (length ws)) groups
        ∙ placed (λ h. places_from (settles_in may h) 0 ws) (λ h. places_from (settles_in may h) 0 (ws ++ w ∷ [])) w.group (length ws) own else e.groups distinct none
        ∙ ap (λ (n : NameList). map (λ h. places_from (settles_in may h) 0 (ws ++ w ∷ [])) n.names) (sym groups);
  }
    where
      known : AllByRecursion (λ x. knows e.groups.names x ≡ true) (map group_of_queued (filter may ws))
      known = subst (λ (n : NameList). AllByRecursion (λ x. knows n.names x ≡ true) (map group_of_queued (filter may ws))) (sym g.groups) (listed_knows (map group_of_queued (filter may ws)))

      distinct : IsDistinct same_bytes e.groups.names
      distinct = subst (λ (n : NameList). IsDistinct same_bytes n.names) (sym g.groups) (listed_distinct (map group_of_queued (filter may ws)))

      numbers : (vs : List Queued) → AllByRecursion (λ x. knows e.groups.names x ≡ true) (map group_of_queued vs) →
          map (λ (v : Queued). unwrap_or (place_of e.groups.names v.group) 0) vs ≡ map (λ (v : Queued). unwrap_or (place_of f.groups.names v.group) 0) vs
      numbers [] all = refl
      numbers (v ∷ vs) all =
          ap (λ o. unwrap_or o 0 ∷ map (λ (u : Queued). unwrap_or (place_of e.groups.names u.group) 0) vs)
          (sym (with_place_kept e.groups w.group v.group all.0) ∙ ap (λ (n : NameList). place_of n.names v.group) (sym groups))
          ∙ ap (λ ns. unwrap_or (place_of f.groups.names v.group) 0 ∷ ns) (numbers vs all.1)

      own : places_from (settles_in may w.group) 0 (ws ++ w ∷ []) ≡ places_from (settles_in may w.group) 0 ws ++ length ws ∷ []
      own = places_push (settles_in may w.group) 0 ws w
          ∙ ap (λ b. places_from (settles_in may w.group) 0 ws ++ cond (b && in_group w.group w) ((0 + length ws) ∷ []) []) told
          ∙ ap (λ b. places_from (settles_in may w.group) 0 ws ++ cond b ((0 + length ws) ∷ []) []) (same_name_refl w.group)
          ∙ ap (λ n. places_from (settles_in may w.group) 0 ws ++ n ∷ []) (omega arith)

      else : (x : List ℕ) → same_bytes w.group x ≡ false → places_from (settles_in may x) 0 (ws ++ w ∷ []) ≡ places_from (settles_in may x) 0 ws
      else x apart = places_push (settles_in may x) 0 ws w
          ∙ ap (λ b. places_from (settles_in may x) 0 ws ++ cond (b && in_group x w) ((0 + length ws) ∷ []) []) told
          ∙ ap (λ b. places_from (settles_in may x) 0 ws ++ cond b ((0 + length ws) ∷ []) []) (same_name_symm x w.group ∙ apart)
          ∙ append-nil (places_from (settles_in may x) 0 ws)

      none : knows e.groups.names w.group ≡ false → places_from (settles_in may w.group) 0 ws ≡ []
      none new = places_none (settles_in may w.group) 0 ws (none_yet e.groups ws known new)

-- there are no more groups than instructions
pub gathered_few : (may : Queued → Bool) (ws : List Queued) (e : Eligible) → Gathered may ws e → length e.groups.names ≤ length ws
gathered_few may ws e g =
    let same : length e.groups.names ≡ length (listed (map group_of_queued (filter may ws))).names = ap (λ (n : NameList). length n.names) g.groups in
    let one = listed_length (map group_of_queued (filter may ws)) in
    omega (arith, same, one, length-map (filter may ws) group_of_queued, length-filter may ws, count_by-le-length may ws)

pub not_same : (a b : Bool) → not a ≡ not b → a ≡ b
not_same true true e = refl
not_same false false e = refl
not_same true false e = sym e
not_same false true e = sym e

-- at the end
module _ (q : QueueRecord) (t : ℕ) (e : Eligible) (g : Gathered (may_settle q t) q.waiting e) where
  pub names_at : e.groups.names ≡ groups_at q t
  names_at = ap (λ (n : NameList). n.names) g.groups

  eligible_all : (vs : List Queued) → AllByRecursion (λ x. is_eligible q t x ≡ true) (map group_of_queued (filter (may_settle q t) vs))
  eligible_all [] = tt
  eligible_all (v ∷ vs) = by (may_settle q t v) refl (eligible_all vs)
    where
      by : (b : Bool) → may_settle q t v ≡ b → AllByRecursion (λ x. is_eligible q t x ≡ true) (map group_of_queued (filter (may_settle q t) vs)) → AllByRecursion (λ x. is_eligible q t x ≡ true) (map group_of_queued (cond b (v ∷ filter (may_settle q t) vs) (filter (may_settle q t) vs)))
      by true told rest = (told, rest)
      by false told rest = rest

  agrees : (x : List ℕ) → is_eligible q t x ≡ true → (w : Queued) → settles_in (may_settle q t) x w ≡ in_group x w
  agrees x told w = by (in_group x w) refl
    where
      by : (b : Bool) → in_group x w ≡ b → (may_settle q t w && b) ≡ b
      by true same = ap (λ b. b && true) (ap (is_eligible q t) (sym (same_name_is x w.group same)) ∙ told)
      by false same = and_none (may_settle q t w)
        where
          and_none : (b : Bool) → (b && false) ≡ false
          and_none true = refl
          and_none false = refl

  each : (xs : List (List ℕ)) → AllByRecursion (λ x. is_eligible q t x ≡ true) xs → map (λ x. places_from (settles_in (may_settle q t) x) 0 q.waiting) xs ≡ map (λ x. places_from (in_group x) 0 q.waiting) xs
  each [] all = refl
  each (x ∷ xs) all = ap (λ ps. ps ∷ map (λ y. places_from (settles_in (may_settle q t) y) 0 q.waiting) xs) (places_agree (settles_in (may_settle q t) x) (in_group x) (agrees x all.0) 0 q.waiting)
      ∙ ap (λ pss. places_from (in_group x) 0 q.waiting ∷ pss) (each xs all.1)

  pub members_gathered : e.members.items ≡ map (λ x. places_from (in_group x) 0 q.waiting) (groups_at q t)
  members_gathered = g.members ∙ ap (map (λ x. places_from (settles_in (may_settle q t) x) 0 q.waiting)) names_at
      ∙ each (groups_at q t) (listed_all (λ x. is_eligible q t x ≡ true) (map group_of_queued (filter (may_settle q t) q.waiting)) (eligible_all q.waiting))

  pub item_gathered : e.item ≡ map (λ (w : Queued). unwrap_or (place_of (groups_at q t) w.group) 0) (filter (may_settle q t) q.waiting)
  item_gathered = g.item ∙ ap (λ names. map (λ (w : Queued). unwrap_or (place_of names w.group) 0) (filter (may_settle q t) q.waiting)) names_at
