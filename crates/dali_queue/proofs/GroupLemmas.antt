use Rattle.std.proofs.Common.{◌≡◌, ℕ, ◌+◌, Bool, true, false, cond, ◌||◌, ◌&&◌, Option, Some, None, List, [], ◌∷◌, ◌++◌, is_some, refl, sym, ap, ◌∙◌, subst, arith, true≢false}
use Rattle.std.specs.Prelude.{IsTrue}
use Rattle.std.specs.List.{list_any, count_by}
use Rattle.std.specs.Option.{option_map, option_map_or}
use Rattle.std.proofs.lemmas.List.Sums.{sum_by_push}
use Rattle.std.proofs.lemmas.List.Elements.{recursion_from_All}
use Rattle.dali_base.specs.Readers.{same_bytes}
use Rattle.dali_account.proofs.SumLemmas.{same_name_is, same_name_refl, same_name_symm}
use Rattle.dali_queue.specs.declared.instruction.Instruction.{Instruction}
use Rattle.dali_queue.specs.Queue.{Queued, QueueRecord, find, is_queued, is_used, entered}
use Rattle.dali_queue.specs.Groups.{in_group, group_of, same_group, group_size, with_group, regrouped, EntersAlone, in_either, MakesOne}
use Rattle.dali_queue.specs.Limits.{IsQueue}
use Rattle.dali_queue.proofs.QueueLemmas.{bit, count_cons, count_none, used_apart, group_used, new_not_queued}

-- What entering and linking do to the groups.

-- one more at the end is found exactly under its own id
find_push : (ws : List Queued) (w : Queued) (id : List ℕ) → same_bytes id w.item.id ≡ false → find (ws ++ w ∷ []) id ≡ find ws id
find_push [] w id apart = ap (λ b. cond b (Some w) None) apart
find_push (v ∷ ws) w id apart = ap (λ o. cond (same_bytes id v.item.id) (Some v) o) (find_push ws w id apart)

find_last : (ws : List Queued) (w : Queued) (id : List ℕ) → is_queued ws id ≡ false → same_bytes id w.item.id ≡ true → find (ws ++ w ∷ []) id ≡ Some w
find_last [] w id none same = ap (λ b. cond b (Some w) None) same
find_last (v ∷ ws) w id none same = by (same_bytes id v.item.id) none (λ rest. find_last ws w id rest same)
  where
    by : (b : Bool) → is_some (cond b (Some v) (find ws id)) ≡ false → (is_queued ws id ≡ false → find (ws ++ w ∷ []) id ≡ Some w) →
        cond b (Some v) (find (ws ++ w ∷ []) id) ≡ Some w
    by true none later = absurd (true≢false none)
    by false none later = later none

group_size_of : (ws : List Queued) (id g : List ℕ) → group_of ws id ≡ Some g → group_size ws id ≡ count_by (in_group g) ws
group_size_of ws id g is = ap (λ o. option_map_or (λ h. count_by (in_group h) ws) o 0) is

same_group_of : (ws : List Queued) (one other g : List ℕ) → group_of ws one ≡ Some g → same_group ws one other ≡ option_map_or (same_bytes g) (group_of ws other) false
same_group_of ws one other g is = ap (λ o. option_map_or (λ h. option_map_or (same_bytes h) (group_of ws other) false) o false) is

pub enters_alone : (q : QueueRecord) (i : Instruction) → IsQueue q → is_used q i.id ≡ false →
    EntersAlone q.waiting (q.waiting ++ record { item = i; group = i.id } ∷ []) i.id
enters_alone q i kept new = record {
  size = (let pushed = sum_by_push (λ v. cond (in_group i.id v) 1 0) q.waiting w in
      let none = count_none q.used i.id q.waiting new (recursion_from_All (λ (v : Queued). IsTrue (is_used q v.group)) q.waiting kept.groups_used) in
      let one : bit (same_bytes i.id i.id) ≡ 1 = ap bit (same_name_refl i.id) in
      let size = group_size_of more i.id i.id own in
      omega (arith, pushed, none, one, size));
  alone = (λ other apart. same_group_of more i.id other i.id own ∙ ap (λ o. option_map_or (same_bytes i.id) o false) (still other apart) ∙ none_with other (group_of q.waiting other) refl);
  others = (λ one other apart_one apart.
      ap (λ o. option_map_or (λ h. option_map_or (same_bytes h) (group_of more other) false) o false) (still one apart_one)
      ∙ ap (λ o. option_map_or (λ h. option_map_or (same_bytes h) o false) (group_of q.waiting one) false) (still other apart));
}
  where
    w : Queued
    w = record { item = i; group = i.id }

    more : List Queued
    more = q.waiting ++ w ∷ []

    own : group_of more i.id ≡ Some i.id
    own = ap (option_map (λ (v : Queued). v.group)) (find_last q.waiting w i.id (new_not_queued q i.id kept new) (same_name_refl i.id))

    still : (id : List ℕ) → same_bytes id i.id ≡ false → group_of more id ≡ group_of q.waiting id
    still id apart = ap (option_map (λ (v : Queued). v.group)) (find_push q.waiting w id apart)

    none_with : (id : List ℕ) (o : Option (List ℕ)) → group_of q.waiting id ≡ o → option_map_or (same_bytes i.id) o false ≡ false
    none_with id None there = refl
    none_with id (Some g) there = used_apart q.used i.id g new
        (group_used q.used q.waiting id g (recursion_from_All (λ (v : Queued). IsTrue (is_used q v.group)) q.waiting kept.groups_used) there)

-- the group after one group was put into another
module _ (from to : List ℕ) where
  abbrev then : List ℕ → List ℕ
  then g = cond (same_bytes from g) to g

  group_regrouped : (ws : List Queued) (id : List ℕ) → group_of (regrouped ws from to) id ≡ option_map then (group_of ws id)
  group_regrouped [] id = refl
  group_regrouped (w ∷ ws) id = by (same_bytes from w.group) refl (group_regrouped ws id)
    where
      found : (b t : Bool) → same_bytes from w.group ≡ b → group_of (regrouped ws from to) id ≡ option_map then (group_of ws id) → option_map (λ (v : Queued). v.group) (cond t (Some (cond b (with_group w to) w)) (find (regrouped ws from to) id))
          ≡ option_map then (option_map (λ (v : Queued). v.group) (cond t (Some w) (find ws id)))
      found true true told rest = ap (λ b. Some (cond b to w.group)) (sym told)
      found false true told rest = ap (λ b. Some (cond b to w.group)) (sym told)
      found b false told rest = rest

      by : (b : Bool) → same_bytes from w.group ≡ b → group_of (regrouped ws from to) id ≡ option_map then (group_of ws id) → option_map (λ (v : Queued). v.group)
          (cond (same_bytes id (cond b (with_group w to) w).item.id) (Some (cond b (with_group w to) w)) (find (regrouped ws from to) id))
          ≡ option_map then (option_map (λ (v : Queued). v.group) (cond (same_bytes id w.item.id) (Some w) (find ws id)))
      by true told rest = found true (same_bytes id w.item.id) told rest
      by false told rest = found false (same_bytes id w.item.id) told rest

  count_both : same_bytes to from ≡ false → (ws : List Queued) → count_by (in_group to) (regrouped ws from to) ≡ count_by (in_group to) ws + count_by (in_group from) ws
  count_both apart [] = refl
  count_both apart (w ∷ ws) =
      let rest = count_both apart ws in
      let head : bit (in_group to (cond (in_group from w) (with_group w to) w)) ≡ bit (in_group to w) + bit (in_group from w) = by (same_bytes from w.group) refl in
      omega (arith, count_cons to (cond (in_group from w) (with_group w to) w) (regrouped ws from to), count_cons to w ws, count_cons from w ws, head, rest)
    where
      by : (b : Bool) → same_bytes from w.group ≡ b → bit (in_group to (cond b (with_group w to) w)) ≡ bit (in_group to w) + bit b
      by true told =
          let now : bit (same_bytes to to) ≡ 1 = ap bit (same_name_refl to) in
          let was : bit (same_bytes to w.group) ≡ 0 = ap bit (ap (same_bytes to) (sym (same_name_is from w.group told)) ∙ apart) in
          omega (arith, now, was)
      by false told = omega arith

  or_true : (b : Bool) → (b || true) ≡ true
  or_true true = refl
  or_true false = refl

  -- two names after that, by what they were
  names_then : (a b : List ℕ) → same_bytes (then a) (then b)
      ≡ (same_bytes a b || ((same_bytes to a || same_bytes from a) && (same_bytes to b || same_bytes from b)))
  names_then a b = by (same_bytes from a) (same_bytes from b) refl refl
    where
      ends : (x s t : Bool) → (x || ((s || true) && (t || true))) ≡ true
      ends true s t = refl
      ends false true true = refl
      ends false true false = refl
      ends false false true = refl
      ends false false false = refl

      left : (s t : Bool) → t ≡ (false || ((s || true) && (t || false)))
      left true true = refl
      left true false = refl
      left false true = refl
      left false false = refl

      right : (s t : Bool) → s ≡ (false || ((s || false) && (t || true)))
      right true true = refl
      right true false = refl
      right false true = refl
      right false false = refl

      neither : (x s t : Bool) → (s ≡ true → t ≡ true → x ≡ true) → x ≡ (x || ((s || false) && (t || false)))
      neither true s t both = refl
      neither false true true both = both refl refl
      neither false true false both = refl
      neither false false t both = refl

      by : (x y : Bool) → same_bytes from a ≡ x → same_bytes from b ≡ y →
          same_bytes (cond x to a) (cond y to b) ≡ (same_bytes a b || ((same_bytes to a || x) && (same_bytes to b || y)))
      by true true one other = same_name_refl to ∙ sym (ends (same_bytes a b) (same_bytes to a) (same_bytes to b))
      by true false one other = left (same_bytes to a) (same_bytes to b)
          ∙ ap (λ x. x || ((same_bytes to a || true) && (same_bytes to b || false))) (sym (ap (λ n. same_bytes n b) (sym (same_name_is from a one)) ∙ other))
      by false true one other = same_name_symm a to ∙ right (same_bytes to a) (same_bytes to b)
          ∙ ap (λ x. x || ((same_bytes to a || false) && (same_bytes to b || true))) (sym (ap (same_bytes a) (sym (same_name_is from b other)) ∙ same_name_symm a from ∙ one))
      by false false one other = neither (same_bytes a b) (same_bytes to a) (same_bytes to b)
          (λ s t. ap (λ n. same_bytes n b) (sym (same_name_is to a s)) ∙ t)

  abbrev joins : Option (List ℕ) → Bool
  joins o = option_map_or (same_bytes to) o false || option_map_or (same_bytes from) o false

  pairs_then : (one other : Option (List ℕ)) →
      option_map_or (λ g. option_map_or (same_bytes g) (option_map then other) false) (option_map then one) false
      ≡ (option_map_or (λ g. option_map_or (same_bytes g) other false) one false || (joins one && joins other))
  pairs_then None other = refl
  pairs_then (Some a) None = and_none (same_bytes to a || same_bytes from a)
    where
      and_none : (b : Bool) → false ≡ (false || (b && (false || false)))
      and_none true = refl
      and_none false = refl
  pairs_then (Some a) (Some b) = names_then a b

pub makes_one : (ws : List Queued) (first second to from : List ℕ) → group_of ws first ≡ Some to → group_of ws second ≡ Some from →
    same_group ws first second ≡ false → MakesOne ws (regrouped ws from to) first second
makes_one ws first second to from one other apart =
    let news = regrouped ws from to in
    let names_apart : same_bytes to from ≡ false =
    sym (same_group_of ws first second to one ∙ ap (λ o. option_map_or (same_bytes to) o false) other) ∙ apart in
    let first_in : group_of news first ≡ Some to = group_regrouped from to ws first ∙ ap (option_map (then from to)) one ∙ ap Some (same_then (same_bytes from to)) in
    let second_in : group_of news second ≡ Some to = group_regrouped from to ws second ∙ ap (option_map (then from to)) other ∙ ap (λ b. Some (cond b to from)) (same_name_refl from) in
    let either_is : (id : List ℕ) → in_either ws first second id ≡ joins from to (group_of ws id) = λ id.
    ap (λ b. b || same_group ws second id) (same_group_of ws first id to one)
    ∙ ap (λ b. option_map_or (same_bytes to) (group_of ws id) false || b) (same_group_of ws second id from other) in
    record {
      size = group_size_of news first to first_in ∙ count_both from to names_apart ws
          ∙ sym (ap (λ n. n + group_size ws second) (group_size_of ws first to one) ∙ ap (λ n. count_by (in_group to) ws + n) (group_size_of ws second from other));
      together = same_group_of news first second to first_in ∙ ap (λ o. option_map_or (same_bytes to) o false) second_in ∙ same_name_refl to;
      pairs = (λ a b.
          ap (λ o. option_map_or (λ g. option_map_or (same_bytes g) (group_of news b) false) o false) (group_regrouped from to ws a)
          ∙ ap (λ o. option_map_or (λ g. option_map_or (same_bytes g) o false) (option_map (then from to) (group_of ws a)) false) (group_regrouped from to ws b)
          ∙ pairs_then from to (group_of ws a) (group_of ws b)
          ∙ ap (λ x. same_group ws a b || (x && joins from to (group_of ws b))) (sym (either_is a))
          ∙ ap (λ x. same_group ws a b || (in_either ws first second a && x)) (sym (either_is b)));
    }
  where
    same_then : (b : Bool) → cond b to to ≡ to
    same_then true = refl
    same_then false = refl
