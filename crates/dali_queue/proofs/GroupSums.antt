use Rattle.std.proofs.Common.{◌≡◌, ℕ, ◌+◌, ◌<◌, ◌≤◌, Bool, true, false, cond, ◌||◌, List, [], ◌∷◌, length, map, Some, None, refl, sym, ap, ◌∙◌, subst, arith, true≢false}
use Rattle.std.specs.Prelude.{filter, sum_by}
use Rattle.std.specs.List.{AllByRecursion, IsDistinct, list_any, count_by}
use Rattle.std.specs.Option.{option_map}
use Rattle.std.proofs.lemmas.List.{length-map}
use Rattle.std.proofs.lemmas.List.Sums.{sum_by-cons, length-filter}
use Rattle.std.proofs.lemmas.Map.Keys.{IsDistinct-head, IsDistinct-tail}
use Rattle.dali_base.specs.Readers.{same_bytes}
use Rattle.dali_account.proofs.SumLemmas.{same_name_is, same_name_refl, same_name_symm}
use Rattle.dali_queue.specs.declared.instruction.Instruction.{Instruction}
use Rattle.dali_queue.specs.Queue.{Queued, id_of, find}
use Rattle.dali_queue.specs.Groups.{in_group, group_of}
use Rattle.dali_queue.specs.CycleProblem.{members_of, first_id}

sum_add : {X : Type 0} (f g : X → ℕ) (xs : List X) → sum_by (λ x. f x + g x) xs ≡ sum_by f xs + sum_by g xs
sum_add f g [] = omega arith
sum_add f g (x ∷ xs) = omega (arith, sum_by-cons (λ y. f y + g y) x xs, sum_by-cons f x xs, sum_by-cons g x xs, sum_add f g xs)

pub sum_same : {X : Type 0} (f g : X → ℕ) (xs : List X) → AllByRecursion (λ x. f x ≡ g x) xs → sum_by f xs ≡ sum_by g xs
sum_same f g [] all = refl
sum_same f g (x ∷ xs) all =
    let head = all.0 in
    let rest = sum_same f g xs all.1 in
    omega (arith, sum_by-cons f x xs, sum_by-cons g x xs, head, rest)

pub sum_mapped : {X Y : Type 0} (f : Y → ℕ) (h : X → Y) (xs : List X) → sum_by f (map h xs) ≡ sum_by (λ x. f (h x)) xs
sum_mapped f h [] = refl
sum_mapped f h (x ∷ xs) = omega (arith, sum_by-cons f (h x) (map h xs), sum_by-cons (λ y. f (h y)) x xs, sum_mapped f h xs)

-- of names that differ at most one is the name
module _ (name : List ℕ) (n : ℕ) where
  none_same : (gs : List (List ℕ)) → AllByRecursion (λ g. same_bytes name g ≡ false) gs → sum_by (λ g. cond (same_bytes g name) n 0) gs ≡ 0
  none_same [] apart = refl
  none_same (g ∷ gs) apart =
      let head : cond (same_bytes g name) n 0 ≡ 0 = ap (λ b. cond b n 0) (same_name_symm g name ∙ apart.0) in
      let rest = none_same gs apart.1 in
      omega (arith, sum_by-cons (λ x. cond (same_bytes x name) n 0) g gs, head, rest)

  at_most_one : (gs : List (List ℕ)) → IsDistinct same_bytes gs → sum_by (λ g. cond (same_bytes g name) n 0) gs ≤ n
  at_most_one [] distinct = omega arith
  at_most_one (g ∷ gs) distinct = by (same_bytes g name) refl (at_most_one gs (IsDistinct-tail same_bytes g gs distinct))
    where
      by : (b : Bool) → same_bytes g name ≡ b → sum_by (λ g. cond (same_bytes g name) n 0) gs ≤ n → sum_by (λ g. cond (same_bytes g name) n 0) (g ∷ gs) ≤ n
      by true e rest =
          let is : g ≡ name = same_name_is g name e in
          let apart : AllByRecursion (λ y. same_bytes name y ≡ false) gs = subst (λ m. AllByRecursion (λ y. same_bytes m y ≡ false) gs) is (IsDistinct-head same_bytes g gs distinct) in
          let none = none_same gs apart in
          let head : cond (same_bytes g name) n 0 ≡ n = ap (λ b. cond b n 0) e in
          omega (arith, sum_by-cons (λ x. cond (same_bytes x name) n 0) g gs, head, none)
      by false e rest =
          let head : cond (same_bytes g name) n 0 ≡ 0 = ap (λ b. cond b n 0) e in
          omega (arith, sum_by-cons (λ x. cond (same_bytes x name) n 0) g gs, head, rest)

-- what one more instruction adds to the sum over a group
member_added : (f : Instruction → ℕ) (g : List ℕ) (w : Queued) (ws : List Queued) → sum_by f (members_of (w ∷ ws) g) ≡ cond (same_bytes g w.group) (f w.item) 0 + sum_by f (members_of ws g)
member_added f g w ws = by (same_bytes g w.group)
  where
    by : (b : Bool) → sum_by f (map (λ (v : Queued). v.item) (cond b (w ∷ filter (in_group g) ws) (filter (in_group g) ws))) ≡ cond b (f w.item) 0 + sum_by f (members_of ws g)
    by true = sum_by-cons f w.item (members_of ws g)
    by false = omega arith

-- the sums over groups that differ are together at most the sum over the queue
pub groups_apart : (f : Instruction → ℕ) (gs : List (List ℕ)) → IsDistinct same_bytes gs → (ws : List Queued) → sum_by (λ g. sum_by f (members_of ws g)) gs ≤ sum_by (λ (w : Queued). f w.item) ws
groups_apart f gs distinct [] = let zero_sum = zeros gs in omega (arith, zero_sum)
  where
    zeros : (hs : List (List ℕ)) → sum_by (λ g. sum_by f (members_of [] g)) hs ≡ 0
    zeros [] = refl
    zeros (h ∷ hs) = omega (arith, sum_by-cons (λ g. sum_by f (members_of [] g)) h hs, zeros hs)
groups_apart f gs distinct (w ∷ ws) =
    let rest = groups_apart f gs distinct ws in
    let one = at_most_one w.group (f w.item) gs distinct in
    let split : sum_by (λ g. sum_by f (members_of (w ∷ ws) g)) gs ≡ sum_by (λ g. cond (same_bytes g w.group) (f w.item) 0 + sum_by f (members_of ws g)) gs =
    sum_same (λ g. sum_by f (members_of (w ∷ ws) g)) (λ g. cond (same_bytes g w.group) (f w.item) 0 + sum_by f (members_of ws g)) gs (each gs) in
    let parts = sum_add (λ g. cond (same_bytes g w.group) (f w.item) 0) (λ g. sum_by f (members_of ws g)) gs in
    omega (arith, sum_by-cons (λ (v : Queued). f v.item) w ws, rest, one, split, parts)
  where
    each : (hs : List (List ℕ)) → AllByRecursion (λ g. sum_by f (members_of (w ∷ ws) g) ≡ cond (same_bytes g w.group) (f w.item) 0 + sum_by f (members_of ws g)) hs
    each [] = tt
    each (h ∷ hs) = (member_added f h w ws, each hs)

pub members_length : (ws : List Queued) (g : List ℕ) → length (members_of ws g) ≡ count_by (in_group g) ws
members_length ws g = length-map (filter (in_group g) ws) (λ (w : Queued). w.item) ∙ length-filter (in_group g) ws

-- what holds of all instructions holds of a group's
pub members_all : (P : Instruction → Type 0) (ws : List Queued) (g : List ℕ) → AllByRecursion (λ (w : Queued). P w.item) ws → AllByRecursion P (members_of ws g)
members_all P [] g all = tt
members_all P (w ∷ ws) g all = by (in_group g w) (members_all P ws g all.1)
  where
    by : (b : Bool) → AllByRecursion P (members_of ws g) → AllByRecursion P (map (λ (v : Queued). v.item) (cond b (w ∷ filter (in_group g) ws) (filter (in_group g) ws)))
    by true rest = (all.0, rest)
    by false rest = rest

pub members_some : (ws : List Queued) (g : List ℕ) → list_any (in_group g) ws ≡ true → 0 < length (members_of ws g)
members_some [] g some = absurd (true≢false (sym some))
members_some (w ∷ ws) g some = by (in_group g w) refl (members_some ws g)
  where
    by : (b : Bool) → in_group g w ≡ b → (list_any (in_group g) ws ≡ true → 0 < length (members_of ws g)) → 0 < length (map (λ (v : Queued). v.item) (cond b (w ∷ filter (in_group g) ws) (filter (in_group g) ws)))
    by true told rest = omega arith
    by false told rest = rest (sym (ap (λ b. b || list_any (in_group g) ws) told) ∙ some)

-- nothing is found under an id that none has
find_none : (ws : List Queued) (id : List ℕ) → AllByRecursion (λ k. same_bytes id k ≡ false) (map id_of ws) → find ws id ≡ None
find_none [] id apart = refl
find_none (w ∷ ws) id apart = ap (λ b. cond b (Some w) (find ws id)) apart.0 ∙ find_none ws id apart.1

-- a group is that of its first instruction
pub first_group : (ws : List Queued) (g : List ℕ) → IsDistinct same_bytes (map id_of ws) → list_any (in_group g) ws ≡ true → group_of ws (first_id (members_of ws g)) ≡ Some g
first_group [] g distinct some = absurd (true≢false (sym some))
first_group (w ∷ ws) g distinct some = by (in_group g w) refl (first_group ws g (IsDistinct-tail same_bytes w.item.id (map id_of ws) distinct))
  where
    by : (b : Bool) → in_group g w ≡ b → (list_any (in_group g) ws ≡ true → group_of ws (first_id (members_of ws g)) ≡ Some g) →
        group_of (w ∷ ws) (first_id (map (λ (v : Queued). v.item) (cond b (w ∷ filter (in_group g) ws) (filter (in_group g) ws)))) ≡ Some g
    by true told rest = ap (λ t. option_map (λ (v : Queued). v.group) (cond t (Some w) (find ws w.item.id))) (same_name_refl w.item.id) ∙ ap (λ n. Some n) (sym (same_name_is g w.group told))
    by false told rest =
        let id = first_id (members_of ws g) in
        let found : group_of ws id ≡ Some g = rest (sym (ap (λ b. b || list_any (in_group g) ws) told) ∙ some) in
        apart id (same_bytes id w.item.id) refl found ∙ found
      where
        apart : (id : List ℕ) (b : Bool) → same_bytes id w.item.id ≡ b → group_of ws id ≡ Some g → option_map (λ (v : Queued). v.group) (cond (same_bytes id w.item.id) (Some w) (find ws id)) ≡ group_of ws id
        apart id false e found = ap (λ t. option_map (λ (v : Queued). v.group) (cond t (Some w) (find ws id))) e
        apart id true e found =
            let none : find ws id ≡ None = ap (find ws) (same_name_is id w.item.id e) ∙ find_none ws w.item.id (IsDistinct-head same_bytes w.item.id (map id_of ws) distinct) in
            let not_found : group_of ws id ≡ None = ap (option_map (λ (v : Queued). v.group)) none in
            absurd (cc (found, not_found))
