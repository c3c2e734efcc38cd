use Rattle.std.proofs.Common.{◌≡◌, ℕ, ◌+◌, ◌<◌, suc, ℤ, pos, ◌+ℤ◌, Bool, true, false, cond, not, ◌&&◌, ◌||◌, true≢false, List, [], ◌∷◌, ◌++◌, map, length, get_or, eqb, nat_lt, Some, None, refl, sym, ap, ◌∙◌, subst, arith}
use Rattle.std.specs.Prelude.{fold, position, slice_get}
use Rattle.std.specs.Option.{option_map_or}
use Rattle.std.specs.List.{All, AllPairs, IsDistinct, list_any, filter, position_or_len}
use Rattle.std.specs.Cmp.Lexicographic.{nat_list_eq_equiv}
use Rattle.std.proofs.lemmas.Int.{ints}
use Rattle.std.proofs.lemmas.Bool.Decides.{nat_tests}
use Rattle.std.proofs.lemmas.List.Elements.{All-head, All-tail, All-push}
use Rattle.std.proofs.lemmas.List.Quantifiers.{position-Some}
use Rattle.std.proofs.lemmas.Map.Keys.{IsDistinct-push}
use Rattle.dali_base.specs.NameList.{NameList, knows, with_name}
use Rattle.dali_base.specs.Readers.{same_bytes}
use Rattle.dali_account.proofs.SumLemmas.{same_name_is}
use Rattle.dali_problem.specs.Sums.{pick, sum_over}
use Rattle.dali_problem.proofs.SumLaws.{sum_over_add}
use Rattle.dali_queue.specs.declared.instruction.Instruction.{Instruction}
use Rattle.dali_queue.specs.CycleProblem.{each_once, members_of, places_from, chosen_of}
use Rattle.dali_queue.specs.Groups.{in_group}
use Rattle.dali_queue.specs.NetOf.{items_at}
use Rattle.dali_queue.specs.Queue.{Queued}

-- The instructions of some items of a problem, one by one and group by group.

-- names, each once: they differ, what holds of all names holds of them, and each name is among them
module _ where
  once_distinct : (n : NameList) (names : List (List ℕ)) → IsDistinct same_bytes n.names → IsDistinct same_bytes (fold with_name n names).names
  once_distinct n [] d = d
  once_distinct n (x ∷ xs) d = once_distinct (with_name n x) xs (by (knows n.names x) refl)
    where
      by : (b : Bool) → knows n.names x ≡ b → IsDistinct same_bytes (cond b n (record { names = n.names ++ x ∷ []; readied = None })).names
      by true e = d
      by false e = IsDistinct-push nat_list_eq_equiv n.names x d e

  once_all : (P : List ℕ → Type 0) (n : NameList) (names : List (List ℕ)) → All P n.names → All P names → All P (fold with_name n names).names
  once_all P n [] h all = h
  once_all P n (x ∷ xs) h all = once_all P (with_name n x) xs (by (knows n.names x)) (All-tail P x xs all)
    where
      by : (b : Bool) → All P (cond b n (record { names = n.names ++ x ∷ []; readied = None })).names
      by true = h
      by false = All-push P n.names x h (All-head P x xs all)

  knows_push : (names : List (List ℕ)) (x g : List ℕ) → knows names g ≡ true → knows (names ++ x ∷ []) g ≡ true
  knows_push [] x g h = absurd (true≢false (sym h))
  knows_push (y ∷ ys) x g h = by (same_bytes g y) h (knows_push ys x g)
    where
      by : (b : Bool) → (b || knows ys g) ≡ true → (knows ys g ≡ true → knows (ys ++ x ∷ []) g ≡ true) → (b || knows (ys ++ x ∷ []) g) ≡ true
      by true h rest = refl
      by false h rest = rest h

  knows_last : (names : List (List ℕ)) (x g : List ℕ) → same_bytes g x ≡ true → knows (names ++ x ∷ []) g ≡ true
  knows_last [] x g h = ap (λ b. b || false) h
  knows_last (y ∷ ys) x g h = by (same_bytes g y) (knows_last ys x g h)
    where
      by : (b : Bool) → knows (ys ++ x ∷ []) g ≡ true → (b || knows (ys ++ x ∷ []) g) ≡ true
      by true rest = refl
      by false rest = rest

  stays : (n : NameList) (x g : List ℕ) → knows n.names g ≡ true → knows (with_name n x).names g ≡ true
  stays n x g h = by (knows n.names x)
    where
      by : (b : Bool) → knows (cond b n (record { names = n.names ++ x ∷ []; readied = None })).names g ≡ true
      by true = h
      by false = knows_push n.names x g h

  enters : (n : NameList) (x g : List ℕ) → same_bytes g x ≡ true → knows (with_name n x).names g ≡ true
  enters n x g h = by (knows n.names x) refl
    where
      by : (b : Bool) → knows n.names x ≡ b → knows (cond b n (record { names = n.names ++ x ∷ []; readied = None })).names g ≡ true
      by true e = ap (knows n.names) (same_name_is g x h) ∙ e
      by false e = knows_last n.names x g h

  kept_through : (n : NameList) (names : List (List ℕ)) (g : List ℕ) → knows n.names g ≡ true → knows (fold with_name n names).names g ≡ true
  kept_through n [] g h = h
  kept_through n (x ∷ xs) g h = kept_through (with_name n x) xs g (stays n x g h)

  once_knows : (n : NameList) (names : List (List ℕ)) (g : List ℕ) → knows names g ≡ true → knows (fold with_name n names).names g ≡ true
  once_knows n [] g h = absurd (true≢false (sym h))
  once_knows n (x ∷ xs) g h = by (same_bytes g x) refl h (once_knows (with_name n x) xs g)
    where
      by : (b : Bool) → same_bytes g x ≡ b → (b || knows xs g) ≡ true → (knows xs g ≡ true → knows (fold with_name (with_name n x) xs).names g ≡ true) → knows (fold with_name (with_name n x) xs).names g ≡ true
      by true e h rest = kept_through (with_name n x) xs g (enters n x g e)
      by false e h rest = rest h

none_distinct : IsDistinct same_bytes []
unfolding IsDistinct
none_distinct = tt

pub each_distinct : (names : List (List ℕ)) → IsDistinct same_bytes (each_once names)
each_distinct names = once_distinct (record { names = []; readied = None }) names none_distinct

pub each_all : (P : List ℕ → Type 0) (names : List (List ℕ)) → All P names → All P (each_once names)
each_all P names all = once_all P (record { names = []; readied = None }) names (λ k d h. absurd (omega (arith, h))) all

pub each_known : (names : List (List ℕ)) (g : List ℕ) → knows names g ≡ true → knows (each_once names) g ≡ true
each_known names g h = once_knows (record { names = []; readied = None }) names g h

-- where one element passes a test, the first that passes has a place
any_place : {X : Type 0} (p : X → Bool) (xs : List X) → list_any p xs ≡ true → position_or_len p xs < length xs
any_place p [] h = absurd (true≢false (sym h))
any_place p (x ∷ xs) h = by (p x) h (any_place p xs)
  where
    by : (b : Bool) → (b || list_any p xs) ≡ true → (list_any p xs ≡ true → position_or_len p xs < length xs) → cond (not b) (1 + position_or_len p xs) 0 < length (x ∷ xs)
    by true h rest = omega arith
    by false h rest = let less = rest h in omega (arith, less)

pub record IsPlaceOf {X : Type 0} (p : X → Bool) (xs : List X) (k : ℕ) : Type 0 where
  pub is : position p xs ≡ Some k
  pub within : k < length xs
  pub passes : (d : X) → p (get_or xs k d) ≡ true

lt_test : (a b : ℕ) → a < b → nat_lt a b ≡ true
lt_test a b h = grind (arith, nat_tests, h)

pub place_found : {X : Type 0} (p : X → Bool) (xs : List X) → list_any p xs ≡ true → (k : ℕ) × IsPlaceOf p xs k
place_found p xs h =
    let within = any_place p xs h in
    let is : position p xs ≡ Some (position_or_len p xs) = ap (λ b. cond b (Some (position_or_len p xs)) None) (lt_test (position_or_len p xs) (length xs) within) in
    (position_or_len p xs, record { is = is; within = within; passes = λ d. (position-Some p xs (position_or_len p xs) d is).1 })

-- sums over a rising set in which one number passes a test
module _ (x : ℤ) (k : ℕ) (n : ℕ) (f : ℕ → Bool) (tells : (j : ℕ) → j < n → f j ≡ eqb j k) where
  sum_none : (s : List ℕ) → All (λ j. j < n) s → All (λ j. k < j) s → sum_over (λ j. pick (f j) x) s ≡ pos 0
  sum_none [] fits above = refl
  sum_none (j ∷ js) fits above =
      let rest = sum_none js (All-tail (λ j. j < n) j js fits) (All-tail (λ j. k < j) j js above) in
      let apart : eqb j k ≡ false = grind (arith, nat_tests, All-head (λ j. k < j) j js above) in
      let head : pick (f j) x ≡ pos 0 = ap (λ b. pick b x) (tells j (All-head (λ j. j < n) j js fits) ∙ apart) in
      omega (arith, ints, rest, head)

  pub sum_one : (s : List ℕ) → AllPairs (λ i j. i < j) s → All (λ j. j < n) s → sum_over (λ j. pick (f j) x) s ≡ pick (list_any (λ j. eqb j k) s) x
  sum_one [] rising fits = refl
  sum_one (j ∷ js) rising fits = by (eqb j k) refl (sum_one js (tail_pairs rising) (All-tail (λ j. j < n) j js fits))
    where
      tail_pairs : AllPairs (λ i j. i < j) (j ∷ js) → AllPairs (λ i j. i < j) js
      tail_pairs r = λ a b d less within. r (suc a) (suc b) d (omega (arith, less)) (omega (arith, within))

      later : All (λ i. j < i) js
      later = λ a d within. rising 0 (suc a) d (omega arith) (omega (arith, within))

      head_is : pick (f j) x ≡ pick (eqb j k) x
      head_is = ap (λ b. pick b x) (tells j (All-head (λ j. j < n) j js fits))

      by : (b : Bool) → eqb j k ≡ b → sum_over (λ j. pick (f j) x) js ≡ pick (list_any (λ j. eqb j k) js) x →
          pick (f j) x +ℤ sum_over (λ j. pick (f j) x) js ≡ pick (b || list_any (λ j. eqb j k) js) x
      by true e rest =
          let same : j ≡ k = grind (arith, nat_tests, e) in
          let none = sum_none js (All-tail (λ j. j < n) j js fits) (subst (λ i. All (λ l. i < l) js) same later) in
          let first : pick (f j) x ≡ x = head_is ∙ ap (λ b. pick b x) e in
          omega (arith, ints, none, first)
      by false e rest =
          let first : pick (f j) x ≡ pos 0 = head_is ∙ ap (λ b. pick b x) e in
          omega (arith, ints, rest, first)

sum_nothing : {X : Type 0} (xs : List X) → sum_over (λ x. pos 0) xs ≡ pos 0
sum_nothing [] = refl
sum_nothing (x ∷ xs) = let rest = sum_nothing xs in omega (arith, ints, rest)

pub sum_swapped : {X Y : Type 0} (f : X → Y → ℤ) (xs : List X) (ys : List Y) → sum_over (λ x. sum_over (λ y. f x y) ys) xs ≡ sum_over (λ y. sum_over (λ x. f x y) xs) ys
sum_swapped f [] ys = sym (sum_nothing ys)
sum_swapped f (x ∷ xs) ys =
    let rest = sum_swapped f xs ys in
    ap (λ z. sum_over (λ y. f x y) ys +ℤ z) rest ∙ sym (sum_over_add (λ y. f x y) (λ y. sum_over (λ x. f x y) xs) ys)

-- the sum over a group's instructions
pub sum_of_group : (f : Instruction → ℤ) (g : List ℕ) (ws : List Queued) → sum_over (λ w. pick (in_group g w) (f w.item)) ws ≡ sum_over f (members_of ws g)
sum_of_group f g [] = refl
sum_of_group f g (w ∷ ws) = by (in_group g w) (sum_of_group f g ws)
  where
    by : (b : Bool) → sum_over (λ w. pick (in_group g w) (f w.item)) ws ≡ sum_over f (members_of ws g) →
        pick b (f w.item) +ℤ sum_over (λ w. pick (in_group g w) (f w.item)) ws ≡ sum_over f (map (λ (v : Queued). v.item) (cond b (w ∷ filter (in_group g) ws) (filter (in_group g) ws)))
    by true rest = omega (arith, ints, rest)
    by false rest = omega (arith, ints, rest)

-- the sum over the instructions of a set
module _ (f : Instruction → ℤ) (all : List Queued) (test : Queued → Bool) (number : Queued → ℕ) (set : List ℕ) where
  pub sum_of_set : (ws : List Queued) (k : ℕ) → ((j : ℕ) → slice_get all (k + j) ≡ slice_get ws j) →
      sum_over f (items_at all (chosen_of set (places_from test k ws) (map number (filter test ws)))) ≡ sum_over (λ w. pick (test w && list_any (λ i. eqb i (number w)) set) (f w.item)) ws
  sum_of_set [] k at = refl
  sum_of_set (w ∷ ws) k at = by (test w) (list_any (λ i. eqb i (number w)) set) refl (sum_of_set ws (k + 1) next)
    where
      next : (j : ℕ) → slice_get all (k + 1 + j) ≡ slice_get ws j
      next j = ap (slice_get all) (omega arith) ∙ at (suc j)

      here : slice_get all k ≡ Some w
      here = ap (slice_get all) (omega arith) ∙ at 0

      by : (a b : Bool) → list_any (λ i. eqb i (number w)) set ≡ b →
          sum_over f (items_at all (chosen_of set (places_from test (k + 1) ws) (map number (filter test ws)))) ≡ sum_over (λ w. pick (test w && list_any (λ i. eqb i (number w)) set) (f w.item)) ws →
          sum_over f (items_at all (chosen_of set (cond a (k ∷ places_from test (k + 1) ws) (places_from test (k + 1) ws)) (map number (cond a (w ∷ filter test ws) (filter test ws)))))
          ≡ pick (a && b) (f w.item) +ℤ sum_over (λ w. pick (test w && list_any (λ i. eqb i (number w)) set) (f w.item)) ws
      by false b e rest = omega (arith, ints, rest)
      by true false e rest =
          ap (λ t. sum_over f (items_at all (cond t (k ∷ chosen_of set (places_from test (k + 1) ws) (map number (filter test ws))) (chosen_of set (places_from test (k + 1) ws) (map number (filter test ws)))))) e
          ∙ omega (arith, ints, rest)
      by true true e rest =
          let more : List Instruction = items_at all (chosen_of set (places_from test (k + 1) ws) (map number (filter test ws))) in
          ap (λ t. sum_over f (items_at all (cond t (k ∷ chosen_of set (places_from test (k + 1) ws) (map number (filter test ws))) (chosen_of set (places_from test (k + 1) ws) (map number (filter test ws)))))) e
          ∙ ap (λ o. sum_over f (option_map_or (λ (v : Queued). v.item ∷ more) o more)) here
          ∙ omega (arith, ints, rest)
