use Rattle.std.proofs.Common.{◌≡◌, ℕ, suc, ◌+◌, ◌<◌, ◌≤◌, Bool, true, false, cond, not, ◌||◌, List, [], ◌∷◌, ◌++◌, length, map, Option, Some, None, is_some, refl, sym, ap, ◌∙◌, subst, arith, true≢false}
use Rattle.std.specs.Prelude.{fold, position, unwrap_or, nat_lt}
use Rattle.std.specs.List.{AllByRecursion, IsDistinct, position_or_len}
use Rattle.std.proofs.lemmas.Bool.{lt-ltb}
use Rattle.std.proofs.lemmas.Bool.Decides.{nat_tests}
use Rattle.std.proofs.lemmas.List.Quantifiers.{position-Some}
use Rattle.dali_account.proofs.PlaceLemmas.{known_place}
use Rattle.std.specs.Option.{option_map}
use Rattle.std.specs.Cmp.Lexicographic.{nat_list_eq_equiv}
use Rattle.std.proofs.lemmas.List.{length_push}
use Rattle.std.proofs.lemmas.List.Sums.{fold_push}
use Rattle.std.proofs.lemmas.List.Folds.{list_any-append}
use Rattle.std.proofs.lemmas.Map.Keys.{IsDistinct-push, IsDistinct-head, IsDistinct-tail}
use Rattle.dali_base.specs.NameList.{NameList, knows, place_of, with_name}
use Rattle.dali_base.specs.Readers.{same_bytes}
use Rattle.dali_account.proofs.SumLemmas.{same_name_is, same_name_refl, first_false, second_false}
use Rattle.dali_queue.specs.Eligible.{with_place}

-- a list of names, each once
abbrev pub no_names : NameList
no_names = record { names = []; readied = None }

abbrev pub listed : List (List ℕ) → NameList
listed names = fold with_name no_names names

pub listed_push : (names : List (List ℕ)) (name : List ℕ) → listed (names ++ name ∷ []) ≡ with_name (listed names) name
listed_push names name = fold_push with_name no_names names name

-- one more name
module _ (n : NameList) (name : List ℕ) where
  pub with_known : knows n.names name ≡ true → (with_name n name).names ≡ n.names
  with_known e = ap (λ b. (cond b n (record { names = n.names ++ name ∷ []; readied = None })).names) e

  pub with_new : knows n.names name ≡ false → (with_name n name).names ≡ n.names ++ name ∷ []
  with_new e = ap (λ b. (cond b n (record { names = n.names ++ name ∷ []; readied = None })).names) e

  pub with_length : length (with_name n name).names ≤ length n.names + 1
  with_length = by (knows n.names name) refl
    where
      by : (b : Bool) → knows n.names name ≡ b → length (with_name n name).names ≤ length n.names + 1
      by true e = let same = ap length (with_known e) in omega (arith, same)
      by false e = let same = ap length (with_new e) in omega (arith, same, length_push n.names name)

  pub with_distinct : IsDistinct same_bytes n.names → IsDistinct same_bytes (with_name n name).names
  with_distinct distinct = by (knows n.names name) refl
    where
      by : (b : Bool) → knows n.names name ≡ b → IsDistinct same_bytes (with_name n name).names
      by true e = subst (IsDistinct same_bytes) (sym (with_known e)) distinct
      by false e = subst (IsDistinct same_bytes) (sym (with_new e)) (IsDistinct-push nat_list_eq_equiv n.names name distinct e)

  pub with_all : (P : List ℕ → Type 0) → AllByRecursion P n.names → P name → AllByRecursion P (with_name n name).names
  with_all P all there = by (knows n.names name) refl
    where
      pushed : (xs : List (List ℕ)) → AllByRecursion P xs → AllByRecursion P (xs ++ name ∷ [])
      pushed [] h = (there, tt)
      pushed (x ∷ xs) h = (h.0, pushed xs h.1)

      by : (b : Bool) → knows n.names name ≡ b → AllByRecursion P (with_name n name).names
      by true e = subst (AllByRecursion P) (sym (with_known e)) all
      by false e = subst (AllByRecursion P) (sym (with_new e)) (pushed n.names all)

distinct_none : IsDistinct same_bytes []
unfolding IsDistinct
distinct_none = tt

-- what holds from the start and after each name holds of a list of names
along : (P : NameList → Type 0) → ((n : NameList) (name : List ℕ) → P n → P (with_name n name)) → (n : NameList) (names : List (List ℕ)) → P n → P (fold with_name n names)
along P step n [] h = h
along P step n (x ∷ xs) h = along P step (with_name n x) xs (step n x h)

pub listed_distinct : (names : List (List ℕ)) → IsDistinct same_bytes (listed names).names
listed_distinct names = along (λ n. IsDistinct same_bytes n.names) (λ n name h. with_distinct n name h) no_names names distinct_none

pub listed_length : (names : List (List ℕ)) → length (listed names).names ≤ length names
listed_length names = let most = from no_names names in omega (arith, most)
  where
    from : (n : NameList) (xs : List (List ℕ)) → length (fold with_name n xs).names ≤ length n.names + length xs
    from n [] = omega arith
    from n (x ∷ xs) = let rest = from (with_name n x) xs in let first = with_length n x in omega (arith, rest, first)

pub listed_all : (P : List ℕ → Type 0) (names : List (List ℕ)) → AllByRecursion P names → AllByRecursion P (listed names).names
listed_all P names all = from no_names names tt all
  where
    from : (n : NameList) (xs : List (List ℕ)) → AllByRecursion P n.names → AllByRecursion P xs → AllByRecursion P (fold with_name n xs).names
    from n [] h rest = h
    from n (x ∷ xs) h rest = from (with_name n x) xs (with_all n x P h rest.0) rest.1

-- the place of a name in a list
module _ {X : Type 0} (p : X → Bool) (x : X) (xs : List X) where
  pub position_yes : p x ≡ true → position p (x ∷ xs) ≡ Some 0
  position_yes e =
      ap (λ b. cond (nat_lt (cond (not b) (1 + position_or_len p xs) 0) (suc (length xs))) (Some (cond (not b) (1 + position_or_len p xs) 0)) None) e
      ∙ ap (λ b. cond b (Some 0) None) (lt-ltb 0 (suc (length xs)) (omega arith))

  pub position_no : p x ≡ false → position p (x ∷ xs) ≡ option_map (λ k. suc k) (position p xs)
  position_no e =
      ap (λ b. cond (nat_lt (cond (not b) (1 + position_or_len p xs) 0) (suc (length xs))) (Some (cond (not b) (1 + position_or_len p xs) 0)) None) e
      ∙ ap (λ n. cond (nat_lt n (suc (length xs))) (Some n) None) (omega arith)
      ∙ by (nat_lt (position_or_len p xs) (length xs)) (nat_lt (suc (position_or_len p xs)) (suc (length xs))) (grind (arith, nat_tests))
    where
      by : (a b : Bool) → b ≡ a → cond b (Some (suc (position_or_len p xs))) None ≡ option_map (λ k. suc k) (cond a (Some (position_or_len p xs)) None)
      by true true same = refl
      by false false same = refl
      by true false same = absurd (true≢false (sym same))
      by false true same = absurd (true≢false same)

-- a name that is there has a place
some_there : {X : Type 0} (o : Option X) → is_some o ≡ true → (x : X) × (o ≡ Some x)
some_there None e = absurd (true≢false (sym e))
some_there (Some x) e = (x, refl)

next : (o : Option ℕ) → is_some o ≡ true → unwrap_or (option_map (λ k. suc k) o) 0 ≡ suc (unwrap_or o 0)
next None e = absurd (true≢false (sym e))
next (Some k) e = refl

pub there : (xs : List (List ℕ)) (name : List ℕ) → knows xs name ≡ true → is_some (place_of xs name) ≡ true
there xs name known = known_place xs name ∙ known

later : (x name : List ℕ) (xs : List (List ℕ)) → same_bytes name x ≡ false → knows (x ∷ xs) name ≡ true → knows xs name ≡ true
later x name xs apart known = sym (ap (λ b. b || knows xs name) apart) ∙ known

knows_push : (xs : List (List ℕ)) (name x : List ℕ) → knows xs x ≡ true → knows (xs ++ name ∷ []) x ≡ true
knows_push xs name x known = list_any-append (same_bytes x) xs (name ∷ []) ∙ ap (λ b. b || (same_bytes x name || false)) known

knows_last : (xs : List (List ℕ)) (name : List ℕ) → knows (xs ++ name ∷ []) name ≡ true
knows_last xs name = list_any-append (same_bytes name) xs (name ∷ []) ∙ ap (λ b. knows xs name || (b || false)) (same_name_refl name) ∙ or_true (knows xs name)
  where
    or_true : (b : Bool) → (b || true) ≡ true
    or_true true = refl
    or_true false = refl

-- its place stays when a name is added
pub place_kept : (xs : List (List ℕ)) (name x : List ℕ) → knows xs x ≡ true → place_of (xs ++ name ∷ []) x ≡ place_of xs x
place_kept [] name x known = absurd (true≢false (sym known))
place_kept (y ∷ ys) name x known = by (same_bytes x y) refl (place_kept ys name x)
  where
    by : (b : Bool) → same_bytes x y ≡ b → (knows ys x ≡ true → place_of (ys ++ name ∷ []) x ≡ place_of ys x) → place_of (y ∷ (ys ++ name ∷ [])) x ≡ place_of (y ∷ ys) x
    by true e rest = position_yes (same_bytes x) y (ys ++ name ∷ []) e ∙ sym (position_yes (same_bytes x) y ys e)
    by false e rest = position_no (same_bytes x) y (ys ++ name ∷ []) e ∙ ap (option_map (λ k. suc k)) (rest (later y x ys e known)) ∙ sym (position_no (same_bytes x) y ys e)

module _ (n : NameList) (name : List ℕ) where
  pub with_place_kept : (x : List ℕ) → knows n.names x ≡ true → place_of (with_name n name).names x ≡ place_of n.names x
  with_place_kept x known = by (knows n.names name) refl
    where
      by : (b : Bool) → knows n.names name ≡ b → place_of (with_name n name).names x ≡ place_of n.names x
      by true e = ap (λ ns. place_of ns x) (with_known n name e)
      by false e = ap (λ ns. place_of ns x) (with_new n name e) ∙ place_kept n.names name x known

  pub with_knows : (x : List ℕ) → knows n.names x ≡ true → knows (with_name n name).names x ≡ true
  with_knows x known = by (knows n.names name) refl
    where
      by : (b : Bool) → knows n.names name ≡ b → knows (with_name n name).names x ≡ true
      by true e = ap (λ ns. knows ns x) (with_known n name e) ∙ known
      by false e = ap (λ ns. knows ns x) (with_new n name e) ∙ knows_push n.names name x known

  pub with_itself : knows (with_name n name).names name ≡ true
  with_itself = by (knows n.names name) refl
    where
      by : (b : Bool) → knows n.names name ≡ b → knows (with_name n name).names name ≡ true
      by true e = ap (λ ns. knows ns name) (with_known n name e) ∙ e
      by false e = ap (λ ns. knows ns name) (with_new n name e) ∙ knows_last n.names name

-- each of the names is known
knows_on : (names : List (List ℕ)) (n : NameList) (x : List ℕ) → knows n.names x ≡ true → knows (fold with_name n names).names x ≡ true
knows_on names n x known = along (λ m. knows m.names x ≡ true) (λ m name h. with_knows m name x h) n names known

pub listed_knows : (names : List (List ℕ)) → AllByRecursion (λ x. knows (listed names).names x ≡ true) names
listed_knows names = from no_names names
  where
    from : (n : NameList) (xs : List (List ℕ)) → AllByRecursion (λ x. knows (fold with_name n xs).names x ≡ true) xs
    from n [] = tt
    from n (x ∷ xs) = (knows_on xs (with_name n x) x (with_itself n x), from (with_name n x) xs)

-- one more place in the list of a name
module _ (h after : List ℕ → List ℕ) (name : List ℕ) (place : ℕ) (own : after name ≡ h name ++ place ∷ []) (else : (x : List ℕ) → same_bytes name x ≡ false → after x ≡ h x) where
  same_after : (xs : List (List ℕ)) → AllByRecursion (λ x. same_bytes name x ≡ false) xs → map h xs ≡ map after xs
  same_after [] apart = refl
  same_after (x ∷ xs) apart = ap (λ ps. ps ∷ map h xs) (sym (else x apart.0)) ∙ ap (λ pss. after x ∷ pss) (same_after xs apart.1)

  placed_known : (xs : List (List ℕ)) → IsDistinct same_bytes xs → knows xs name ≡ true → with_place (map h xs) (unwrap_or (place_of xs name) 0) place ≡ map after xs
  placed_known [] distinct known = absurd (true≢false (sym known))
  placed_known (x ∷ xs) distinct known = by (same_bytes name x) refl (placed_known xs (IsDistinct-tail same_bytes x xs distinct))
    where
      by : (b : Bool) → same_bytes name x ≡ b → (knows xs name ≡ true → with_place (map h xs) (unwrap_or (place_of xs name) 0) place ≡ map after xs) →
          with_place (h x ∷ map h xs) (unwrap_or (place_of (x ∷ xs) name) 0) place ≡ after x ∷ map after xs
      by true e rest =
          let is : name ≡ x = same_name_is name x e in
          let apart : AllByRecursion (λ y. same_bytes name y ≡ false) xs = subst (λ n. AllByRecursion (λ y. same_bytes n y ≡ false) xs) (sym is) (IsDistinct-head same_bytes x xs distinct) in
          ap (λ o. with_place (h x ∷ map h xs) (unwrap_or o 0) place) (position_yes (same_bytes name) x xs e)
          ∙ ap (λ y. (h y ++ place ∷ []) ∷ map h xs) (sym is) ∙ ap (λ ps. ps ∷ map h xs) (sym own) ∙ ap (λ y. after y ∷ map h xs) is
          ∙ ap (λ pss. after x ∷ pss) (same_after xs apart)
      by false e rest =
          let known' : knows xs name ≡ true = later x name xs e known in
          ap (λ o. with_place (h x ∷ map h xs) (unwrap_or o 0) place) (position_no (same_bytes name) x xs e)
          ∙ ap (λ k. with_place (h x ∷ map h xs) k place) (next (place_of xs name) (there xs name known'))
          ∙ ap (λ ps. ps ∷ with_place (map h xs) (unwrap_or (place_of xs name) 0) place) (sym (else x e))
          ∙ ap (λ pss. after x ∷ pss) (rest known')

  placed_new : h name ≡ [] → (xs : List (List ℕ)) → knows xs name ≡ false → with_place (map h xs) (unwrap_or (place_of (xs ++ name ∷ []) name) 0) place ≡ map after (xs ++ name ∷ [])
  placed_new none [] new =
      ap (λ o. with_place [] (unwrap_or o 0) place) (position_yes (same_bytes name) name [] (same_name_refl name))
      ∙ ap (λ ps. (ps ++ place ∷ []) ∷ []) (sym none) ∙ ap (λ ps. ps ∷ []) (sym own)
  placed_new none (x ∷ xs) new =
      let apart : same_bytes name x ≡ false = first_false (same_bytes name x) (knows xs name) new in
      let rest : knows xs name ≡ false = second_false (same_bytes name x) (knows xs name) new in
      ap (λ o. with_place (h x ∷ map h xs) (unwrap_or o 0) place) (position_no (same_bytes name) x (xs ++ name ∷ []) apart)
      ∙ ap (λ k. with_place (h x ∷ map h xs) k place) (next (place_of (xs ++ name ∷ []) name) (there (xs ++ name ∷ []) name (knows_last xs name)))
      ∙ ap (λ ps. ps ∷ with_place (map h xs) (unwrap_or (place_of (xs ++ name ∷ []) name) 0) place) (sym (else x apart))
      ∙ ap (λ pss. after x ∷ pss) (placed_new none xs rest)

  pub placed : (n : NameList) → IsDistinct same_bytes n.names → (knows n.names name ≡ false → h name ≡ []) →
      with_place (map h n.names) (unwrap_or (place_of (with_name n name).names name) 0) place ≡ map after (with_name n name).names
  placed n distinct none = by (knows n.names name) refl
    where
      by : (b : Bool) → knows n.names name ≡ b → with_place (map h n.names) (unwrap_or (place_of (with_name n name).names name) 0) place ≡ map after (with_name n name).names
      by true e = ap (λ ns. with_place (map h n.names) (unwrap_or (place_of ns name) 0) place) (with_known n name e) ∙ placed_known n.names distinct e ∙ ap (map after) (sym (with_known n name e))
      by false e = ap (λ ns. with_place (map h n.names) (unwrap_or (place_of ns name) 0) place) (with_new n name e) ∙ placed_new (none e) n.names e ∙ ap (map after) (sym (with_new n name e))

-- the place of a name that was added is within the lists, or the next
pub place_within : (names : List (List ℕ)) (name : List ℕ) (k : ℕ) → place_of names name ≡ Some k → k < length names
place_within names name k is = (position-Some (same_bytes name) names k [] is).0
