use Rattle.std.proofs.Common.{◌≡◌, ℕ, ◌+◌, ◌≤◌, Bool, true, false, cond, ◌&&◌, ◌||◌, List, [], ◌∷◌, refl, sym, ap, ◌∙◌, subst, arith, true≢false}
use Rattle.std.specs.Prelude.{sum_by, unwrap_or}
use Rattle.std.specs.FinMap as map
use Rattle.std.specs.List.{IsDistinct, AllByRecursion}
use Rattle.std.specs.Cmp.Lexicographic.{nat_list_eq_equiv}
use Rattle.std.proofs.lemmas.List.Sums.{sum_by-cons}
use Rattle.std.proofs.lemmas.Map.Keys.{IsDistinct-head, IsDistinct-tail}
use Rattle.dali_base.specs.Readers.{same_bytes}
use Rattle.dali_account.specs.Units.{PairKey, Units, units_of, with_units, some_units}
use Rattle.dali_account.specs.Book.{has_account, held}
use Rattle.dali_account.proofs.UnitsLemmas.{same_pair, same_pair_is, get-with_units, unwrapped}

-- names are equal where the test says so
pub same_name_is : (x y : List ℕ) → same_bytes x y ≡ true → x ≡ y
same_name_is x y e = ap (λ (p : PairKey). p.0) (same_pair_is (x, x) (y, x) (ap (λ t. t && same_bytes x x) e ∙ nat_list_eq_equiv.refl x))

pub same_name_refl : (x : List ℕ) → same_bytes x x ≡ true
same_name_refl x = nat_list_eq_equiv.refl x

pub same_name_symm : (x y : List ℕ) → same_bytes x y ≡ same_bytes y x
same_name_symm x y = nat_list_eq_equiv.symm x y

none_among : (x : List ℕ) (xs : List (List ℕ)) → AllByRecursion (λ y. same_bytes x y ≡ false) xs → has_account xs x ≡ false
none_among x [] h = refl
none_among x (y ∷ ys) h = ap (λ t. t || has_account ys x) h.0 ∙ none_among x ys h.1

pub first_false : (s t : Bool) → (s || t) ≡ false → s ≡ false
first_false true t e = e
first_false false t e = refl

pub second_false : (s t : Bool) → (s || t) ≡ false → t ≡ false
second_false true t e = absurd (true≢false e)
second_false false t e = e

pub first_true : (s t : Bool) → (s && t) ≡ true → s ≡ true
first_true true t e = refl
first_true false t e = e

pub second_from_first : (s t : Bool) → (s && t) ≡ true → t ≡ true
second_from_first true t e = e
second_from_first false t e = absurd (true≢false (sym e))

second_true : (s t : Bool) → s ≡ false → (s || t) ≡ true → t ≡ true
second_true s t e h = sym (ap (λ r. r || t) e) ∙ h

module _ (f g : List ℕ → ℕ) (a : List ℕ) (other : (x : List ℕ) → same_bytes a x ≡ false → g x ≡ f x) where
  -- a sum over names without a stays
  pub sum_without : (xs : List (List ℕ)) → has_account xs a ≡ false → sum_by g xs ≡ sum_by f xs
  sum_without [] absent = refl
  sum_without (x ∷ xs) absent =
      let head : g x ≡ f x = other x (first_false (same_bytes a x) (has_account xs a) absent) in
      let tail : sum_by g xs ≡ sum_by f xs = sum_without xs (second_false (same_bytes a x) (has_account xs a) absent) in
      omega (arith, sum_by-cons g x xs, sum_by-cons f x xs, head, tail)

  -- a sum over distinct names changes by what a's term changes by
  pub sum_moved : (up down : ℕ) → g a + down ≡ f a + up → (xs : List (List ℕ)) → IsDistinct same_bytes xs → has_account xs a ≡ true → sum_by g xs + down ≡ sum_by f xs + up
  sum_moved up down moved [] distinct there = absurd (true≢false (sym there))
  sum_moved up down moved (x ∷ xs) distinct there =
      by (same_bytes a x) refl (λ rest. sum_moved up down moved xs (IsDistinct-tail same_bytes x xs distinct) rest)
    where
      by : (b : Bool) → same_bytes a x ≡ b → (has_account xs a ≡ true → sum_by g xs + down ≡ sum_by f xs + up) → sum_by g (x ∷ xs) + down ≡ sum_by f (x ∷ xs) + up
      by true e rest =
          let is : a ≡ x = same_name_is a x e in
          let head : g x + down ≡ f x + up = subst (λ y. g y + down ≡ f y + up) is moved in
          let absent : has_account xs a ≡ false = subst (λ y. has_account xs y ≡ false) (sym is) (none_among x xs (IsDistinct-head same_bytes x xs distinct)) in
          let tail : sum_by g xs ≡ sum_by f xs = sum_without xs absent in
          omega (arith, sum_by-cons g x xs, sum_by-cons f x xs, head, tail)
      by false e rest =
          let head : g x ≡ f x = other x e in
          let tail : sum_by g xs + down ≡ sum_by f xs + up = rest (second_true (same_bytes a x) (has_account xs a) e there) in
          omega (arith, sum_by-cons g x xs, sum_by-cons f x xs, head, tail)

-- a term is at most the sum
pub term_le_sum : (f : List ℕ → ℕ) (a : List ℕ) (xs : List (List ℕ)) → has_account xs a ≡ true → f a ≤ sum_by f xs
term_le_sum f a [] there = absurd (true≢false (sym there))
term_le_sum f a (x ∷ xs) there = by (same_bytes a x) refl (λ rest. term_le_sum f a xs rest)
  where
    by : (b : Bool) → same_bytes a x ≡ b → (has_account xs a ≡ true → f a ≤ sum_by f xs) → f a ≤ sum_by f (x ∷ xs)
    by true e rest =
        let is : f a ≡ f x = ap f (same_name_is a x e) in
        omega (arith, sum_by-cons f x xs, is)
    by false e rest =
        let tail : f a ≤ sum_by f xs = rest (second_true (same_bytes a x) (has_account xs a) e there) in
        omega (arith, sum_by-cons f x xs, tail)

pub sum_same : (f g : List ℕ → ℕ) (xs : List (List ℕ)) → ((x : List ℕ) → g x ≡ f x) → sum_by g xs ≡ sum_by f xs
sum_same f g xs same = λ j. sum_by (λ x. same x j) xs

-- the number at a pair after one was put
pub units-with_units : (m : Units) (p : PairKey) (n : ℕ) (q : PairKey) → units_of (with_units m p n) q ≡ cond (same_pair q p) n (units_of m q)
units-with_units m p n q = ap (λ o. unwrap_or o 0) (get-with_units m p n q) ∙ by (same_pair q p)
  where
    by : (b : Bool) → unwrap_or (cond b (some_units n) (map.get m q)) 0 ≡ cond b n (units_of m q)
    by true = unwrapped n
    by false = refl

same_pair_itself : (p : PairKey) → same_pair p p ≡ true
same_pair_itself p = ap (λ t. t && same_bytes p.1 p.1) (same_name_refl p.0) ∙ same_name_refl p.1

pub units_same : (m : Units) (p : PairKey) (n : ℕ) → units_of (with_units m p n) p ≡ n
units_same m p n = units-with_units m p n p ∙ ap (λ t. cond t n (units_of m p)) (same_pair_itself p)

pub units_other : (m : Units) (p : PairKey) (n : ℕ) (q : PairKey) → same_pair q p ≡ false → units_of (with_units m p n) q ≡ units_of m q
units_other m p n q e = units-with_units m p n q ∙ ap (λ t. cond t n (units_of m q)) e

pub and_false : (s t : Bool) → t ≡ false → (s && t) ≡ false
and_false true t e = e
and_false false t e = refl

module _ (accounts : List (List ℕ)) (balances earmarks : Units) (account asset : List ℕ) (balance earmark : ℕ) where
  -- after new numbers at a pair the units of another asset stay
  pub held_other : (q : List ℕ) → same_bytes q asset ≡ false →
      held accounts (with_units balances (account, asset) balance) (with_units earmarks (account, asset) earmark) q ≡ held accounts balances earmarks q
  held_other q e = sum_same (λ x. units_of balances (x, q) + units_of earmarks (x, q)) (λ x. units_of (with_units balances (account, asset) balance) (x, q) + units_of (with_units earmarks (account, asset) earmark) (x, q)) accounts
      (λ x. let apart : same_pair (x, q) (account, asset) ≡ false = and_false (same_bytes x account) (same_bytes q asset) e in
      let one : units_of (with_units balances (account, asset) balance) (x, q) ≡ units_of balances (x, q) = units_other balances (account, asset) balance (x, q) apart in
      let two : units_of (with_units earmarks (account, asset) earmark) (x, q) ≡ units_of earmarks (x, q) = units_other earmarks (account, asset) earmark (x, q) apart in
      omega (arith, one, two))

  -- and those of the pair's asset change by what the pair's numbers change by
  pub held_moved : (up down : ℕ) → balance + earmark + down ≡ units_of balances (account, asset) + units_of earmarks (account, asset) + up →
      IsDistinct same_bytes accounts → has_account accounts account ≡ true →
      held accounts (with_units balances (account, asset) balance) (with_units earmarks (account, asset) earmark) asset + down ≡ held accounts balances earmarks asset + up
  held_moved up down moved distinct there =
      let one : units_of (with_units balances (account, asset) balance) (account, asset) ≡ balance = units_same balances (account, asset) balance in
      let two : units_of (with_units earmarks (account, asset) earmark) (account, asset) ≡ earmark = units_same earmarks (account, asset) earmark in
      sum_moved (λ x. units_of balances (x, asset) + units_of earmarks (x, asset)) (λ x. units_of (with_units balances (account, asset) balance) (x, asset) + units_of (with_units earmarks (account, asset) earmark) (x, asset)) account
      (λ x e. let apart : same_pair (x, asset) (account, asset) ≡ false = ap (λ t. t && same_bytes asset asset) (same_name_symm x account ∙ e) in
      let three : units_of (with_units balances (account, asset) balance) (x, asset) ≡ units_of balances (x, asset) = units_other balances (account, asset) balance (x, asset) apart in
      let four : units_of (with_units earmarks (account, asset) earmark) (x, asset) ≡ units_of earmarks (x, asset) = units_other earmarks (account, asset) earmark (x, asset) apart in
      omega (arith, three, four))
      up down (omega (arith, one, two, moved)) accounts distinct there
