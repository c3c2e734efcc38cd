use Rattle.std.proofs.Common.{◌≡◌, ℕ, Bool, true, false, cond, ◌&&◌, List, [], ◌∷◌, Option, Some, None, refl, sym, ap, ◌∙◌, eqb, arith, rules}
use Rattle.std.specs.Prelude.{nat_eq, unwrap_or}
use Rattle.std.specs.declared.cmp.Ordering.{Ordering}
use Rattle.std.specs.declared.cmp.Ordering.TheVariants.{Less, Equal, Greater}
use Rattle.std.specs.Ordering.{nat_cmp, eq_by_cmp, is_eq, ordering_then}
use Rattle.std.specs.Cmp.{IsTotalOrder, then_total, on_total, both_tied}
use Rattle.std.specs.Cmp.Lexicographic.{slice_cmp, nat_list_cmp_total, nat_list_eq_equiv, lists_ties, pointwise}
use Rattle.std.proofs.lemmas.Bool.Decides.{nat_tests}
use Rattle.std.specs.Map.{lookup}
use Rattle.std.specs.FinMap as map
use Rattle.dali_account.specs.Units.{PairKey, Units, HasNoZero, pair_cmp, units_of, with_units, some_units}
use Rattle.dali_account.specs.Holding.{units_in}

-- equality of pairs, name by name
abbrev pub same_pair : PairKey → PairKey → Bool
same_pair p q = pointwise nat_eq p.0 q.0 && pointwise nat_eq p.1 q.1

pub pair_total : IsTotalOrder pair_cmp
pair_total = then_total (on_total (λ (p : PairKey). p.0) nat_list_cmp_total) (on_total (λ (p : PairKey). p.1) nat_list_cmp_total)

num_ties : (x y : ℕ) → nat_eq x y ≡ eq_by_cmp nat_cmp x y
num_ties x y = search rules

-- two tests of names agree
pub name_ties : (x y : List ℕ) → pointwise nat_eq x y ≡ eq_by_cmp (slice_cmp nat_cmp) x y
name_ties x y = lists_ties nat_cmp num_ties x y

pub pair_ties : (p q : PairKey) → same_pair p q ≡ eq_by_cmp pair_cmp p q
pair_ties p q = both_tied _ _ (slice_cmp nat_cmp p.0 q.0) (slice_cmp nat_cmp p.1 q.1) (name_ties p.0 q.0) (name_ties p.1 q.1)

then_both : (a b : Ordering) → ordering_then a b ≡ Equal → (a ≡ Equal) × (b ≡ Equal)
then_both Less b e = absurd (cc)
then_both Equal b e = (refl, e)
then_both Greater b e = absurd (cc)

pub pair_antisymmetric : map.IsAntisymmetric pair_cmp
pair_antisymmetric p q e =
    let parts = then_both (slice_cmp nat_cmp p.0 q.0) (slice_cmp nat_cmp p.1 q.1) e in
    let first : p.0 ≡ q.0 = map.slice_cmp-IsAntisymmetric map.nat_cmp-IsAntisymmetric p.0 q.0 parts.0 in
    let second : p.1 ≡ q.1 = map.slice_cmp-IsAntisymmetric map.nat_cmp-IsAntisymmetric p.1 q.1 parts.1 in
    ap (λ n. (n, p.1)) first ∙ ap (λ n. (q.0, n)) second

is_equal : (o : Ordering) → is_eq o ≡ true → o ≡ Equal
is_equal Less e = absurd (cc)
is_equal Equal e = refl
is_equal Greater e = absurd (cc)

tied : (p q : PairKey) → same_pair p q ≡ true → pair_cmp p q ≡ Equal
tied p q e = is_equal (pair_cmp p q) (sym (pair_ties p q) ∙ e)

pub same_pair_is : (p q : PairKey) → same_pair p q ≡ true → p ≡ q
same_pair_is p q e = pair_antisymmetric p q (tied p q e)

pub get-with_units : (m : Units) (p : PairKey) (n : ℕ) (q : PairKey) → map.get (with_units m p n) q ≡ cond (same_pair q p) (some_units n) (map.get m q)
get-with_units m p n q = by (eqb n 0)
  where
    by : (b : Bool) → map.get (cond b (map.remove m p) (map.insert m p n)) q ≡ cond (same_pair q p) (cond b None (Some n)) (map.get m q)
    by true = map.get-remove pair_total m p q ∙ ap (λ t. cond t None (map.get m q)) (sym (pair_ties q p))
    by false = map.get-insert pair_total m p n q ∙ ap (λ t. cond t (Some n) (map.get m q)) (sym (pair_ties q p))

-- the number at the pair in these entries
abbrev pub number_in : List (PairKey × ℕ) → PairKey → ℕ
number_in es q = unwrap_or (lookup (same_pair q) es) 0

pub get-units_in : (es : List (PairKey × ℕ)) (q : PairKey) → map.get (units_in es) q ≡ some_units (number_in es q)
get-units_in [] q = map.get-empty pair_cmp q
get-units_in (e ∷ es) q = get-with_units (units_in es) e.0 e.1 q ∙ by (same_pair q e.0) (get-units_in es q)
  where
    by : (b : Bool) → map.get (units_in es) q ≡ some_units (number_in es q) → cond b (some_units e.1) (map.get (units_in es) q) ≡ some_units (unwrap_or (cond b (Some e.1) (lookup (same_pair q) es)) 0)
    by true rest = refl
    by false rest = rest

zero_tested : (n : ℕ) → eqb n 0 ≡ true → n ≡ 0
zero_tested n e = grind (arith, nat_tests)

pub unwrapped : (n : ℕ) → unwrap_or (some_units n) 0 ≡ n
unwrapped n = by (eqb n 0) refl
  where
    by : (b : Bool) → eqb n 0 ≡ b → unwrap_or (cond b None (Some n)) 0 ≡ n
    by true e = sym (zero_tested n e)
    by false e = refl

pub units_of-units_in : (es : List (PairKey × ℕ)) (q : PairKey) → units_of (units_in es) q ≡ number_in es q
units_of-units_in es q = ap (λ o. unwrap_or o 0) (get-units_in es q) ∙ unwrapped (number_in es q)

pub no_zero_in : (es : List (PairKey × ℕ)) → HasNoZero (units_in es)
no_zero_in es q = get-units_in es q ∙ ap some_units (sym (units_of-units_in es q))

-- maps with the same number at each pair are equal, where both come from entries
pub same_units : (es fs : List (PairKey × ℕ)) → ((q : PairKey) → number_in es q ≡ number_in fs q) → units_in es ≡ units_in fs
same_units es fs same = map.same_map pair_total pair_antisymmetric _ _ (λ q. get-units_in es q ∙ ap some_units (same q) ∙ sym (get-units_in fs q))

-- entries with another number at one pair
pub changed_units : (es fs : List (PairKey × ℕ)) (p : PairKey) (n : ℕ) → ((q : PairKey) → number_in fs q ≡ cond (same_pair q p) n (number_in es q)) → units_in fs ≡ with_units (units_in es) p n
changed_units es fs p n changed = map.same_map pair_total pair_antisymmetric _ _ (λ q.
    get-units_in fs q ∙ ap some_units (changed q) ∙ by q (same_pair q p) ∙ sym (get-with_units (units_in es) p n q))
  where
    by : (q : PairKey) (b : Bool) → some_units (cond b n (number_in es q)) ≡ cond b (some_units n) (map.get (units_in es) q)
    by q true = refl
    by q false = sym (get-units_in es q)

pair_symmetric : (p q : PairKey) → same_pair p q ≡ same_pair q p
pair_symmetric p q = ap (λ t. t && pointwise nat_eq p.1 q.1) (nat_list_eq_equiv.symm p.0 q.0) ∙ ap (λ t. pointwise nat_eq q.0 p.0 && t) (nat_list_eq_equiv.symm p.1 q.1)

unwrapped_choice : (b : Bool) (n : ℕ) (o : Option ℕ) → unwrap_or (cond b (Some n) o) 0 ≡ cond b n (unwrap_or o 0)
unwrapped_choice true n o = refl
unwrapped_choice false n o = refl

-- entries after a number was put at a pair
pub updated_units : (es fs : List (PairKey × ℕ)) (p : PairKey) (n : ℕ) → ((q : PairKey) → lookup (same_pair q) fs ≡ cond (same_pair p q) (Some n) (lookup (same_pair q) es)) → units_in fs ≡ with_units (units_in es) p n
updated_units es fs p n updated = changed_units es fs p n (λ q.
    ap (λ o. unwrap_or o 0) (updated q) ∙ unwrapped_choice (same_pair p q) n (lookup (same_pair q) es) ∙ ap (λ t. cond t n (number_in es q)) (pair_symmetric p q))

pub found_units : (es : List (PairKey × ℕ)) (p : PairKey) (o : Option ℕ) → o ≡ lookup (same_pair p) es → unwrap_or o 0 ≡ units_of (units_in es) p
found_units es p o found = ap (λ r. unwrap_or r 0) found ∙ sym (units_of-units_in es p)

-- a pair that wasn't found takes the number 0 without a change
pub absent_units : (es : List (PairKey × ℕ)) (p : PairKey) (n : ℕ) → lookup (same_pair p) es ≡ None → n ≡ 0 → units_in es ≡ with_units (units_in es) p n
absent_units es p n absent none = changed_units es es p n (λ q. by q (same_pair q p) refl)
  where
    by : (q : PairKey) (b : Bool) → same_pair q p ≡ b → number_in es q ≡ cond b n (number_in es q)
    by q false e = refl
    by q true e =
        let same : q ≡ p = pair_antisymmetric q p (tied q p e) in
        ap (number_in es) same ∙ ap (λ o. unwrap_or o 0) absent ∙ sym none
