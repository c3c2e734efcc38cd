use Rattle.std.proofs.Common.{◌≡◌, ◌≢◌, ℕ, Bool, true, false, cond, ◌&&◌, not, T, List, [], ◌∷◌, ◌++◌, map, Bor, Option, Some, None, refl, sym, ap, ◌∙◌, subst, eqb, arith}
use Rattle.std.specs.Prelude.{All, IfSome}
use Rattle.std.specs.List.{filter, AllByRecursion}
use Rattle.std.specs.List.Sorted.{IsStrictlySortedBy}
use Rattle.std.specs.Map.{lookup, keys_of, values_of}
use Rattle.std.specs.Map.Iter.{TakesFirst, deref_pair}
use Rattle.std.specs.BTreeMap.{is_at}
use Rattle.std.specs.FinMap as finite
use Rattle.std.specs.FinMap.Entries.{find, is_sorted, below_all, is_sorted-where_key, find-where_key, same_entries}
use Rattle.std.specs.declared.cmp.Ordering.TheVariants.{Less}
use Rattle.std.specs.Ordering.{nat_cmp, is_eq, is_lt, eq_by_cmp, ordering_then}
use Rattle.std.specs.Cmp.Lexicographic.{slice_cmp}
use Rattle.std.proofs.lemmas.Cmp.{nat_list_cmp_total, eq_by_cmp_equiv, tied_itself}
use Rattle.std.proofs.lemmas.Bool.Decides.{nat_tests}
use Rattle.std.proofs.lemmas.List.Elements.{All-nil, All-cons, All-head, All-tail}
use Rattle.std.proofs.lemmas.List.{append-nil}
use Rattle.std.proofs.lemmas.Map.Iter.{rest_all}
use Rattle.std.proofs.lemmas.Map.Keys.{IsDistinct-from_sorted}
use Rattle.std.proofs.lemmas.Map.Views.{All-values_from_lookup}
use Rattle.dali_account.specs.declared.pairs.Pair.{Pair}
use Rattle.dali_account.specs.Units.{PairKey, Units, pair_cmp, units_of, some_units}
use Rattle.dali_base.specs.Readers.{same_bytes}
use Rattle.dali_account.specs.Pairs.{is_held_by, pair_at}
use Rattle.dali_account.proofs.UnitsLemmas.{pair_total, pair_antisymmetric, pair_ties, name_ties}
use Rattle.dali_account.proofs.SumLemmas.{same_name_is}

-- a balance under an asset as an entry of the map of all balances, and as a pair
abbrev pub under : List ℕ → List ℕ × ℕ → PairKey × ℕ
under account e = ((account, e.0), e.1)

abbrev pub named : List ℕ × ℕ → Pair
named e = record { asset = e.0; balance = e.1 }

-- all entries are listed once none is left
pub all_listed : (pairs : List Pair) (entries start now after : List (List ℕ × ℕ)) (next : Option (Bor (List ℕ) × Bor ℕ)) → next ≡ None → TakesFirst deref_pair now next after →
    pairs ++ map named now ≡ map named start → start ≡ entries → pairs ≡ map named entries
all_listed pairs entries start now after next none step so_far is =
    sym (append-nil pairs) ∙ ap (λ es. pairs ++ map named es) (sym (rest_all deref_pair now after next none step)) ∙ so_far ∙ ap (map named) is

-- the order of the entries is that of the assets
below_is : (account asset : List ℕ) (es : List (List ℕ × ℕ)) → AllByRecursion (λ q. slice_cmp nat_cmp asset q ≡ Less) (keys_of es) → below_all pair_cmp (account, asset) (map (under account) es) ≡ true
below_is account asset [] h = refl
below_is account asset (e ∷ es) h =
    let first : is_lt (pair_cmp (account, asset) (account, e.0)) ≡ true =
    ap (λ o. is_lt (ordering_then o (slice_cmp nat_cmp asset e.0))) (tied_itself nat_list_cmp_total account) ∙ ap is_lt h.0 in
    ap (λ t. t && below_all pair_cmp (account, asset) (map (under account) es)) first ∙ below_is account asset es h.1

sorted_is : (account : List ℕ) (es : List (List ℕ × ℕ)) → IsStrictlySortedBy (slice_cmp nat_cmp) (keys_of es) → is_sorted pair_cmp (map (under account) es) ≡ true
unfolding IsStrictlySortedBy
sorted_is account [] sorted = refl
sorted_is account (e ∷ es) sorted = ap (λ t. t && is_sorted pair_cmp (map (under account) es)) (below_is account e.0 es sorted.0) ∙ sorted_is account es sorted.1

-- and so is what is found
find_under : (account a q : List ℕ) (es : List (List ℕ × ℕ)) → find pair_cmp (a, q) (map (under account) es) ≡ cond (same_bytes a account) (lookup (is_at (slice_cmp nat_cmp q)) es) None
find_under account a q [] = by (same_bytes a account)
  where
    by : (s : Bool) → ◌≡◌ {A = Option ℕ} None (cond s None None)
    by true = refl
    by false = refl
find_under account a q (e ∷ es) =
    ap (λ t. cond t (Some e.1) (find pair_cmp (a, q) (map (under account) es))) (sym (pair_ties (a, q) (account, e.0)))
    ∙ by (same_bytes a account) (same_bytes q e.0) (find_under account a q es)
    ∙ ap (λ t. cond (same_bytes a account) (cond t (Some e.1) (lookup (is_at (slice_cmp nat_cmp q)) es)) None) (name_ties q e.0)
  where
    by : (s t : Bool) → find pair_cmp (a, q) (map (under account) es) ≡ cond s (lookup (is_at (slice_cmp nat_cmp q)) es) None →
        cond (s && t) (Some e.1) (find pair_cmp (a, q) (map (under account) es)) ≡ cond s (cond t (Some e.1) (lookup (is_at (slice_cmp nat_cmp q)) es)) None
    by true true rest = refl
    by true false rest = rest
    by false t rest = rest

filter_both : {X : Type 0} (p q : X → Bool) (xs : List X) → filter (λ x. p x && q x) xs ≡ filter q (filter p xs)
filter_both p q [] = refl
filter_both p q (x ∷ xs) = by (p x) (q x) refl (filter_both p q xs)
  where
    by : (s t : Bool) → q x ≡ t → filter (λ x. p x && q x) xs ≡ filter q (filter p xs) →
        cond (s && t) (x ∷ filter (λ x. p x && q x) xs) (filter (λ x. p x && q x) xs) ≡ filter q (cond s (x ∷ filter p xs) (filter p xs))
    by true true told rest = ap (λ ys. x ∷ ys) rest ∙ sym (ap (λ t. cond t (x ∷ filter q (filter p xs)) (filter q (filter p xs))) told)
    by true false told rest = rest ∙ sym (ap (λ t. cond t (x ∷ filter q (filter p xs)) (filter q (filter p xs))) told)
    by false t told rest = rest

not_zero : (n : ℕ) → n ≢ 0 → not (eqb n 0) ≡ true
not_zero n some = grind (arith, nat_tests, some)

all_kept : (account : List ℕ) (es : List (List ℕ × ℕ)) → All (λ n. n ≢ 0) (values_of es) → filter (λ (e : PairKey × ℕ). not (eqb e.1 0)) (map (under account) es) ≡ map (under account) es
all_kept account [] some = refl
all_kept account (e ∷ es) some =
    let rest = all_kept account es (All-tail (λ n. n ≢ 0) e.1 (values_of es) some) in
    ap (λ t. cond t (under account e ∷ filter (λ (x : PairKey × ℕ). not (eqb x.1 0)) (map (under account) es)) (filter (λ (x : PairKey × ℕ). not (eqb x.1 0)) (map (under account) es)))
    (not_zero e.1 (All-head (λ n. n ≢ 0) e.1 (values_of es) some))
    ∙ ap (λ xs. under account e ∷ xs) rest

pairs_under : (account : List ℕ) (es : List (List ℕ × ℕ)) → map pair_at (map (under account) es) ≡ map named es
pairs_under account [] = refl
pairs_under account (e ∷ es) = ap (λ ps. named e ∷ ps) (pairs_under account es)

some_named : (es : List (List ℕ × ℕ)) → All (λ n. n ≢ 0) (values_of es) → All (λ (p : Pair). p.balance ≢ 0) (map named es)
some_named [] some = All-nil (λ (p : Pair). p.balance ≢ 0)
some_named (e ∷ es) some = All-cons (λ (p : Pair). p.balance ≢ 0) (named e) (map named es) (All-head (λ n. n ≢ 0) e.1 (values_of es) some) (some_named es (All-tail (λ n. n ≢ 0) e.1 (values_of es) some))

some_found : (n : ℕ) → IfSome (some_units n) (λ k. k ≢ 0)
some_found n = by (eqb n 0) refl
  where
    by : (t : Bool) → eqb n 0 ≡ t → IfSome (cond t None (Some n)) (λ k. k ≢ 0)
    by true told = tt
    by false told = λ zero. grind (arith, nat_tests, told, zero)

-- balances in byte order of asset, where each asset has the account's balance, unless it is 0
module _ (balances : Units) (account : List ℕ) (es : List (List ℕ × ℕ)) (sorted : IsStrictlySortedBy (slice_cmp nat_cmp) (keys_of es))
    (found : (q : List ℕ) → lookup (is_at (slice_cmp nat_cmp q)) es ≡ some_units (units_of balances (account, q))) where
  pub no_zeros : All (λ n. n ≢ 0) (values_of es)
  no_zeros = All-values_from_lookup {eq = eq_by_cmp (slice_cmp nat_cmp)} (eq_by_cmp_equiv nat_list_cmp_total) (λ n. n ≢ 0) es (IsDistinct-from_sorted (slice_cmp nat_cmp) (keys_of es) sorted)
      (λ q. subst (λ o. IfSome o (λ n. n ≢ 0)) (sym (found q)) (some_found (units_of balances (account, q))))

  pub no_zero_named : All (λ (p : Pair). p.balance ≢ 0) (map named es)
  no_zero_named = some_named es no_zeros

  of_account : ((p : PairKey) → finite.get balances p ≡ some_units (units_of balances p)) → map (under account) es ≡ filter (λ (e : PairKey × ℕ). same_bytes e.0.0 account) (finite.entries balances)
  of_account whole = same_entries pair_cmp pair_total pair_antisymmetric (map (under account) es) (filter (λ (e : PairKey × ℕ). same_bytes e.0.0 account) (finite.entries balances))
      (subst T (sym (sorted_is account es sorted)) tt)
      (is_sorted-where_key pair_cmp (λ p. same_bytes p.0 account) (finite.entries balances) (finite.entries_sorted balances))
      (λ p. find_under account p.0 p.1 es ∙ by p (same_bytes p.0 account) refl
      ∙ sym (find-where_key pair_cmp (λ p. same_bytes p.0 account) p (λ x tied. ap (λ (r : PairKey). same_bytes r.0 account) (sym (pair_antisymmetric p x tied))) (finite.entries balances)))
    where
      by : (p : PairKey) (s : Bool) → same_bytes p.0 account ≡ s → cond s (lookup (is_at (slice_cmp nat_cmp p.1)) es) None ≡ cond s (find pair_cmp p (finite.entries balances)) None
      by p true same = found p.1 ∙ ap (λ (a : List ℕ). some_units (units_of balances (a, p.1))) (sym (same_name_is p.0 account same)) ∙ sym (whole p) ∙ finite.get-entries balances p
      by p false apart = refl

  pub pairs_are : ((p : PairKey) → finite.get balances p ≡ some_units (units_of balances p)) → map named es ≡ map pair_at (filter (is_held_by account) (finite.entries balances))
  pairs_are whole =
      let kept : filter (λ (e : PairKey × ℕ). not (eqb e.1 0)) (filter (λ (e : PairKey × ℕ). same_bytes e.0.0 account) (finite.entries balances)) ≡ map (under account) es =
      ap (filter (λ (e : PairKey × ℕ). not (eqb e.1 0))) (sym (of_account whole)) ∙ all_kept account es no_zeros in
      sym (pairs_under account es) ∙ ap (map pair_at) (sym (filter_both (λ (e : PairKey × ℕ). same_bytes e.0.0 account) (λ (e : PairKey × ℕ). not (eqb e.1 0)) (finite.entries balances) ∙ kept))

  -- an account without units has none
  pub none_named : ((q : List ℕ) → units_of balances (account, q) ≡ 0) → map named es ≡ []
  none_named zero = ap (map named) (empty es found)
    where
      empty : (es : List (List ℕ × ℕ)) → ((q : List ℕ) → lookup (is_at (slice_cmp nat_cmp q)) es ≡ some_units (units_of balances (account, q))) → es ≡ []
      empty [] found = refl
      empty (e ∷ es) found =
          let itself : is_at (slice_cmp nat_cmp e.0) e.0 ≡ true = ap is_eq (tied_itself nat_list_cmp_total e.0) in
          let first : Some e.1 ≡ None = sym (ap (λ t. cond t (Some e.1) (lookup (is_at (slice_cmp nat_cmp e.0)) es)) itself) ∙ found e.0 ∙ ap some_units (zero e.0) in
          absurd (cc)
