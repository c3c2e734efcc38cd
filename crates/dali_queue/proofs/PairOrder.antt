use Rattle.std.proofs.Common.{◌≡◌, Bool, true, false, T, ◌&&◌, ◌||◌, true≢false, List, [], ◌∷◌, map, is_some, refl, sym, ap, ◌∙◌, subst}
use Rattle.std.specs.FinMap as finite
use Rattle.std.specs.FinMap.Entries.{is_sorted, below_all, is_some-find}
use Rattle.std.specs.List.{AllByRecursion, list_any}
use Rattle.std.specs.List.Sorted.{IsStrictlySortedBy}
use Rattle.std.specs.Ordering.{is_lt, eq_by_cmp}
use Rattle.std.specs.declared.cmp.Ordering.{Ordering}
use Rattle.std.specs.declared.cmp.Ordering.TheVariants.{Less, Equal, Greater}
use Rattle.dali_base.specs.Readers.{same_bytes}
use Rattle.dali_account.specs.Units.{PairKey, pair_cmp}
use Rattle.dali_account.proofs.SumLemmas.{same_name_refl, first_true, second_from_first, first_false, second_false}
use Rattle.dali_account.proofs.UnitsLemmas.{pair_total, pair_ties, same_pair_is}
use Rattle.dali_queue.specs.NetOf.{in_order}

-- equality of pairs, by their order
abbrev pub tied : PairKey → PairKey → Bool
tied p q = eq_by_cmp pair_cmp p q

pub tied_itself : (p : PairKey) → tied p p ≡ true
tied_itself p = sym (pair_ties p p) ∙ ap (λ t. t && same_bytes p.1 p.1) (same_name_refl p.0) ∙ same_name_refl p.1

pub tied_is : (p q : PairKey) → tied p q ≡ true → p ≡ q
tied_is p q told = same_pair_is p q (pair_ties p q ∙ told)

told : (b : Bool) → T b → b ≡ true
told true h = refl
told false h = absurd h

less : (o : Ordering) → is_lt o ≡ true → o ≡ Less
less Less h = refl
less Equal h = absurd (true≢false (sym h))
less Greater h = absurd (true≢false (sym h))

-- a map's keys rise
below_keys : {X : Type 0} (x : PairKey) (es : List (PairKey × X)) → below_all pair_cmp x es ≡ true → AllByRecursion (λ q. pair_cmp x q ≡ Less) (map (λ e. e.0) es)
below_keys x [] h = tt
below_keys x (e ∷ es) h = (less (pair_cmp x e.0) (first_true (is_lt (pair_cmp x e.0)) (below_all pair_cmp x es) h), below_keys x es (second_from_first (is_lt (pair_cmp x e.0)) (below_all pair_cmp x es) h))

sorted_keys : {X : Type 0} (es : List (PairKey × X)) → is_sorted pair_cmp es ≡ true → IsStrictlySortedBy pair_cmp (map (λ e. e.0) es)
unfolding IsStrictlySortedBy
sorted_keys [] h = tt
sorted_keys (e ∷ es) h = (below_keys e.0 es (first_true (below_all pair_cmp e.0 es) (is_sorted pair_cmp es) h), sorted_keys es (second_from_first (below_all pair_cmp e.0 es) (is_sorted pair_cmp es) h))

or_right : (a b : Bool) → b ≡ true → (a || b) ≡ true
or_right true b h = refl
or_right false b h = h

-- a fact of all that ties with one of the pairs holds of each of them
pub all_of : (Q : PairKey → Type 0) (ps : List PairKey) → ((q : PairKey) → list_any (tied q) ps ≡ true → Q q) → AllByRecursion Q ps
all_of Q [] h = tt
all_of Q (p ∷ ps) h = (h p (ap (λ t. t || list_any (tied p) ps) (tied_itself p)), all_of Q ps (λ q e. h q (or_right (tied q p) (list_any (tied q) ps) e)))

-- and the other way round
pub any_of : (Q : PairKey → Type 0) (ps : List PairKey) → AllByRecursion Q ps → (q : PairKey) → list_any (tied q) ps ≡ true → Q q
any_of Q [] h q e = absurd (true≢false (sym e))
any_of Q (p ∷ ps) h q e = by (tied q p) refl e (any_of Q ps h.1 q)
  where
    by : (b : Bool) → tied q p ≡ b → (b || list_any (tied q) ps) ≡ true → (list_any (tied q) ps ≡ true → Q q) → Q q
    by true same h2 rest = subst Q (sym (tied_is q p same)) h.0
    by false same h2 rest = rest h2

pub none_of : (f : PairKey → Bool) (ps : List PairKey) → list_any f ps ≡ false → AllByRecursion (λ p. f p ≡ false) ps
none_of f [] e = tt
none_of f (p ∷ ps) e = (first_false (f p) (list_any f ps) e, none_of f ps (second_false (f p) (list_any f ps) e))

-- pairs in order are the same pairs, and rise
pub in_order_same : (ps : List PairKey) (q : PairKey) → list_any (tied q) (in_order ps) ≡ list_any (tied q) ps
in_order_same ps q =
    let entries : List (PairKey × Unit {0}) = map (λ (pair : PairKey). (pair, tt {0})) ps in
    sym (finite.contains_key-keys (finite.from_entries {R = pair_cmp} entries) q)
    ∙ ap is_some (finite.get-from_entries pair_total entries q) ∙ is_some-find pair_cmp q entries ∙ firsts ps
  where
    firsts : (qs : List PairKey) → list_any (tied q) (map (λ (e : PairKey × Unit {0}). e.0) (map (λ (pair : PairKey). (pair, tt {0})) qs)) ≡ list_any (tied q) qs
    firsts [] = refl
    firsts (r ∷ rs) = ap (λ t. tied q r || t) (firsts rs)

pub in_order_rises : (ps : List PairKey) → IsStrictlySortedBy pair_cmp (in_order ps)
in_order_rises ps =
    let entries : List (PairKey × Unit {0}) = map (λ (pair : PairKey). (pair, tt {0})) ps in
    let m : finite.FinMap pair_cmp (Unit {0}) = finite.from_entries {R = pair_cmp} entries in
    sorted_keys (finite.entries m) (told (is_sorted pair_cmp (finite.entries m)) (finite.entries_sorted m))
