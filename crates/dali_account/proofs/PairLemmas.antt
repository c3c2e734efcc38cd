use Rattle.std.proofs.Common.{◌≡◌, ◌≢◌, ℕ, ◌+◌, suc, Bool, true, false, cond, ◌&&◌, ◌||◌, not, List, [], ◌∷◌, drop, drop-cons, add-one, Option, Some, None, refl, sym, ap, ◌∙◌, eqb, arith, true≢false}
use Rattle.std.specs.Prelude.{slice_get}
use Rattle.std.specs.Option.{option_map_or}
use Rattle.std.specs.Map.{lookup, keys_of}
use Rattle.std.proofs.lemmas.Bool.Decides.{nat_tests}
use Rattle.std.proofs.lemmas.Option.{slice_get_within, get_or_from_slice_get}
use Rattle.dali_base.specs.Readers.{same_bytes}
use Rattle.dali_account.specs.declared.assets.Listing.{Listing}
use Rattle.dali_account.specs.Units.{Units, units_of, some_units}
use Rattle.dali_account.specs.Book.{cash, has_account}
use Rattle.dali_account.specs.AssetList.{AssetList, total_at}
use Rattle.dali_account.specs.BookKept.{IsBalanced}
use Rattle.dali_account.proofs.SumLemmas.{same_name_is, same_name_symm, first_false, second_false}
use Rattle.dali_account.proofs.KeptLemmas.{units_le_held}

-- balances by asset
abbrev pub Found : Type 0
Found = List ℕ → Option ℕ

-- the balance under the asset, unless it is 0
abbrev pub found_with : Found → List ℕ → ℕ → Found
found_with found asset balance other = cond (same_bytes asset other && not (eqb balance 0)) (Some balance) (found other)

-- the balances other than 0 are found, but for the assets still to come
pub record IsFoundBut (balance : List ℕ → ℕ) (rest : List (List ℕ)) (found : Found) : Type 0 where
  pub done : (q : List ℕ) → has_account rest q ≡ false → found q ≡ some_units (balance q)
  pub none : (q : List ℕ) → balance q ≡ 0 → found q ≡ None

zero_is : (n : ℕ) → eqb n 0 ≡ true → n ≡ 0
zero_is n e = grind (arith, nat_tests)

nothing_of : (n : ℕ) → n ≡ 0 → some_units n ≡ None
nothing_of n e = ap some_units e

module _ (balance : List ℕ → ℕ) (found now : Found) (asset : List ℕ) (put : (q : List ℕ) → now q ≡ found_with found asset (balance asset) q)
    (none : (q : List ℕ) → balance q ≡ 0 → found q ≡ None) where
  none_now : (q : List ℕ) → balance q ≡ 0 → now q ≡ None
  none_now q zero = put q ∙ by (same_bytes asset q) (eqb (balance asset) 0) refl refl
    where
      by : (s t : Bool) → same_bytes asset q ≡ s → eqb (balance asset) 0 ≡ t → cond (s && not t) (Some (balance asset)) (found q) ≡ None
      by true true same told = none q zero
      by true false same told =
          let is : balance asset ≡ balance q = ap balance (same_name_is asset q same) in
          absurd (true≢false (sym (ap (λ n. eqb n 0) (is ∙ zero)) ∙ told))
      by false t same told = none q zero

  own_now : (q : List ℕ) → same_bytes asset q ≡ true → now q ≡ some_units (balance q)
  own_now q same = put q ∙ ap (λ s. cond (s && not (eqb (balance asset) 0)) (Some (balance asset)) (found q)) same ∙ by (eqb (balance asset) 0) refl
      ∙ ap (λ (r : List ℕ). some_units (balance r)) (same_name_is asset q same)
    where
      by : (t : Bool) → eqb (balance asset) 0 ≡ t → cond (not t) (Some (balance asset)) (found q) ≡ cond t None (Some (balance asset))
      by true told = none q (ap balance (sym (same_name_is asset q same)) ∙ zero_is (balance asset) told)
      by false told = refl

  other_now : (q : List ℕ) → same_bytes asset q ≡ false → now q ≡ found q
  other_now q apart = put q ∙ ap (λ s. cond (s && not (eqb (balance asset) 0)) (Some (balance asset)) (found q)) apart

  -- one asset less is to come
  pub found_more : (rest : List (List ℕ)) → ((q : List ℕ) → has_account (asset ∷ rest) q ≡ false → found q ≡ some_units (balance q)) → IsFoundBut balance rest now
  found_more rest done = record {
    done = λ q absent. by q absent (same_bytes asset q) refl;
    none = none_now;
  }
    where
      by : (q : List ℕ) → has_account rest q ≡ false → (b : Bool) → same_bytes asset q ≡ b → now q ≡ some_units (balance q)
      by q absent true same = own_now q same
      by q absent false apart = other_now q apart ∙ done q (ap (λ t. t || has_account rest q) (same_name_symm q asset ∙ apart) ∙ absent)

-- a test of a number that isn't 0
pub unless_zero : (s : Bool) (n : ℕ) → n ≢ 0 → (s && not (eqb n 0)) ≡ s
unless_zero s n some = by (eqb n 0) refl s
  where
    by : (t : Bool) → eqb n 0 ≡ t → (s : Bool) → (s && not t) ≡ s
    by true told s = absurd (some (zero_is n told))
    by false told true = refl
    by false told false = refl

-- the rest begins with the name at the place
pub rest_at : (names : List (List ℕ)) (i : ℕ) (x : List ℕ) → slice_get names i ≡ Some x → drop i names ≡ x ∷ drop (i + 1) names
rest_at names i x is = drop-cons names i x (slice_get_within names i x is) ∙ ap (λ y. y ∷ drop (suc i) names) (get_or_from_slice_get names i x x is) ∙ ap (λ k. x ∷ drop k names) (sym (add-one i))

no_listing_among : (es : List (List ℕ × Listing)) (q : List ℕ) → has_account (keys_of es) q ≡ false → lookup (same_bytes q) es ≡ None
no_listing_among [] q absent = refl
no_listing_among (e ∷ es) q absent =
    ap (λ t. cond t (Some e.1) (lookup (same_bytes q) es)) (first_false (same_bytes q e.0) (has_account (keys_of es) q) absent)
    ∙ no_listing_among es q (second_false (same_bytes q e.0) (has_account (keys_of es) q) absent)

-- nobody holds units of an asset that isn't there
pub no_units_under : (accounts : List (List ℕ)) (assets : AssetList) (balances earmarks : Units) → IsBalanced accounts assets balances earmarks → (account q : List ℕ) →
    has_account (cash ∷ keys_of assets.listings) q ≡ false → units_of balances (account, q) ≡ 0
no_units_under accounts assets balances earmarks kept account q absent =
    let apart : same_bytes q cash ≡ false = first_false (same_bytes q cash) (has_account (keys_of assets.listings) q) absent in
    let listed : lookup (same_bytes q) assets.listings ≡ None = no_listing_among assets.listings q (second_false (same_bytes q cash) (has_account (keys_of assets.listings) q) absent) in
    let none : total_at assets q ≡ 0 =
    ap (λ t. cond t assets.cash_total (option_map_or (λ (l : Listing). l.total) (lookup (same_bytes q) assets.listings) 0)) apart ∙ ap (λ o. option_map_or (λ (l : Listing). l.total) o 0) listed in
    let within = units_le_held accounts assets balances earmarks account q kept in
    let sums = kept.totals q in
    omega (arith, none, within, sums)

-- before the first asset
pub found_start : (accounts : List (List ℕ)) (assets : AssetList) (balances earmarks : Units) → IsBalanced accounts assets balances earmarks → (account : List ℕ) (empty now : Found) →
    ((q : List ℕ) → empty q ≡ None) → ((q : List ℕ) → now q ≡ found_with empty cash (units_of balances (account, cash)) q) →
    IsFoundBut (λ q. units_of balances (account, q)) (keys_of assets.listings) now
found_start accounts assets balances earmarks kept account empty now nothing put =
    found_more (λ q. units_of balances (account, q)) empty now cash put (λ q zero. nothing q) (keys_of assets.listings)
    (λ q absent. nothing q ∙ sym (nothing_of (units_of balances (account, q)) (no_units_under accounts assets balances earmarks kept account q absent)))
