use Rattle.std.proofs.Common.{◌≡◌, ℕ, Bool, true, false, cond, ◌||◌, List, [], ◌∷◌, ◌++◌, length, suc, Option, Some, None, is_some, refl, sym, ap, ◌∙◌, subst, true≢false}
use Rattle.std.specs.Option.{option_map, option_map_or}
use Rattle.std.specs.Map.{lookup, set_value}
use Rattle.dali_base.specs.Readers.{same_bytes}
use Rattle.dali_account.specs.declared.assets.Listing.{Listing}
use Rattle.dali_account.specs.Book.{cash, price_of, has_asset}
use Rattle.dali_account.specs.AssetList.{prices}
use Rattle.dali_account.proofs.SumLemmas.{same_name_is, second_false}

pub lookup-prices : (test : List ℕ → Bool) (es : List (List ℕ × Listing)) → lookup test (prices es) ≡ option_map (λ (l : Listing). l.price) (lookup test es)
lookup-prices test [] = refl
lookup-prices test (e ∷ es) = by (test e.0) (lookup-prices test es)
  where
    by : (b : Bool) → lookup test (prices es) ≡ option_map (λ (l : Listing). l.price) (lookup test es) →
        cond b (Some e.1.price) (lookup test (prices es)) ≡ option_map (λ (l : Listing). l.price) (cond b (Some e.1) (lookup test es))
    by true rest = refl
    by false rest = rest

pub found_price : (es : List (List ℕ × Listing)) (code : List ℕ) (o : Option Listing) → o ≡ lookup (same_bytes code) es → option_map (λ (l : Listing). l.price) o ≡ price_of (prices es) code
found_price es code o found = ap (option_map (λ (l : Listing). l.price)) found ∙ sym (lookup-prices (same_bytes code) es)

pub length-prices : (es : List (List ℕ × Listing)) → length (prices es) ≡ length es
length-prices [] = refl
length-prices (e ∷ es) = ap suc (length-prices es)

pub prices-append : (es : List (List ℕ × Listing)) (code : List ℕ) (l : Listing) → prices (es ++ (code, l) ∷ []) ≡ prices es ++ (code, l.price) ∷ []
prices-append [] code l = refl
prices-append (e ∷ es) code l = ap (λ rest. (e.0, e.1.price) ∷ rest) (prices-append es code l)

-- another code behind leaves a code unknown
pub price_after : (codes : List (List ℕ × ℕ)) (code : List ℕ) (price : ℕ) (other : List ℕ) → price_of codes other ≡ None → same_bytes other code ≡ false → price_of (codes ++ (code, price) ∷ []) other ≡ None
price_after [] code price other none apart = ap (λ t. cond t (Some price) None) apart
price_after (c ∷ cs) code price other none apart = by (same_bytes other c.0) none (price_after cs code price other)
  where
    by : (b : Bool) → cond b (Some c.1) (price_of cs other) ≡ None → (price_of cs other ≡ None → same_bytes other code ≡ false → price_of (cs ++ (code, price) ∷ []) other ≡ None) →
        cond b (Some c.1) (price_of (cs ++ (code, price) ∷ []) other) ≡ None
    by true some rest = absurd (true≢false (ap is_some some))
    by false later rest = rest later apart

-- a listing with the same price leaves the prices
pub prices-set_value : (test : List ℕ → Bool) (es : List (List ℕ × Listing)) (l w : Listing) → lookup test es ≡ Some l → w.price ≡ l.price → prices (set_value test es w) ≡ prices es
prices-set_value test [] l w found same = refl
prices-set_value test (e ∷ es) l w found same = by (test e.0) refl (prices-set_value test es l w)
  where
    by : (b : Bool) → test e.0 ≡ b → (lookup test es ≡ Some l → w.price ≡ l.price → prices (set_value test es w) ≡ prices es) →
        prices (cond b ((e.0, w) ∷ es) (e ∷ set_value test es w)) ≡ (e.0, e.1.price) ∷ prices es
    by true told rest =
        let first : Some e.1 ≡ Some l = sym (ap (λ t. cond t (Some e.1) (lookup test es)) told) ∙ found in
        let is : e.1 ≡ l = cc in
        ap (λ n. (e.0, n) ∷ prices es) (same ∙ ap (λ (m : Listing). m.price) (sym is))
    by false told rest =
        let later : lookup test es ≡ Some l = sym (ap (λ t. cond t (Some e.1) (lookup test es)) told) ∙ found in
        ap (λ r. (e.0, e.1.price) ∷ r) (rest later same)

none_of : (o : Option Listing) → is_some (option_map (λ (l : Listing). l.price) o) ≡ false → o ≡ None
none_of None e = refl
none_of (Some l) e = absurd (true≢false e)

-- an asset that isn't there has no listing
pub no_listing : (es : List (List ℕ × Listing)) (asset : List ℕ) → has_asset (prices es) asset ≡ false → lookup (same_bytes asset) es ≡ None
no_listing es asset absent =
    none_of (lookup (same_bytes asset) es)
    (sym (ap is_some (lookup-prices (same_bytes asset) es)) ∙ second_false (same_bytes asset cash) (is_some (price_of (prices es) asset)) absent)

-- and one that is there, and isn't cash, has one
pub no_asset : (es : List (List ℕ × Listing)) (asset : List ℕ) → same_bytes asset cash ≡ false → None ≡ lookup (same_bytes asset) es → has_asset (prices es) asset ≡ false
no_asset es asset other none =
    ap (λ t. t || is_some (price_of (prices es) asset)) other ∙ ap is_some (sym (found_price es asset None none))

-- a new listing of no units leaves each total
pub same_total : (es fs : List (List ℕ × Listing)) (code asset : List ℕ) (l : Listing) → l.total ≡ 0 → lookup (same_bytes code) es ≡ None →
    lookup (same_bytes asset) fs ≡ cond (same_bytes code asset) (Some l) (lookup (same_bytes asset) es) →
    option_map_or (λ (m : Listing). m.total) (lookup (same_bytes asset) fs) 0 ≡ option_map_or (λ (m : Listing). m.total) (lookup (same_bytes asset) es) 0
same_total es fs code asset l empty none updated = ap (λ o. option_map_or (λ (m : Listing). m.total) o 0) updated ∙ by (same_bytes code asset) refl
  where
    by : (b : Bool) → same_bytes code asset ≡ b → option_map_or (λ (m : Listing). m.total) (cond b (Some l) (lookup (same_bytes asset) es)) 0 ≡ option_map_or (λ (m : Listing). m.total) (lookup (same_bytes asset) es) 0
    by true told =
        let gone : lookup (same_bytes asset) es ≡ None = subst (λ n. lookup (same_bytes n) es ≡ None) (same_name_is code asset told) none in
        empty ∙ sym (ap (λ o. option_map_or (λ (m : Listing). m.total) o 0) gone)
    by false told = refl
