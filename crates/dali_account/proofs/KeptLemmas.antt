use Rattle.std.proofs.Common.{◌≡◌, ℕ, ◌+◌, ◌≤◌, Bool, true, false, cond, ◌&&◌, List, [], ◌∷◌, ◌++◌, length, None, is_some, refl, sym, ap, ◌∙◌, subst, arith, true≢false}
use Rattle.std.proofs.lemmas.List.{length-append}
use Rattle.std.proofs.lemmas.List.Folds.{list_any-append}
use Rattle.std.proofs.lemmas.List.Sums.{sum_by_push}
use Rattle.std.proofs.lemmas.Map.Keys.{IsDistinct-push}
use Rattle.std.specs.Cmp.Lexicographic.{nat_list_eq_equiv}
use Rattle.std.specs.FinMap as map
use Rattle.std.specs.List.{IsDistinct}
use Rattle.std.specs.Prelude.{unwrap_or}
use Rattle.dali_base.specs.NameList.{NameList, with_name}
use Rattle.dali_account.proofs.AssetLemmas.{length-prices, price_after}
use Rattle.dali_account.specs.Units.{PairKey, Units, pair_cmp, units_of, with_units}
use Rattle.dali_account.specs.Book.{cash, has_account, has_asset, price_of, held}
use Rattle.dali_base.specs.Limits.{most_total}
use Rattle.dali_base.specs.Readers.{same_bytes}
use Rattle.dali_account.specs.Limits.{most_codes}
use Rattle.dali_account.specs.AssetList.{AssetList, prices, total_at}
use Rattle.dali_account.specs.BookKept.{IsBalanced}
use Rattle.dali_account.proofs.UnitsLemmas.{same_pair}
use Rattle.dali_account.proofs.SumLemmas.{same_name_is, same_name_symm, first_false, held_moved, held_other, units_other, term_le_sum}

-- a name that isn't there is another name than one that is
pub other_name : (accounts : List (List ℕ)) (a b : List ℕ) → has_account accounts a ≡ true → has_account accounts b ≡ false → same_bytes b a ≡ false
other_name accounts a b there absent = by (same_bytes b a) refl
  where
    by : (t : Bool) → same_bytes b a ≡ t → t ≡ false
    by false e = refl
    by true e = absurd (true≢false (sym there ∙ ap (has_account accounts) (sym (same_name_is b a e)) ∙ absent))

-- new numbers at a pair, with a total that changes as they do, keep the book balanced
module _ (accounts : List (List ℕ)) (old new : AssetList) (balances earmarks : Units) (account asset : List ℕ) (balance earmark total : ℕ)
    (kept : IsBalanced accounts old balances earmarks) (there : has_account accounts account ≡ true)
    (priced : prices new.listings ≡ prices old.listings)
    (set : (q : List ℕ) → total_at new q ≡ cond (same_bytes q asset) total (total_at old q))
    (moved : balance + earmark + held accounts balances earmarks asset ≡ units_of balances (account, asset) + units_of earmarks (account, asset) + total)
    (limited : total ≤ most_total) where
  sum_is : held accounts (with_units balances (account, asset) balance) (with_units earmarks (account, asset) earmark) asset ≡ total
  sum_is =
      let sums = held_moved accounts balances earmarks account asset balance earmark total (held accounts balances earmarks asset) moved kept.distinct there in
      omega (arith, sums)

  totals_kept : (q : List ℕ) → total_at new q ≡ held accounts (with_units balances (account, asset) balance) (with_units earmarks (account, asset) earmark) q
  totals_kept q = by (same_bytes q asset) refl
    where
      by : (b : Bool) → same_bytes q asset ≡ b → total_at new q ≡ held accounts (with_units balances (account, asset) balance) (with_units earmarks (account, asset) earmark) q
      by true e = set q ∙ ap (λ t. cond t total (total_at old q)) e ∙ sym sum_is
          ∙ ap (held accounts (with_units balances (account, asset) balance) (with_units earmarks (account, asset) earmark)) (sym (same_name_is q asset e))
      by false e = set q ∙ ap (λ t. cond t total (total_at old q)) e ∙ kept.totals q ∙ sym (held_other accounts balances earmarks account asset balance earmark q e)

  limit_kept : (q : List ℕ) → total_at new q ≤ most_total
  limit_kept q = let P : ℕ → Type 0 = λ n. n ≤ most_total in subst P (sym (set q)) (by (same_bytes q asset))
    where
      by : (b : Bool) → cond b total (total_at old q) ≤ most_total
      by true = limited
      by false = kept.limit q

  known_kept : (a q : List ℕ) → has_account accounts a ≡ false → units_of (with_units balances (account, asset) balance) (a, q) + units_of (with_units earmarks (account, asset) earmark) (a, q) ≡ 0
  known_kept a q absent =
      let apart : same_pair (a, q) (account, asset) ≡ false = ap (λ t. t && same_bytes q asset) (other_name accounts account a there absent) in
      let one : units_of (with_units balances (account, asset) balance) (a, q) ≡ units_of balances (a, q) = units_other balances (account, asset) balance (a, q) apart in
      let two : units_of (with_units earmarks (account, asset) earmark) (a, q) ≡ units_of earmarks (a, q) = units_other earmarks (account, asset) earmark (a, q) apart in
      let zero_before = kept.known a q absent in
      omega (arith, one, two, zero_before)

  length_kept : length new.listings ≤ most_codes
  length_kept =
      let same : length (prices new.listings) ≡ length (prices old.listings) = ap length priced in
      let fit = kept.codes_fit in
      omega (arith, same, length-prices new.listings, length-prices old.listings, fit)

  pub kept_moved : IsBalanced accounts new (with_units balances (account, asset) balance) (with_units earmarks (account, asset) earmark)
  kept_moved = record {
    distinct = kept.distinct;
    accounts_fit = kept.accounts_fit;
    codes_fit = length_kept;
    cash_apart = ap (λ ps. price_of ps cash) priced ∙ kept.cash_apart;
    totals = totals_kept;
    limit = limit_kept;
    known = known_kept;
  }

  -- the asset's total is the new one, and every other's stays
  pub total_moved : (q : List ℕ) → held accounts (with_units balances (account, asset) balance) (with_units earmarks (account, asset) earmark) q
      ≡ cond (same_bytes q asset) total (held accounts balances earmarks q)
  total_moved q = sym (totals_kept q) ∙ set q ∙ ap (cond (same_bytes q asset) total) (kept.totals q)

-- an account more keeps the book balanced
pub kept_account : (names : NameList) (assets : AssetList) (balances earmarks : Units) (account : List ℕ) → IsBalanced names.names assets balances earmarks → length names.names + 1 ≤ most_codes →
    IsBalanced (with_name names account).names assets balances earmarks
kept_account names assets balances earmarks account kept fit = by (has_account names.names account) refl
  where
    by : (b : Bool) → has_account names.names account ≡ b → IsBalanced (cond b names (record { names = names.names ++ account ∷ []; readied = None })).names assets balances earmarks
    by true told = kept
    by false told = record {
      distinct = IsDistinct-push nat_list_eq_equiv names.names account kept.distinct told;
      accounts_fit = omega (arith, length-append names.names (account ∷ []), fit);
      codes_fit = kept.codes_fit;
      cash_apart = kept.cash_apart;
      totals = λ q.
          let pushed = sum_by_push (λ x. units_of balances (x, q) + units_of earmarks (x, q)) names.names account in
          let none = kept.known account q told in
          let before = kept.totals q in
          omega (arith, pushed, none, before);
      limit = kept.limit;
      known = λ a q absent. kept.known a q (first_false (has_account names.names a) (has_account (account ∷ []) a) (sym (list_any-append (same_bytes a) names.names (account ∷ [])) ∙ absent));
    }

-- and every total as it was
pub held_account : (names : NameList) (assets : AssetList) (balances earmarks : Units) (account : List ℕ) → IsBalanced names.names assets balances earmarks → (q : List ℕ) →
    held (with_name names account).names balances earmarks q ≡ held names.names balances earmarks q
held_account names assets balances earmarks account kept q = by (has_account names.names account) refl
  where
    by : (b : Bool) → has_account names.names account ≡ b → held (cond b names (record { names = names.names ++ account ∷ []; readied = None })).names balances earmarks q ≡ held names.names balances earmarks q
    by true told = refl
    by false told =
        let pushed = sum_by_push (λ x. units_of balances (x, q) + units_of earmarks (x, q)) names.names account in
        let none = kept.known account q told in
        omega (arith, pushed, none)

-- a code more keeps the book balanced
pub kept_code : (accounts : List (List ℕ)) (old new : AssetList) (balances earmarks : Units) (code : List ℕ) (price : ℕ) → IsBalanced accounts old balances earmarks →
    has_asset (prices old.listings) code ≡ false → length old.listings + 1 ≤ most_codes → prices new.listings ≡ prices old.listings ++ (code, price) ∷ [] →
    ((q : List ℕ) → total_at new q ≡ total_at old q) → IsBalanced accounts new balances earmarks
kept_code accounts old new balances earmarks code price kept absent fit priced same = record {
  distinct = kept.distinct;
  accounts_fit = kept.accounts_fit;
  codes_fit =
      let more : length (prices new.listings) ≡ length (prices old.listings ++ (code, price) ∷ []) = ap length priced in
      omega (arith, more, length-append (prices old.listings) ((code, price) ∷ []), length-prices new.listings, length-prices old.listings, fit);
  cash_apart = ap (λ ps. price_of ps cash) priced
      ∙ price_after (prices old.listings) code price cash kept.cash_apart (same_name_symm cash code ∙ first_false (same_bytes code cash) (is_some (price_of (prices old.listings) code)) absent);
  totals = λ q. same q ∙ kept.totals q;
  limit = λ q. let P : ℕ → Type 0 = λ n. n ≤ most_total in subst P (sym (same q)) (kept.limit q);
  known = kept.known;
}

distinct_none : IsDistinct same_bytes []
unfolding IsDistinct
distinct_none = tt

totals_none : (b : Bool) → ◌≡◌ {A = ℕ} (cond b 0 0) 0
totals_none true = refl
totals_none false = refl

no_units : (q : PairKey) → units_of map.empty q ≡ 0
no_units q = ap (λ o. unwrap_or o 0) (map.get-empty pair_cmp q)

-- a book without accounts, codes and units is balanced
pub kept_new : IsBalanced [] (record { listings = []; cash_total = 0; readied = None }) map.empty map.empty
kept_new = record {
  distinct = distinct_none;
  accounts_fit = omega arith;
  codes_fit = omega arith;
  cash_apart = refl;
  totals = λ q. totals_none (same_bytes q cash);
  limit = λ q. let P : ℕ → Type 0 = λ n. n ≤ most_total in subst P (sym (totals_none (same_bytes q cash))) (omega arith);
  known = λ a q absent. let none = no_units (a, q) in omega (arith, none);
}

-- a pair's numbers together are at most the asset's total
pub units_le_held : (accounts : List (List ℕ)) (assets : AssetList) (balances earmarks : Units) (account asset : List ℕ) → IsBalanced accounts assets balances earmarks →
    units_of balances (account, asset) + units_of earmarks (account, asset) ≤ held accounts balances earmarks asset
units_le_held accounts assets balances earmarks account asset kept = by (has_account accounts account) refl
  where
    by : (b : Bool) → has_account accounts account ≡ b → units_of balances (account, asset) + units_of earmarks (account, asset) ≤ held accounts balances earmarks asset
    by true told = term_le_sum (λ x. units_of balances (x, asset) + units_of earmarks (x, asset)) account accounts told
    by false told = let none = kept.known account asset told in omega (arith, none)
