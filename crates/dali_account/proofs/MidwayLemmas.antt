use Rattle.std.proofs.Common.{◌≡◌, ℕ, ◌+◌, ◌*◌, ◌≤◌, ◌<◌, ℤ, pos, negsuc, ◌+ℤ◌, ◌≤ℤ◌, Bool, true, false, cond, ◌&&◌, List, [], ◌∷◌, refl, sym, ap, ◌∙◌, subst, arith, suc, length, get_or, drop, drop-cons, add-one}
use Rattle.std.proofs.lemmas.Int.{ints}
use Rattle.std.proofs.lemmas.List.Sums.{sum_by-cons, sum_by-le-sum_by}
use Rattle.std.specs.Prelude.{sum_by, All}
use Rattle.std.specs.Int.{FitsUnsigned, w64}
use Rattle.std.specs.List.{IsDistinct}
use Rattle.dali_account.specs.declared.net.Move.{Move}
use Rattle.dali_account.specs.Units.{PairKey, Units, units_of}
use Rattle.dali_account.specs.Book.{cash, has_account, has_asset, price_of, held}
use Rattle.dali_base.specs.Limits.{most_total}
use Rattle.dali_base.specs.Readers.{same_bytes}
use Rattle.dali_account.specs.AssetList.{AssetList, prices, total_at}
use Rattle.dali_account.specs.BookKept.{IsBalanced}
use Rattle.dali_account.specs.Net.{IsNet, pair_of, after_move, with_move, with_net, asset_delta}
use Rattle.dali_account.proofs.UnitsLemmas.{same_pair}
use Rattle.dali_account.proofs.SumLemmas.{same_name_is, sum_same, units_same, units_other, term_le_sum}
use Rattle.dali_account.proofs.AssetLemmas.{length-prices}
use Rattle.dali_account.proofs.KeptLemmas.{other_name}
use Rattle.dali_account.proofs.PostLemmas.{Ready, ready_start, ready_more, between, gain, loss, after_balance, after_from_balance, held_after, held_net}

-- a net is posted but for the rest
pub record Midway (accounts : List (List ℕ)) (codes : List (List ℕ × ℕ)) (earmarks : Units) (assets : AssetList) (start now : Units) (net rest : List Move) : Type 0 where
  pub distinct : IsDistinct same_bytes accounts
  pub limit_start : (q : List ℕ) → held accounts start earmarks q ≤ most_total
  pub limit_end : (q : List ℕ) → held accounts (with_net start net) earmarks q ≤ most_total
  pub summed : (q : List ℕ) → pos (held accounts (with_net start net) earmarks q) ≡ pos (held accounts start earmarks q) +ℤ asset_delta net q
  pub priced : prices assets.listings ≡ codes
  pub result : with_net now rest ≡ with_net start net
  pub between : (p : PairKey) → units_of now p ≤ units_of start p + units_of (with_net now rest) p
  pub totals : (q : List ℕ) → total_at assets q ≡ held accounts now earmarks q
  pub known : (a q : List ℕ) → has_account accounts a ≡ false → units_of now (a, q) + units_of earmarks (a, q) ≡ 0
  pub ready : Ready accounts codes now rest

fits : (n : ℕ) (delta : ℤ) → pos 0 ≤ℤ (pos n +ℤ delta) → after_move n delta ≤ 2 * most_total → FitsUnsigned w64 (pos n +ℤ delta)
fits n (pos k) h bound = let b = after_balance n (pos k) h in (h, omega (arith, ints, b, bound))
fits n (negsuc k) h bound = let b = after_balance n (negsuc k) h in (h, omega (arith, ints, b, bound))

not_negative : (n m : ℕ) (delta : ℤ) → m + loss delta ≡ n + gain delta → pos 0 ≤ℤ (pos n +ℤ delta)
not_negative n m (pos k) h = omega (arith, ints, h)
not_negative n m (negsuc k) h = omega (arith, ints, h)

sum_both : (f g : List ℕ → ℕ) (xs : List (List ℕ)) → sum_by (λ x. f x + g x) xs ≡ sum_by f xs + sum_by g xs
sum_both f g [] = refl
sum_both f g (x ∷ xs) =
    let rest = sum_both f g xs in
    omega (arith, rest, sum_by-cons (λ y. f y + g y) x xs, sum_by-cons f x xs, sum_by-cons g x xs)

module _ (accounts : List (List ℕ)) (codes : List (List ℕ × ℕ)) (earmarks : Units) (assets : AssetList) (start now : Units) (net : List Move) (x : Move) (ms : List Move)
    (mid : Midway accounts codes earmarks assets start now net (x ∷ ms)) where
  -- the units after the move are at most those before and after the net together
  bounded : (p : PairKey) → units_of (with_move now x) p ≤ units_of start p + units_of (with_net start net) p
  bounded p =
      let step = between ms start now x mid.ready.3 mid.between p in
      let same : units_of (with_net (with_move now x) ms) p ≡ units_of (with_net start net) p = ap (λ m. units_of m p) mid.result in
      omega (arith, step, same)

  bounded_sum : (q : List ℕ) → held accounts (with_move now x) earmarks q ≤ 2 * most_total
  bounded_sum q =
      let f : List ℕ → ℕ = λ a. units_of start (a, q) + units_of earmarks (a, q) in
      let g : List ℕ → ℕ = λ a. units_of (with_net start net) (a, q) + units_of earmarks (a, q) in
      let below : held accounts (with_move now x) earmarks q ≤ sum_by (λ a. f a + g a) accounts =
      sum_by-le-sum_by (λ a. units_of (with_move now x) (a, q) + units_of earmarks (a, q)) (λ a. f a + g a) accounts (λ a. let b = bounded (a, q) in omega (arith, b)) in
      let first = mid.limit_start q in
      let last = mid.limit_end q in
      omega (arith, below, sum_both f g accounts, first, last)

  own : units_of (with_move now x) (pair_of x) ≡ after_move (units_of now (pair_of x)) x.delta
  own = units_same now (pair_of x) (after_move (units_of now (pair_of x)) x.delta)

  pub units_fit : FitsUnsigned w64 (pos (units_of now (pair_of x)) +ℤ x.delta)
  units_fit =
      let term = term_le_sum (λ a. units_of (with_move now x) (a, x.asset) + units_of earmarks (a, x.asset)) x.account accounts mid.ready.0 in
      let sums = bounded_sum x.asset in
      let mine = own in
      fits (units_of now (pair_of x)) x.delta mid.ready.2 (omega (arith, term, sums, mine))

  moved_total : held accounts (with_move now x) earmarks x.asset + loss x.delta ≡ total_at assets x.asset + gain x.delta
  moved_total =
      let moved = held_after accounts now earmarks x mid.distinct mid.ready.0 mid.ready.2 in
      let before = mid.totals x.asset in
      omega (arith, moved, before)

  new_total : after_move (total_at assets x.asset) x.delta ≡ held accounts (with_move now x) earmarks x.asset
  new_total = after_from_balance (total_at assets x.asset) (held accounts (with_move now x) earmarks x.asset) x.delta moved_total

  pub total_fits : FitsUnsigned w64 (pos (total_at assets x.asset) +ℤ x.delta)
  total_fits =
      let sums = bounded_sum x.asset in
      let is = new_total in
      fits (total_at assets x.asset) x.delta (not_negative (total_at assets x.asset) (held accounts (with_move now x) earmarks x.asset) x.delta moved_total) (omega (arith, sums, is))

  and_last : (s t : Bool) → t ≡ false → (s && t) ≡ false
  and_last true t e = e
  and_last false t e = refl

  -- after the move
  pub midway_more : (new : AssetList) → prices new.listings ≡ prices assets.listings →
      ((q : List ℕ) → total_at new q ≡ cond (same_bytes q x.asset) (after_move (total_at assets x.asset) x.delta) (total_at assets q)) →
      Midway accounts codes earmarks new start (with_move now x) net ms
  midway_more new priced set = record {
    distinct = mid.distinct;
    limit_start = mid.limit_start;
    limit_end = mid.limit_end;
    summed = mid.summed;
    priced = priced ∙ mid.priced;
    result = mid.result;
    between = between ms start now x mid.ready.3 mid.between;
    totals = totals;
    known = λ a q absent.
        let apart : same_pair (a, q) (pair_of x) ≡ false = ap (λ t. t && same_bytes q x.asset) (other_name accounts x.account a mid.ready.0 absent) in
        let same : units_of (with_move now x) (a, q) ≡ units_of now (a, q) = units_other now (pair_of x) (after_move (units_of now (pair_of x)) x.delta) (a, q) apart in
        let before = mid.known a q absent in
        omega (arith, same, before);
    ready = ready_more accounts codes now x ms mid.ready.3 mid.ready.4;
  }
    where
      totals : (q : List ℕ) → total_at new q ≡ held accounts (with_move now x) earmarks q
      totals q = by (same_bytes q x.asset) refl
        where
          by : (b : Bool) → same_bytes q x.asset ≡ b → total_at new q ≡ held accounts (with_move now x) earmarks q
          by true e = set q ∙ ap (λ t. cond t (after_move (total_at assets x.asset) x.delta) (total_at assets q)) e ∙ new_total
              ∙ ap (held accounts (with_move now x) earmarks) (sym (same_name_is q x.asset e))
          by false e = set q ∙ ap (λ t. cond t (after_move (total_at assets x.asset) x.delta) (total_at assets q)) e ∙ mid.totals q
              ∙ sym (sum_same (λ a. units_of now (a, q) + units_of earmarks (a, q)) (λ a. units_of (with_move now x) (a, q) + units_of earmarks (a, q)) accounts
              (λ a. let same : units_of (with_move now x) (a, q) ≡ units_of now (a, q) =
              units_other now (pair_of x) (after_move (units_of now (pair_of x)) x.delta) (a, q) (and_last (same_bytes a x.account) (same_bytes q x.asset) e) in
              omega (arith, same)))

-- the rest begins with the move at the index
pub next_rest : (items : List Move) (i : ℕ) (x : Move) → i < length items → x ≡ get_or items i x → drop i items ≡ x ∷ drop (i + 1) items
next_rest items i x lt is = drop-cons items i x lt ∙ ap (λ y. y ∷ drop (suc i) items) (sym is) ∙ ap (λ k. x ∷ drop k items) (sym (add-one i))

-- before the first move
pub midway_start : (accounts : List (List ℕ)) (assets : AssetList) (earmarks start : Units) (net : List Move) → IsBalanced accounts assets start earmarks → IsNet net →
    All (λ (m : Move). (has_account accounts m.account && has_asset (prices assets.listings) m.asset) ≡ true) net →
    All (λ (m : Move). pos 0 ≤ℤ (pos (units_of start (pair_of m)) +ℤ m.delta)) net →
    ((q : List ℕ) → held accounts (with_net start net) earmarks q ≤ most_total) →
    Midway accounts (prices assets.listings) earmarks assets start start net net
midway_start accounts assets earmarks start net kept is_net known covered limit =
    let ready = ready_start accounts (prices assets.listings) start net is_net.rising known covered in record {
      distinct = kept.distinct;
      limit_start = λ q. let P : ℕ → Type 0 = λ n. n ≤ most_total in subst P (kept.totals q) (kept.limit q);
      limit_end = limit;
      summed = λ q. held_net accounts (prices assets.listings) earmarks q kept.distinct net start ready;
      priced = refl;
      result = refl;
      between = λ p. omega arith;
      totals = kept.totals;
      known = kept.known;
      ready = ready;
    }

-- after the last move
pub midway_end : (accounts : List (List ℕ)) (old assets : AssetList) (earmarks start now : Units) (net : List Move) → IsBalanced accounts old start earmarks →
    Midway accounts (prices old.listings) earmarks assets start now net [] → IsBalanced accounts assets now earmarks
midway_end accounts old assets earmarks start now net kept mid = record {
  distinct = kept.distinct;
  accounts_fit = kept.accounts_fit;
  codes_fit =
      let same : length (prices assets.listings) ≡ length (prices old.listings) = ap length mid.priced in
      let fit = kept.codes_fit in
      omega (arith, same, length-prices assets.listings, length-prices old.listings, fit);
  cash_apart = ap (λ codes. price_of codes cash) mid.priced ∙ kept.cash_apart;
  totals = mid.totals;
  limit = λ q.
      let P : ℕ → Type 0 = λ n. n ≤ most_total in
      subst P (sym (mid.totals q ∙ ap (λ m. held accounts m earmarks q) mid.result)) (mid.limit_end q);
  known = mid.known;
}

-- and each total has changed by the deltas of its asset
pub midway_totals : (accounts : List (List ℕ)) (codes : List (List ℕ × ℕ)) (assets : AssetList) (earmarks start now : Units) (net : List Move) →
    Midway accounts codes earmarks assets start now net [] → (q : List ℕ) → pos (held accounts now earmarks q) ≡ pos (held accounts start earmarks q) +ℤ asset_delta net q
midway_totals accounts codes assets earmarks start now net mid q = ap (λ m. pos (held accounts m earmarks q)) mid.result ∙ mid.summed q
