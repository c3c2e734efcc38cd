use Rattle.std.proofs.Common.{◌≡◌, ℕ, ◌+◌, ◌≤◌, ℤ, pos, negsuc, ◌+ℤ◌, ◌≤ℤ◌, Bool, true, false, ◌&&◌, get_or, List, [], ◌∷◌, refl, sym, ap, ◌∙◌, subst, arith}
use Rattle.std.specs.Prelude.{unsigned_abs}
use Rattle.std.specs.List.{All, IsDistinct}
use Rattle.std.proofs.lemmas.Int.{ints}
use Rattle.std.proofs.lemmas.List.Elements.{All-tail}
use Rattle.dali_account.specs.declared.net.Move.{Move}
use Rattle.dali_account.specs.Book.{BookRecord, has_account, has_asset, total_of}
use Rattle.dali_base.specs.Limits.{most_total}
use Rattle.dali_base.specs.Readers.{same_bytes}
use Rattle.dali_account.specs.Net.{pair_of, after_move, with_move, with_net}
use Rattle.dali_account.specs.Units.{PairKey, Units, units_of, with_units}
use Rattle.dali_account.proofs.KeptLemmas.{other_name}
use Rattle.dali_account.proofs.PostLemmas.{Ready, ready_more}
use Rattle.dali_account.proofs.SumLemmas.{same_name_symm, units_same, units_other, term_le_sum}
use Rattle.dali_account.proofs.UnitsLemmas.{same_pair, same_pair_is}
use Rattle.dali_problem.specs.Sums.{pick}
use Rattle.dali_queue.specs.Instruction.{at_pair}
use Rattle.dali_queue.specs.NetOf.{delta_of}
use Rattle.dali_ledger.specs.declared.posting.Posting.{Posting}
use Rattle.dali_ledger.specs.Postings.{delta_sum, next_posting, posted, IsSum}
use Rattle.dali_ledger.specs.Postings as ledgers
use Rattle.dali_ledger.proofs.SumLemmas.{sum_push}
use Rattle.dali_queue.specs.Queue.{QueueRecord}
use Rattle.dali_machine.specs.Machine.{Machine}
use Rattle.dali_machine.specs.Kept.{AreKnown, IsMachine}
use Rattle.dali_machine.specs.Effects.{one_move}

-- a net's postings add its deltas to the sums
pub posted_sum : (net : List Move) (ps : List Posting) (command : ℕ) (pair : PairKey) → delta_sum (posted ps command net) pair ≡ delta_sum ps pair +ℤ delta_of net pair
posted_sum [] ps command pair = omega (arith, ints)
posted_sum (x ∷ ms) ps command pair =
    let rest = posted_sum ms (ledgers.with_move ps command x) command pair in
    let first : delta_sum (ledgers.with_move ps command x) pair ≡ delta_sum ps pair +ℤ at_pair x.account x.asset x.delta pair = sum_push ps (next_posting ps command x) pair in
    omega (arith, ints, rest, first)

symmetric : (p q : PairKey) → same_pair p q ≡ same_pair q p
symmetric p q = ap (λ t. t && same_bytes p.1 q.1) (same_name_symm p.0 q.0) ∙ ap (λ t. same_bytes q.0 p.0 && t) (same_name_symm p.1 q.1)

-- the units of each pair after a number was put at one
pub moved_one : (m : Units) (p : PairKey) (n : ℕ) (z : ℤ) → pos n ≡ pos (units_of m p) +ℤ z → (pair : PairKey) → pos (units_of (with_units m p n) pair) ≡ pos (units_of m pair) +ℤ at_pair p.0 p.1 z pair
moved_one m p n z is pair = by (same_pair p pair) refl
  where
    by : (b : Bool) → same_pair p pair ≡ b → pos (units_of (with_units m p n) pair) ≡ pos (units_of m pair) +ℤ pick b z
    by true told = subst (λ q. pos (units_of (with_units m p n) q) ≡ pos (units_of m q) +ℤ z) (same_pair_is p pair told) (ap pos (units_same m p n) ∙ is)
    by false told =
        let same : units_of (with_units m p n) pair ≡ units_of m pair = units_other m p n pair (symmetric pair p ∙ told) in
        omega (arith, ints, same)

size : (z : ℤ) → pos 0 ≤ℤ z → pos (unsigned_abs z) ≡ z
size (pos n) h = refl
size (negsuc n) h = absurd (omega (arith, ints, h))

-- the units of each pair after a net
pub moved_net : (accounts : List (List ℕ)) (codes : List (List ℕ × ℕ)) (ms : List Move) (now : Units) → Ready accounts codes now ms → (pair : PairKey) →
    pos (units_of (with_net now ms) pair) ≡ pos (units_of now pair) +ℤ delta_of ms pair
moved_net accounts codes [] now ready pair = omega (arith, ints)
moved_net accounts codes (x ∷ ms) now ready pair =
    let rest = moved_net accounts codes ms (with_move now x) (ready_more accounts codes now x ms ready.3 ready.4) pair in
    let first = moved_one now (pair_of x) (after_move (units_of now (pair_of x)) x.delta) x.delta (size (pos (units_of now (pair_of x)) +ℤ x.delta) ready.2) pair in
    omega (arith, ints, rest, first)

-- a net of accounts' moves changes nothing outside
pub outside : (accounts : List (List ℕ)) (net : List Move) → All (λ (x : Move). has_account accounts x.account ≡ true) net → (pair : PairKey) → has_account accounts pair.0 ≡ false → delta_of net pair ≡ pos 0
outside accounts [] known pair absent = refl
outside accounts (x ∷ ms) known pair absent =
    let rest = outside accounts ms (All-tail (λ (m : Move). has_account accounts m.account ≡ true) x ms known) pair absent in
    let apart : same_bytes x.account pair.0 ≡ false = same_name_symm x.account pair.0 ∙ other_name accounts x.account pair.0 (known 0 x (omega arith)) absent in
    let head : at_pair x.account x.asset x.delta pair ≡ pos 0 = ap (λ t. pick (t && same_bytes x.asset pair.1) x.delta) apart in
    omega (arith, ints, rest, head)

-- what a booking does: the moves are on the balances, and the book keeps its accounts, codes, limits and what only
-- accounts have
pub record IsBooked (m : Machine) (book : BookRecord) (net : List Move) : Type 0 where
  pub moved : (pair : PairKey) → pos (units_of book.balances pair) ≡ pos (units_of m.book.balances pair) +ℤ delta_of net pair
  pub accounts : book.accounts ≡ m.book.accounts
  pub codes : book.codes ≡ m.book.codes
  pub limit : (asset : List ℕ) → total_of book asset ≤ most_total
  pub outside : (pair : PairKey) → has_account m.book.accounts pair.0 ≡ false → delta_of net pair ≡ pos 0
  pub earmarks : (pair : PairKey) → has_account m.book.accounts pair.0 ≡ false → units_of book.earmarks pair ≡ units_of m.book.earmarks pair

module _ (m : Machine) (kept : IsMachine m) (command : ℕ) (book : BookRecord) (net : List Move) (done : IsBooked m book net) where
  sum_is : (pair : PairKey) → delta_sum (posted m.postings command net) pair ≡ pos (units_of book.balances pair)
  sum_is pair = posted_sum net m.postings command pair ∙ ap (λ z. z +ℤ delta_of net pair) (kept.matched pair) ∙ sym (done.moved pair)

  owned : (pair : PairKey) → has_account m.book.accounts pair.0 ≡ false → units_of book.balances pair ≡ 0
  owned pair absent =
      let moved = done.moved pair in
      let none = done.outside pair absent in
      let before = kept.owned pair absent in
      omega (arith, ints, moved, none, before)

  within : (pair : PairKey) → units_of book.balances pair ≤ most_total
  within pair = by (has_account m.book.accounts pair.0) refl
    where
      by : (b : Bool) → has_account m.book.accounts pair.0 ≡ b → units_of book.balances pair ≤ most_total
      by false told = omega (arith, owned pair told)
      by true told =
          let part = term_le_sum (λ a. units_of book.balances (a, pair.1) + units_of book.earmarks (a, pair.1)) pair.0 book.accounts (ap (λ xs. has_account xs pair.0) done.accounts ∙ told) in
          let most = done.limit pair.1 in
          omega (arith, part, most)

  -- the sums that the ledger asks for
  pub sums_fit : (pair : PairKey) → IsSum (delta_sum (posted m.postings command net) pair)
  sums_fit pair =
      let most = within pair in
      subst IsSum (sym (sum_is pair)) (record { low = omega (arith, ints); high = omega (arith, ints, most) })

  -- and the state afterwards
  pub machine_booked : (queue : QueueRecord) (postings : List Posting) → postings ≡ posted m.postings command net → All (λ w. AreKnown m.book w.item) queue.waiting →
      IsMachine (record m { book = book; queue = queue; postings = postings })
  machine_booked queue postings is known = record {
    matched = λ pair. ap (λ ps. delta_sum ps pair) is ∙ sum_is pair;
    owned = λ pair absent. owned pair (ap (λ xs. has_account xs pair.0) (sym done.accounts) ∙ absent);
    earmarked = λ pair absent.
        let unknown = ap (λ xs. has_account xs pair.0) (sym done.accounts) ∙ absent in
        done.earmarks pair unknown ∙ kept.earmarked pair unknown;
    distinct = subst (λ xs. IsDistinct same_bytes xs) (sym done.accounts) kept.distinct;
    limit = done.limit;
    prices = subst (λ (cs : List (List ℕ × ℕ)). All (λ c. 1 ≤ c.1) cs) (sym done.codes) kept.prices;
    known = λ k d h.
        let old = known k d h in
        record {
          giver = ap (λ xs. has_account xs (get_or queue.waiting k d).item.giver) done.accounts ∙ old.giver;
          taker = ap (λ xs. has_account xs (get_or queue.waiting k d).item.taker) done.accounts ∙ old.taker;
          code = ap (λ cs. has_asset cs (get_or queue.waiting k d).item.code) done.codes ∙ old.code;
        };
  }

-- one move alone
module _ (m : Machine) (account asset : List ℕ) (n earmark : ℕ) (z : ℤ) (there : has_account m.book.accounts account ≡ true)
    (is : pos n ≡ pos (units_of m.book.balances (account, asset)) +ℤ z) (book : BookRecord)
    (put : book ≡ record m.book { balances = with_units m.book.balances (account, asset) n; earmarks = with_units m.book.earmarks (account, asset) earmark })
    (limit : (q : List ℕ) → total_of book q ≤ most_total) where
  one_delta : (pair : PairKey) → delta_of (one_move account asset z) pair ≡ at_pair account asset z pair
  one_delta pair = omega (arith, ints)

  pub booked_one : IsBooked m book (one_move account asset z)
  booked_one = record {
    moved = λ pair. ap (λ (b : BookRecord). pos (units_of b.balances pair)) put ∙ moved_one m.book.balances (account, asset) n z is pair ∙ ap (λ t. pos (units_of m.book.balances pair) +ℤ t) (sym (one_delta pair));
    accounts = ap (λ (b : BookRecord). b.accounts) put;
    codes = ap (λ (b : BookRecord). b.codes) put;
    limit = limit;
    outside = λ pair absent. one_delta pair ∙ ap (λ t. pick (t && same_bytes asset pair.1) z) (same_name_symm account pair.0 ∙ other_name m.book.accounts account pair.0 there absent);
    earmarks = λ pair absent. ap (λ (b : BookRecord). units_of b.earmarks pair) put
        ∙ units_other m.book.earmarks (account, asset) earmark pair (ap (λ t. t && same_bytes pair.1 asset) (other_name m.book.accounts account pair.0 there absent));
  }
