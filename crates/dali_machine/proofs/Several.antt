use Rattle.std.proofs.Common.{◌≡◌, ℕ, ◌+◌, ◌≤◌, ℤ, pos, negsuc, ◌+ℤ◌, ◌-ℤ◌, ◌≤ℤ◌, Bool, true, false, ◌&&◌, ◌||◌, true≢false, List, [], ◌∷◌, ◌++◌, refl, sym, ap, ◌∙◌, subst, arith}
use Rattle.std.specs.Prelude.{sum_by, flat_map}
use Rattle.std.specs.List.{All, AllByRecursion, IsDistinct}
use Rattle.std.proofs.lemmas.Int.{ints}
use Rattle.std.proofs.lemmas.List.Sums.{sum_by-cons}
use Rattle.std.proofs.lemmas.Map.Keys.{IsDistinct-head, IsDistinct-tail}
use Rattle.dali_account.specs.declared.net.Move.{Move}
use Rattle.dali_account.specs.Book.{BookRecord, cash, has_account, has_asset, knows_pair, total_of}
use Rattle.dali_base.specs.Limits.{most_total}
use Rattle.dali_base.specs.Readers.{same_bytes}
use Rattle.dali_account.specs.Net.{pair_of, with_net}
use Rattle.dali_account.specs.Units.{PairKey, Units, units_of}
use Rattle.dali_account.proofs.PostLemmas.{ready_start}
use Rattle.dali_account.proofs.SumLemmas.{same_name_is}
use Rattle.dali_problem.specs.Sums.{pick, sum_over}
use Rattle.dali_queue.specs.declared.instruction.Instruction.{Instruction}
use Rattle.dali_queue.specs.Instruction.{at_pair, moved, effect, changed_pairs}
use Rattle.dali_queue.specs.NetOf.{delta_of, net_of}
use Rattle.dali_queue.proofs.NetItems.{total, net_of_is, net_of_all}
use Rattle.dali_machine.specs.Machine.{Machine}
use Rattle.dali_machine.specs.Kept.{AreKnown, IsMachine}
use Rattle.dali_machine.proofs.Booking.{IsBooked, moved_net, outside}

-- Several instructions are booked at once.

both_true : (a b : Bool) → a ≡ true → b ≡ true → (a && b) ≡ true
both_true a b p q = ap (λ t. t && b) p ∙ q

-- the moves of one account among distinct names
module _ (a asset : List ℕ) (z : ℤ) (q : List ℕ) where
  sum_none : (xs : List (List ℕ)) → AllByRecursion (λ y. same_bytes a y ≡ false) xs → sum_over (λ x. at_pair a asset z (x, q)) xs ≡ pos 0
  sum_none [] h = refl
  sum_none (x ∷ xs) h =
      let rest = sum_none xs h.1 in
      let head : at_pair a asset z (x, q) ≡ pos 0 = ap (λ t. pick (t && same_bytes asset q) z) h.0 in
      omega (arith, ints, rest, head)

  sum_at : (xs : List (List ℕ)) → IsDistinct same_bytes xs → has_account xs a ≡ true → sum_over (λ x. at_pair a asset z (x, q)) xs ≡ pick (same_bytes asset q) z
  sum_at [] distinct there = absurd (true≢false (sym there))
  sum_at (x ∷ xs) distinct there = by (same_bytes a x) refl there (sum_at xs (IsDistinct-tail same_bytes x xs distinct))
    where
      by : (b : Bool) → same_bytes a x ≡ b → (b || has_account xs a) ≡ true → (has_account xs a ≡ true → sum_over (λ x. at_pair a asset z (x, q)) xs ≡ pick (same_bytes asset q) z) →
          at_pair a asset z (x, q) +ℤ sum_over (λ x. at_pair a asset z (x, q)) xs ≡ pick (same_bytes asset q) z
      by true told h rest =
          let head : at_pair a asset z (x, q) ≡ pick (same_bytes asset q) z = ap (λ t. pick (t && same_bytes asset q) z) told in
          let others = sum_none xs (subst (λ r. AllByRecursion (λ y. same_bytes r y ≡ false) xs) (sym (same_name_is a x told)) (IsDistinct-head same_bytes x xs distinct)) in
          omega (arith, ints, head, others)
      by false told h rest =
          let head : at_pair a asset z (x, q) ≡ pos 0 = ap (λ t. pick (t && same_bytes asset q) z) told in
          let others = rest h in
          omega (arith, ints, head, others)

sum_four : (f g h k : List ℕ → ℤ) (xs : List (List ℕ)) → sum_over (λ x. (f x -ℤ g x) +ℤ (h x -ℤ k x)) xs ≡ (sum_over f xs -ℤ sum_over g xs) +ℤ (sum_over h xs -ℤ sum_over k xs)
sum_four f g h k [] = omega (arith, ints)
sum_four f g h k (x ∷ xs) = let rest = sum_four f g h k xs in omega (arith, ints, rest)

-- an instruction moves units of an asset between accounts, and makes none
effects_even : (i : Instruction) (q : List ℕ) (xs : List (List ℕ)) → IsDistinct same_bytes xs → has_account xs i.giver ≡ true → has_account xs i.taker ≡ true → sum_over (λ x. effect i (x, q)) xs ≡ pos 0
unfolding effect moved
effects_even i q xs distinct giver taker =
    let one = sum_at i.taker i.code (pos i.quantity) q xs distinct taker in
    let two = sum_at i.giver i.code (pos i.quantity) q xs distinct giver in
    let three = sum_at i.giver cash (pos i.cash) q xs distinct giver in
    let four = sum_at i.taker cash (pos i.cash) q xs distinct taker in
    sum_four (λ x. at_pair i.taker i.code (pos i.quantity) (x, q)) (λ x. at_pair i.giver i.code (pos i.quantity) (x, q)) (λ x. at_pair i.giver cash (pos i.cash) (x, q)) (λ x. at_pair i.taker cash (pos i.cash) (x, q)) xs
    ∙ omega (arith, ints, one, two, three, four)

-- the units of an asset after changes of balances
held_changed : (after before earmarks : Units) (change : PairKey → ℤ) (q : List ℕ) → ((pair : PairKey) → pos (units_of after pair) ≡ pos (units_of before pair) +ℤ change pair) → (xs : List (List ℕ)) →
    pos (sum_by (λ a. units_of after (a, q) + units_of earmarks (a, q)) xs) ≡ pos (sum_by (λ a. units_of before (a, q) + units_of earmarks (a, q)) xs) +ℤ sum_over (λ a. change (a, q)) xs
held_changed after before earmarks change q moved [] = omega (arith, ints)
held_changed after before earmarks change q moved (x ∷ xs) =
    let rest = held_changed after before earmarks change q moved xs in
    let first = moved (x, q) in
    let one = sum_by-cons (λ a. units_of after (a, q) + units_of earmarks (a, q)) x xs in
    let two = sum_by-cons (λ a. units_of before (a, q) + units_of earmarks (a, q)) x xs in
    omega (arith, ints, rest, first, one, two)

sum_two : (f g : List ℕ → ℤ) (xs : List (List ℕ)) → sum_over (λ x. f x +ℤ g x) xs ≡ sum_over f xs +ℤ sum_over g xs
sum_two f g [] = omega (arith, ints)
sum_two f g (x ∷ xs) = let rest = sum_two f g xs in omega (arith, ints, rest)

sum_zero : (xs : List (List ℕ)) → sum_over (λ x. pos 0) xs ≡ pos 0
sum_zero [] = refl
sum_zero (x ∷ xs) = let rest = sum_zero xs in omega (arith, ints, rest)

-- what holds of the pairs of each instruction holds of the pairs of all
pairs_all : (Q : PairKey → Type 0) (items : List Instruction) → AllByRecursion (λ i. AllByRecursion Q (changed_pairs i)) items → AllByRecursion Q (flat_map changed_pairs items)
pairs_all Q [] h = tt
pairs_all Q (i ∷ items) h = (h.0.0, (h.0.1.0, (h.0.1.1.0, (h.0.1.1.1.0, pairs_all Q items h.1))))

module _ (m : Machine) (kept : IsMachine m) where
  -- several instructions make no units either
  several_even : (q : List ℕ) (items : List Instruction) → AllByRecursion (AreKnown m.book) items → sum_over (λ a. total items (a, q)) m.book.accounts ≡ pos 0
  several_even q [] known = sum_zero m.book.accounts
  several_even q (i ∷ items) known =
      let first = effects_even i q m.book.accounts kept.distinct known.0.giver known.0.taker in
      let rest = several_even q items known.1 in
      sum_two (λ a. effect i (a, q)) (λ a. total items (a, q)) m.book.accounts ∙ omega (arith, ints, first, rest)

  pairs_known : (items : List Instruction) → AllByRecursion (AreKnown m.book) items → AllByRecursion (λ i. AllByRecursion (λ (q : PairKey). knows_pair m.book q.0 q.1 ≡ true) (changed_pairs i)) items
  pairs_known [] known = tt
  pairs_known (i ∷ items) known = (
    (
      both_true (has_account m.book.accounts i.giver) (has_asset m.book.codes i.code) known.0.giver known.0.code,
      (
        both_true (has_account m.book.accounts i.taker) (has_asset m.book.codes i.code) known.0.taker known.0.code,
        (
          both_true (has_account m.book.accounts i.giver) (has_asset m.book.codes cash) known.0.giver refl,
          (both_true (has_account m.book.accounts i.taker) (has_asset m.book.codes cash) known.0.taker refl, tt),
        ),
      ),
    ),
    pairs_known items known.1,
  )

  accounts_known : (items : List Instruction) → AllByRecursion (AreKnown m.book) items → AllByRecursion (λ i. AllByRecursion (λ (q : PairKey). has_account m.book.accounts q.0 ≡ true) (changed_pairs i)) items
  accounts_known [] known = tt
  accounts_known (i ∷ items) known = ((known.0.giver, (known.0.taker, (known.0.giver, (known.0.taker, tt)))), accounts_known items known.1)

module _ (m : Machine) (kept : IsMachine m) (items : List Instruction) (known : AllByRecursion (AreKnown m.book) items)
    (covered : All (λ (x : Move). pos 0 ≤ℤ (pos (units_of m.book.balances (pair_of x)) +ℤ x.delta)) (net_of items)) where
  pub known_moves : All (λ (x : Move). knows_pair m.book x.account x.asset ≡ true) (net_of items)
  known_moves = net_of_all (λ (x : Move). knows_pair m.book x.account x.asset ≡ true) items
      (pairs_all (λ (q : PairKey). knows_pair m.book q.0 q.1 ≡ true) items (pairs_known m kept items known))

  known_accounts : All (λ (x : Move). has_account m.book.accounts x.account ≡ true) (net_of items)
  known_accounts = net_of_all (λ (x : Move). has_account m.book.accounts x.account ≡ true) items
      (pairs_all (λ (q : PairKey). has_account m.book.accounts q.0 ≡ true) items (accounts_known m kept items known))

  abbrev pub target : BookRecord
  target = record m.book { balances = with_net m.book.balances (net_of items) }

  moves : (pair : PairKey) → pos (units_of (with_net m.book.balances (net_of items)) pair) ≡ pos (units_of m.book.balances pair) +ℤ delta_of (net_of items) pair
  moves = moved_net m.book.accounts m.book.codes (net_of items) m.book.balances
      (ready_start m.book.accounts m.book.codes m.book.balances (net_of items) (net_of_is items).ordered.rising known_moves covered)

  -- each pair's balance changes by the sum of the effects on it
  pub balances_moved : (pair : PairKey) → pos (units_of (with_net m.book.balances (net_of items)) pair) ≡ pos (units_of m.book.balances pair) +ℤ total items pair
  balances_moved pair = moves pair ∙ ap (λ z. pos (units_of m.book.balances pair) +ℤ z) ((net_of_is items).deltas pair)

  pub total_same : (q : List ℕ) → total_of target q ≡ total_of m.book q
  total_same q =
      let sum = held_changed (with_net m.book.balances (net_of items)) m.book.balances m.book.earmarks (total items) q balances_moved m.book.accounts in
      let even = several_even m kept q items known in
      omega (arith, ints, sum, even)

  pub several_booked : IsBooked m target (net_of items)
  several_booked = record {
    moved = moves;
    accounts = refl;
    codes = refl;
    limit = λ q. subst (λ n. n ≤ most_total) (sym (total_same q)) (kept.limit q);
    outside = outside m.book.accounts (net_of items) known_accounts;
    earmarks = λ pair absent. refl;
  }
