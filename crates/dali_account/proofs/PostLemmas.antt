use Rattle.std.proofs.Common.{◌≡◌, ℕ, ◌+◌, ◌≤◌, suc, ℤ, pos, negsuc, ◌+ℤ◌, ◌≤ℤ◌, Bool, true, false, cond, ◌&&◌, List, [], ◌∷◌, refl, sym, ap, ◌∙◌, subst, arith, true≢false, map}
use Rattle.std.proofs.lemmas.Int.{ints}
use Rattle.std.proofs.lemmas.List.Elements.{All-tail}
use Rattle.std.specs.Prelude.{All}
use Rattle.std.specs.List.{AllByRecursion, IsDistinct}
use Rattle.dali_account.specs.Book.{has_account, has_asset, held}
use Rattle.std.specs.List.Sorted.{IsStrictlySortedBy}
use Rattle.std.specs.declared.cmp.Ordering.TheVariants.{Less}
use Rattle.std.specs.Ordering.{is_eq}
use Rattle.dali_base.specs.Readers.{same_bytes}
use Rattle.dali_account.specs.declared.net.Move.{Move}
use Rattle.dali_account.specs.Units.{PairKey, Units, pair_cmp, units_of}
use Rattle.dali_account.specs.Net.{pair_of, after_move, with_move, with_net, asset_delta}
use Rattle.dali_account.proofs.UnitsLemmas.{same_pair, same_pair_is, pair_ties}
use Rattle.dali_account.proofs.SumLemmas.{units_same, units_other, sum_moved, sum_same, same_name_is, same_name_symm, first_true, second_from_first, and_false}

-- pairs in order are different pairs
apart : (p q : PairKey) → pair_cmp p q ≡ Less → same_pair p q ≡ false
apart p q e = pair_ties p q ∙ ap is_eq e

apart_back : (p q : PairKey) → pair_cmp p q ≡ Less → same_pair q p ≡ false
apart_back p q e = by (same_pair q p) refl
  where
    by : (b : Bool) → same_pair q p ≡ b → b ≡ false
    by false told = refl
    by true told =
        let is : q ≡ p = same_pair_is q p told in
        absurd (true≢false (sym told ∙ ap (λ r. same_pair r p) is ∙ ap (same_pair p) (sym is) ∙ apart p q e))

-- the moves of a list stand behind the pair
abbrev pub Behind : PairKey → List Move → Type 0
Behind p ms = AllByRecursion (λ q. pair_cmp p q ≡ Less) (map pair_of ms)

-- moves behind a pair leave its units
pub untouched : (ms : List Move) (m : Units) (p : PairKey) → Behind p ms → units_of (with_net m ms) p ≡ units_of m p
untouched [] m p h = refl
untouched (x ∷ ms) m p h = untouched ms (with_move m x) p h.1 ∙ units_other m (pair_of x) (after_move (units_of m (pair_of x)) x.delta) p (apart p (pair_of x) h.0)

-- units after one move are those before or those at the end
pub between : (ms : List Move) (start now : Units) (x : Move) → Behind (pair_of x) ms →
    ((p : PairKey) → units_of now p ≤ units_of start p + units_of (with_net now (x ∷ ms)) p) →
    (p : PairKey) → units_of (with_move now x) p ≤ units_of start p + units_of (with_net (with_move now x) ms) p
between ms start now x behind before p = by (same_pair p (pair_of x)) refl
  where
    by : (b : Bool) → same_pair p (pair_of x) ≡ b → units_of (with_move now x) p ≤ units_of start p + units_of (with_net (with_move now x) ms) p
    by true told =
        let is : p ≡ pair_of x = same_pair_is p (pair_of x) told in
        let stays : units_of (with_net (with_move now x) ms) p ≡ units_of (with_move now x) p = untouched ms (with_move now x) p (subst (λ q. Behind q ms) (sym is) behind) in
        omega (arith, stays)
    by false told =
        let same : units_of (with_move now x) p ≡ units_of now p = units_other now (pair_of x) (after_move (units_of now (pair_of x)) x.delta) p told in
        let held_before = before p in
        omega (arith, same, held_before)

-- what the loop still needs of the moves to come, at the balances as they are
abbrev pub Ready : List (List ℕ) → List (List ℕ × ℕ) → Units → List Move → Type 0
Ready accounts codes now [] = Unit {0}
Ready accounts codes now (x ∷ ms) =
    (has_account accounts x.account ≡ true) × (has_asset codes x.asset ≡ true) × (pos 0 ≤ℤ (pos (units_of now (pair_of x)) +ℤ x.delta))
    × Behind (pair_of x) ms × Ready accounts codes now ms

-- a move leaves the moves behind it as they were
pub ready_more : (accounts : List (List ℕ)) (codes : List (List ℕ × ℕ)) (now : Units) (x : Move) (ms : List Move) → Behind (pair_of x) ms → Ready accounts codes now ms → Ready accounts codes (with_move now x) ms
ready_more accounts codes now x [] behind ready = tt
ready_more accounts codes now x (y ∷ ms) behind ready =
    let same : units_of (with_move now x) (pair_of y) ≡ units_of now (pair_of y) =
    units_other now (pair_of x) (after_move (units_of now (pair_of x)) x.delta) (pair_of y) (apart_back (pair_of x) (pair_of y) behind.0) in
    (ready.0, ready.1, subst (λ (n : ℕ). pos 0 ≤ℤ (pos n +ℤ y.delta)) (sym same) ready.2, ready.3, ready_more accounts codes now x ms behind.1 ready.4)

-- before the first move
pub ready_start : (accounts : List (List ℕ)) (codes : List (List ℕ × ℕ)) (now : Units) (net : List Move) → IsStrictlySortedBy pair_cmp (map pair_of net) →
    All (λ (m : Move). (has_account accounts m.account && has_asset codes m.asset) ≡ true) net →
    All (λ (m : Move). pos 0 ≤ℤ (pos (units_of now (pair_of m)) +ℤ m.delta)) net → Ready accounts codes now net
unfolding IsStrictlySortedBy
ready_start accounts codes now [] sorted known covered = tt
ready_start accounts codes now (x ∷ ms) sorted known covered =
    let first = known 0 x (omega arith) in (
      first_true (has_account accounts x.account) (has_asset codes x.asset) first,
      second_from_first (has_account accounts x.account) (has_asset codes x.asset) first,
      covered 0 x (omega arith),
      sorted.0,
      ready_start accounts codes now ms sorted.1 (All-tail (λ (m : Move). (has_account accounts m.account && has_asset codes m.asset) ≡ true) x ms known) (All-tail (λ (m : Move). pos 0 ≤ℤ (pos (units_of now (pair_of m)) +ℤ m.delta)) x ms covered),
    )

-- what a move adds and what it takes, one of them 0
abbrev pub gain : ℤ → ℕ
gain (pos k) = k
gain (negsuc k) = 0

abbrev pub loss : ℤ → ℕ
loss (pos k) = 0
loss (negsuc k) = suc k

pub after_balance : (n : ℕ) (delta : ℤ) → pos 0 ≤ℤ (pos n +ℤ delta) → after_move n delta + loss delta ≡ n + gain delta
after_balance n (pos k) h = omega (arith, ints)
after_balance n (negsuc k) h = omega (arith, ints, h)

pub after_from_balance : (n m : ℕ) (delta : ℤ) → m + loss delta ≡ n + gain delta → after_move n delta ≡ m
after_from_balance n m (pos k) h = omega (arith, ints, h)
after_from_balance n m (negsuc k) h = omega (arith, ints, h)

-- the units of the move's asset after it
pub held_after : (accounts : List (List ℕ)) (now earmarks : Units) (x : Move) → IsDistinct same_bytes accounts → has_account accounts x.account ≡ true →
    pos 0 ≤ℤ (pos (units_of now (pair_of x)) +ℤ x.delta) →
    held accounts (with_move now x) earmarks x.asset + loss x.delta ≡ held accounts now earmarks x.asset + gain x.delta
held_after accounts now earmarks x distinct there covered =
    let own : units_of (with_move now x) (pair_of x) ≡ after_move (units_of now (pair_of x)) x.delta = units_same now (pair_of x) (after_move (units_of now (pair_of x)) x.delta) in
    let change : after_move (units_of now (pair_of x)) x.delta + loss x.delta ≡ units_of now (pair_of x) + gain x.delta = after_balance (units_of now (pair_of x)) x.delta covered in
    sum_moved (λ a. units_of now (a, x.asset) + units_of earmarks (a, x.asset)) (λ a. units_of (with_move now x) (a, x.asset) + units_of earmarks (a, x.asset)) x.account
    (λ a e. let other : units_of (with_move now x) (a, x.asset) ≡ units_of now (a, x.asset) =
    units_other now (pair_of x) (after_move (units_of now (pair_of x)) x.delta) (a, x.asset) (ap (λ t. t && same_bytes x.asset x.asset) (same_name_symm a x.account ∙ e)) in
    omega (arith, other))
    (gain x.delta) (loss x.delta) (omega (arith, own, change)) accounts distinct there

regroup : (a b c : ℤ) → (a +ℤ b) +ℤ c ≡ a +ℤ (b +ℤ c)
regroup a b c = omega (arith, ints)

signed : (n m : ℕ) (delta : ℤ) → n + loss delta ≡ m + gain delta → pos n ≡ pos m +ℤ delta
signed n m (pos k) h = omega (arith, ints, h)
signed n m (negsuc k) h = omega (arith, ints, h)

-- the units of an asset after a move
held_move : (accounts : List (List ℕ)) (now earmarks : Units) (x : Move) (q : List ℕ) → IsDistinct same_bytes accounts → has_account accounts x.account ≡ true →
    pos 0 ≤ℤ (pos (units_of now (pair_of x)) +ℤ x.delta) →
    pos (held accounts (with_move now x) earmarks q) ≡ pos (held accounts now earmarks q) +ℤ cond (same_bytes q x.asset) x.delta (pos 0)
held_move accounts now earmarks x q distinct there covered = by (same_bytes q x.asset) refl
  where
    by : (b : Bool) → same_bytes q x.asset ≡ b → pos (held accounts (with_move now x) earmarks q) ≡ pos (held accounts now earmarks q) +ℤ cond b x.delta (pos 0)
    by true told =
        let own : pos (held accounts (with_move now x) earmarks x.asset) ≡ pos (held accounts now earmarks x.asset) +ℤ x.delta =
        signed (held accounts (with_move now x) earmarks x.asset) (held accounts now earmarks x.asset) x.delta (held_after accounts now earmarks x distinct there covered) in
        subst (λ (r : List ℕ). pos (held accounts (with_move now x) earmarks r) ≡ pos (held accounts now earmarks r) +ℤ x.delta) (sym (same_name_is q x.asset told)) own
    by false told =
        let same : held accounts (with_move now x) earmarks q ≡ held accounts now earmarks q =
        sum_same (λ a. units_of now (a, q) + units_of earmarks (a, q)) (λ a. units_of (with_move now x) (a, q) + units_of earmarks (a, q)) accounts
        (λ a. let stays : units_of (with_move now x) (a, q) ≡ units_of now (a, q) =
        units_other now (pair_of x) (after_move (units_of now (pair_of x)) x.delta) (a, q) (and_false (same_bytes a x.account) (same_bytes q x.asset) told) in
        omega (arith, stays)) in
        omega (arith, ints, same)

-- the units of an asset after a net
pub held_net : (accounts : List (List ℕ)) (codes : List (List ℕ × ℕ)) (earmarks : Units) (q : List ℕ) → IsDistinct same_bytes accounts → (ms : List Move) (now : Units) → Ready accounts codes now ms →
    pos (held accounts (with_net now ms) earmarks q) ≡ pos (held accounts now earmarks q) +ℤ asset_delta ms q
held_net accounts codes earmarks q distinct [] now ready = omega (arith, ints)
held_net accounts codes earmarks q distinct (x ∷ ms) now ready =
    let rest = held_net accounts codes earmarks q distinct ms (with_move now x) (ready_more accounts codes now x ms ready.3 ready.4) in
    let first = held_move accounts now earmarks x q distinct ready.0 ready.2 in
    rest ∙ ap (λ z. z +ℤ asset_delta ms q) first ∙ regroup (pos (held accounts now earmarks q)) (cond (same_bytes q x.asset) x.delta (pos 0)) (asset_delta ms q)
