use Rattle.std.proofs.Common.{◌≡◌, ◌≢◌, ℕ, ◌*◌, ◌<◌, ◌≤◌, zero, suc, to_z, of_z, length, take, get_or, ℤ, pos, negsuc, neg_ℤ, ◌+ℤ◌, ◌-ℤ◌, Bool, true, false, cond, ◌&&◌, List, [], ◌∷◌, ◌++◌, map, Some, refl, sym, ap, ◌∙◌, subst, arith, true≢false}
use Rattle.std.specs.Prelude.{unwrap_or, FitsSigned, Result, Ok, Err, IfOk}
use Rattle.std.specs.Ordering.{int_eq, is_eq, ordering_reverse}
use Rattle.std.specs.Map.{lookup, keys_of}
use Rattle.std.specs.List.{All, AllPairs, AllByRecursion}
use Rattle.std.specs.List.Sorted.{IsStrictlySortedBy}
use Rattle.std.specs.BTreeMap.{BTreeMap, get}
use Rattle.std.specs.declared.cmp.Ordering.{Ordering}
use Rattle.std.specs.declared.cmp.Ordering.TheVariants.{Less, Equal, Greater}
use Rattle.std.proofs.lemmas.Int.{ints, to_z-of_z}
use Rattle.std.specs.Int.{w64}
use Rattle.std.proofs.lemmas.List.{append-nil, length-take-le}
use Rattle.std.proofs.lemmas.Bool.Decides.{Decides-int_eq}
use Rattle.std.proofs.lemmas.List.Elements.{All-nil, All-cons, All-tail, recursion_from_All}
use Rattle.dali_account.specs.declared.net.Move.{Move}
use Rattle.dali_account.specs.Book.{cash}
use Rattle.dali_account.specs.Units.{PairKey, pair_cmp}
use Rattle.dali_account.specs.Net.{IsNet, IsAfter, pair_of}
use Rattle.dali_account.proofs.SumLemmas.{same_name_refl}
use Rattle.dali_account.proofs.UnitsLemmas.{same_pair, same_pair_is, pair_ties, pair_total, pair_antisymmetric}
use Rattle.dali_problem.specs.Limits.{Within}
use Rattle.dali_problem.specs.Sums.{pick}
use Rattle.dali_base.specs.declared.kind.Kind.{Kind}
use Rattle.dali_base.specs.declared.kind.Kind.TheVariants.{Dvp, Fop, Pay}
use Rattle.dali_base.specs.Readers.{same_bytes}
use Rattle.dali_queue.specs.declared.instruction.Instruction.{Instruction}
use Rattle.dali_queue.specs.Instruction.{IsInstruction, IsCash, at_pair, moved, effect}
use Rattle.dali_problem.proofs.SumLaws.{sum_over_within}
use Rattle.dali_queue.specs.Queue.{Queued}
use Rattle.dali_queue.specs.NetOf.{effect_at, effects_of, delta_of, IsNetOf}
use Rattle.dali_queue.specs.Changed.{change_of, move_of, moves_of}

is_zero : (z : ℤ) → int_eq z (pos 0) ≡ true → z ≡ pos 0
is_zero z told = (Decides-int_eq z (pos 0)).0 told

not_zero : (z : ℤ) → int_eq z (pos 0) ≡ false → z ≢ pos 0
not_zero z told is = true≢false (sym ((Decides-int_eq z (pos 0)).1 is) ∙ told)

-- a move that stands behind a net comes after its last one
pub after_last : (net : List Move) (m : Move) (ms : List Move) → IsStrictlySortedBy pair_cmp (map pair_of (net ++ m ∷ ms)) → IsAfter net m
unfolding IsStrictlySortedBy
after_last [] m ms sorted = tt
after_last (x ∷ []) m ms sorted = sorted.0.0
after_last (x ∷ y ∷ ys) m ms sorted = after_last (y ∷ ys) m ms sorted.1

-- one changed pair
module _ (m n : BTreeMap PairKey ℤ) (key : PairKey) (delta z : ℤ) (is : z ≡ change_of m key +ℤ delta)
    (updated : (q : PairKey) → get pair_cmp n q ≡ cond (is_eq (pair_cmp key q)) (Some z) (get pair_cmp m q)) where
  pub changed_pair : (pair : PairKey) → change_of n pair ≡ change_of m pair +ℤ at_pair key.0 key.1 delta pair
  changed_pair pair = ap (λ o. unwrap_or o (pos 0)) (updated pair ∙ ap (λ t. cond t (Some z) (get pair_cmp m pair)) (sym (pair_ties key pair))) ∙ by (same_pair key pair) refl
    where
      by : (b : Bool) → same_pair key pair ≡ b → unwrap_or (cond b (Some z) (get pair_cmp m pair)) (pos 0) ≡ change_of m pair +ℤ pick b delta
      by true told = is ∙ ap (λ q. change_of m q +ℤ delta) (same_pair_is key pair told)
      by false told = omega (arith, ints)

pub at_negative : (account asset : List ℕ) (z : ℤ) (pair : PairKey) → at_pair account asset (neg_ℤ z) pair ≡ neg_ℤ (at_pair account asset z pair)
at_negative account asset z pair = by (same_bytes account pair.0 && same_bytes asset pair.1)
  where
    by : (b : Bool) → pick b (neg_ℤ z) ≡ neg_ℤ (pick b z)
    by true = refl
    by false = refl

pub moved_from : (units : ℕ) (asset giver taker : List ℕ) (pair : PairKey) (before middle after : ℤ) → middle ≡ before +ℤ at_pair giver asset (neg_ℤ (pos units)) pair → after ≡ middle +ℤ at_pair taker asset (pos units) pair →
    after ≡ before +ℤ moved units asset giver taker pair
unfolding moved
moved_from units asset giver taker pair before middle after one two =
    let back = at_negative giver asset (pos units) pair in omega (arith, ints, one, two, back)

pub moved_none : (asset giver taker : List ℕ) (pair : PairKey) → moved 0 asset giver taker pair ≡ pos 0
unfolding moved
moved_none asset giver taker pair =
    let zero_at : (account : List ℕ) → at_pair account asset (pos 0) pair ≡ pos 0 = λ account. by (same_bytes account pair.0 && same_bytes asset pair.1) in
    let one = zero_at giver in
    let two = zero_at taker in
    omega (arith, ints, one, two)
  where
    by : (b : Bool) → pick b (pos 0) ≡ pos 0
    by true = refl
    by false = refl

pub moved_within : (units : ℕ) (asset giver taker : List ℕ) (pair : PairKey) → units ≤ 1000000000000000 → Within 1000000000000000 (moved units asset giver taker pair)
unfolding moved
moved_within units asset giver taker pair few = both (same_bytes giver pair.0 && same_bytes asset pair.1) (same_bytes taker pair.0 && same_bytes asset pair.1)
  where
    both : (a b : Bool) → Within 1000000000000000 (pick b (pos units) -ℤ pick a (pos units))
    both true true = record { low = omega (arith, ints, few); high = omega (arith, ints, few) }
    both true false = record { low = omega (arith, ints, few); high = omega (arith, ints, few) }
    both false true = record { low = omega (arith, ints, few); high = omega (arith, ints, few) }
    both false false = record { low = omega (arith, ints, few); high = omega (arith, ints, few) }

pub cash_fits : (kind : Kind) (n : ℕ) → IsCash kind n → n ≤ 1000000000000000
cash_fits Dvp n kept = kept.to_most
cash_fits Fop n kept = omega (arith, kept)
cash_fits Pay n kept = omega (arith, kept)

pub effect_within : (i : Instruction) (pair : PairKey) → IsInstruction i → Within 2000000000000000 (effect i pair)
unfolding effect
effect_within i pair kept =
    let one = moved_within i.quantity i.code i.giver i.taker pair kept.quantity.to_most in
    let two = moved_within i.cash cash i.taker i.giver pair (cash_fits i.kind i.cash kept.cash) in
    record { low = omega (arith, ints, one.low, two.low); high = omega (arith, ints, one.high, two.high) }

-- the moves of changes that stand in order are a net
later_moves : (k : PairKey) (es : List (PairKey × ℤ)) → AllByRecursion (λ y. pair_cmp k y ≡ Less) (keys_of es) → AllByRecursion (λ y. pair_cmp k y ≡ Less) (map pair_of (moves_of es))
later_moves k [] all = tt
later_moves k (e ∷ es) all = by (int_eq e.1 (pos 0)) (later_moves k es all.1)
  where
    by : (b : Bool) → AllByRecursion (λ y. pair_cmp k y ≡ Less) (map pair_of (moves_of es)) → AllByRecursion (λ y. pair_cmp k y ≡ Less) (map pair_of (cond b (moves_of es) (move_of e ∷ moves_of es)))
    by true rest = rest
    by false rest = (all.0, rest)

moves_rise : (es : List (PairKey × ℤ)) → IsStrictlySortedBy pair_cmp (keys_of es) → IsStrictlySortedBy pair_cmp (map pair_of (moves_of es))
unfolding IsStrictlySortedBy
moves_rise [] sorted = tt
moves_rise (e ∷ es) sorted = by (int_eq e.1 (pos 0)) (moves_rise es sorted.1)
  where
    by : (b : Bool) → IsStrictlySortedBy pair_cmp (map pair_of (moves_of es)) → IsStrictlySortedBy pair_cmp (map pair_of (cond b (moves_of es) (move_of e ∷ moves_of es)))
    by true rest = rest
    by false rest = (later_moves e.0 es sorted.0, rest)

moves_change : (es : List (PairKey × ℤ)) → All (λ (m : Move). m.delta ≢ pos 0) (moves_of es)
moves_change [] = All-nil (λ (m : Move). m.delta ≢ pos 0)
moves_change (e ∷ es) = by (int_eq e.1 (pos 0)) refl (moves_change es)
  where
    by : (b : Bool) → int_eq e.1 (pos 0) ≡ b → All (λ (m : Move). m.delta ≢ pos 0) (moves_of es) → All (λ (m : Move). m.delta ≢ pos 0) (cond b (moves_of es) (move_of e ∷ moves_of es))
    by true told rest = rest
    by false told rest = All-cons (λ (m : Move). m.delta ≢ pos 0) (move_of e) (moves_of es) (not_zero e.1 told) rest

pub moves_net : (es : List (PairKey × ℤ)) → IsStrictlySortedBy pair_cmp (keys_of es) → IsNet (moves_of es)
moves_net es sorted = record { rising = moves_rise es sorted; moves = moves_change es }

-- a pair before another differs from it
before_apart : (p q : PairKey) → pair_cmp p q ≡ Less → same_pair q p ≡ false
before_apart p q before = by (same_pair q p) refl
  where
    by : (b : Bool) → same_pair q p ≡ b → b ≡ false
    by false told = refl
    by true told =
        let is : q ≡ p = same_pair_is q p told in
        absurd (true≢false (sym told ∙ ap (λ r. same_pair r p) is ∙ ap (same_pair p) (sym is) ∙ pair_ties p q ∙ ap is_eq before))

-- what one more change adds to the delta of a pair
delta_cons : (e : PairKey × ℤ) (es : List (PairKey × ℤ)) (pair : PairKey) → delta_of (moves_of (e ∷ es)) pair ≡ at_pair e.0.0 e.0.1 e.1 pair +ℤ delta_of (moves_of es) pair
delta_cons e es pair = by (int_eq e.1 (pos 0)) refl
  where
    none : (b : Bool) → pick b (pos 0) ≡ pos 0
    none true = refl
    none false = refl

    by : (b : Bool) → int_eq e.1 (pos 0) ≡ b → delta_of (cond b (moves_of es) (move_of e ∷ moves_of es)) pair ≡ at_pair e.0.0 e.0.1 e.1 pair +ℤ delta_of (moves_of es) pair
    by true told =
        let nothing : at_pair e.0.0 e.0.1 e.1 pair ≡ pos 0 = ap (λ z. at_pair e.0.0 e.0.1 z pair) (is_zero e.1 told) ∙ none (same_pair e.0 pair) in
        omega (arith, ints, nothing)
    by false told = refl

later_none : (k : PairKey) (es : List (PairKey × ℤ)) → AllByRecursion (λ y. pair_cmp k y ≡ Less) (keys_of es) → delta_of (moves_of es) k ≡ pos 0
later_none k [] all = refl
later_none k (e ∷ es) all =
    let rest = later_none k es all.1 in
    let head : at_pair e.0.0 e.0.1 e.1 k ≡ pos 0 = ap (λ b. pick b e.1) (before_apart k e.0 all.0) in
    delta_cons e es k ∙ omega (arith, ints, rest, head)

-- the delta of a pair is what stands under it
pub moves_deltas : (es : List (PairKey × ℤ)) (pair : PairKey) → IsStrictlySortedBy pair_cmp (keys_of es) → delta_of (moves_of es) pair ≡ unwrap_or (lookup (λ k. is_eq (pair_cmp pair k)) es) (pos 0)
unfolding IsStrictlySortedBy
moves_deltas [] pair sorted = refl
moves_deltas (e ∷ es) pair sorted = delta_cons e es pair ∙ by (is_eq (pair_cmp pair e.0)) refl (moves_deltas es pair sorted.1)
  where
    by : (b : Bool) → is_eq (pair_cmp pair e.0) ≡ b → delta_of (moves_of es) pair ≡ unwrap_or (lookup (λ k. is_eq (pair_cmp pair k)) es) (pos 0) →
        at_pair e.0.0 e.0.1 e.1 pair +ℤ delta_of (moves_of es) pair ≡ unwrap_or (cond b (Some e.1) (lookup (λ k. is_eq (pair_cmp pair k)) es)) (pos 0)
    by true told rest =
        let is : pair ≡ e.0 = same_pair_is pair e.0 (pair_ties pair e.0 ∙ told) in
        let own : at_pair e.0.0 e.0.1 e.1 pair ≡ e.1 = ap (at_pair e.0.0 e.0.1 e.1) is ∙ ap (λ b. pick b e.1) (ap (λ p. same_pair p e.0) (sym is) ∙ pair_ties pair e.0 ∙ told) in
        let none : delta_of (moves_of es) pair ≡ pos 0 = ap (delta_of (moves_of es)) is ∙ later_none e.0 es sorted.0 in
        omega (arith, ints, own, none)
    by false told rest = apart (same_pair e.0 pair) refl
      where
        apart : (b : Bool) → same_pair e.0 pair ≡ b → pick b e.1 +ℤ delta_of (moves_of es) pair ≡ unwrap_or (lookup (λ k. is_eq (pair_cmp pair k)) es) (pos 0)
        apart false other = omega (arith, ints, rest)
        apart true other =
            let is : e.0 ≡ pair = same_pair_is e.0 pair other in
            absurd (true≢false (sym other ∙ ap (same_pair e.0) (sym is) ∙ ap (λ p. same_pair p e.0) is ∙ pair_ties pair e.0 ∙ told))

-- the next change makes a move that comes after the net so far
pub after_next : (start : List (PairKey × ℤ)) (net : List Move) (e : PairKey × ℤ) (es : List (PairKey × ℤ)) → IsStrictlySortedBy pair_cmp (keys_of start) → net ++ moves_of (e ∷ es) ≡ moves_of start → e.1 ≢ pos 0 → IsAfter net (move_of e)
after_next start net e es ordered whole apart = after_last net (move_of e) (moves_of es)
    (subst (λ ms. IsStrictlySortedBy pair_cmp (map pair_of ms)) (sym whole ∙ ap (λ b. net ++ cond b (moves_of es) (move_of e ∷ moves_of es)) (some (int_eq e.1 (pos 0)) refl)) (moves_rise start ordered))
  where
    some : (b : Bool) → int_eq e.1 (pos 0) ≡ b → b ≡ false
    some false told = refl
    some true told = absurd (apart (is_zero e.1 told))

-- a pair that comes before all moves of a net has no delta in it
none_behind : (p : PairKey) (net : List Move) → AllByRecursion (λ y. pair_cmp p y ≡ Less) (map pair_of net) → delta_of net p ≡ pos 0
none_behind p [] all = refl
none_behind p (m ∷ ms) all =
    let rest = none_behind p ms all.1 in
    let head : at_pair m.account m.asset m.delta p ≡ pos 0 = ap (λ b. pick b m.delta) (before_apart p (pair_of m) all.0) in
    omega (arith, ints, rest, head)

own_delta : (m : Move) → at_pair m.account m.asset m.delta (pair_of m) ≡ m.delta
own_delta m = ap (λ b. pick b m.delta) (ap (λ t. t && same_bytes m.asset m.asset) (same_name_refl m.account) ∙ same_name_refl m.asset)

all_behind : (p q : PairKey) (qs : List PairKey) → pair_cmp p q ≡ Less → AllByRecursion (λ y. pair_cmp q y ≡ Less) qs → AllByRecursion (λ y. pair_cmp p y ≡ Less) qs
all_behind p q [] before all = tt
all_behind p q (r ∷ rs) before all = (pair_total.trans p q r before all.0, all_behind p q rs before all.1)

-- a net whose first pair comes before all of another has a delta where the other has none
first_differs : (x : Move) (xs net : List Move) → IsNet (x ∷ xs) → AllByRecursion (λ y. pair_cmp (pair_of x) y ≡ Less) (map pair_of net) → ((p : PairKey) → delta_of (x ∷ xs) p ≡ delta_of net p) → ⊥
unfolding IsStrictlySortedBy
first_differs x xs net kept behind same =
    let own = own_delta x in
    let rest = none_behind (pair_of x) xs kept.rising.0 in
    let other = none_behind (pair_of x) net behind in
    let is = same (pair_of x) in
    kept.moves 0 x (omega arith) (omega (arith, ints, own, rest, other, is))

-- there is one net of each change
pub one_net : (a b : List Move) → IsNet a → IsNet b → ((p : PairKey) → delta_of a p ≡ delta_of b p) → a ≡ b
unfolding IsStrictlySortedBy
one_net [] [] ka kb same = refl
one_net [] (y ∷ ys) ka kb same = absurd (first_differs y ys [] kb tt (λ p. sym (same p)))
one_net (x ∷ xs) [] ka kb same = absurd (first_differs x xs [] ka tt same)
one_net (x ∷ xs) (y ∷ ys) ka kb same = by (pair_cmp (pair_of x) (pair_of y)) refl (one_net xs ys (net_tail x xs ka) (net_tail y ys kb))
  where
    net_tail : (z : Move) (zs : List Move) → IsNet (z ∷ zs) → IsNet zs
    net_tail z zs kept = record { rising = kept.rising.1; moves = All-tail (λ (m : Move). m.delta ≢ pos 0) z zs kept.moves }

    by : (o : Ordering) → pair_cmp (pair_of x) (pair_of y) ≡ o → (((p : PairKey) → delta_of xs p ≡ delta_of ys p) → xs ≡ ys) → x ∷ xs ≡ y ∷ ys
    by Less told rest = absurd (first_differs x xs (y ∷ ys) ka (told, all_behind (pair_of x) (pair_of y) (map pair_of ys) told kb.rising.0) same)
    by Greater told rest =
        let back : pair_cmp (pair_of y) (pair_of x) ≡ Less = pair_total.antisymm (pair_of y) (pair_of x) ∙ ap ordering_reverse told in
        absurd (first_differs y ys (x ∷ xs) kb (back, all_behind (pair_of y) (pair_of x) (map pair_of xs) back ka.rising.0) (λ p. sym (same p)))
    by Equal told rest =
        let is : pair_of x ≡ pair_of y = pair_antisymmetric (pair_of x) (pair_of y) told in
        let one = own_delta x in
        let two : at_pair y.account y.asset y.delta (pair_of x) ≡ y.delta = ap (at_pair y.account y.asset y.delta) is ∙ own_delta y in
        let none = none_behind (pair_of x) xs ka.rising.0 in
        let other : delta_of ys (pair_of x) ≡ pos 0 = ap (delta_of ys) is ∙ none_behind (pair_of y) ys kb.rising.0 in
        let there = same (pair_of x) in
        let deltas : x.delta ≡ y.delta = omega (arith, ints, one, two, none, other, there) in
        let moves : x ≡ y = ap (λ (q : PairKey). record { account = q.0; asset = q.1; delta = x.delta }) is ∙ ap (λ z. record { account = y.account; asset = y.asset; delta = z }) deltas in
        ap (λ m. m ∷ xs) moves ∙ ap (λ ms. y ∷ ms) (rest (λ p.
        let both = same p in
        let heads : at_pair x.account x.asset x.delta p ≡ at_pair y.account y.asset y.delta p = ap (λ (m : Move). at_pair m.account m.asset m.delta p) moves in
        omega (arith, ints, both, heads)))

-- after the last change
pub net_done : (m : BTreeMap PairKey ℤ) (net : List Move) (rest : List (PairKey × ℤ)) → IsStrictlySortedBy pair_cmp (keys_of m.entries) → net ++ moves_of rest ≡ moves_of m.entries → rest ≡ [] → IsNetOf (change_of m) net
net_done m net rest ordered whole none =
    let is : net ≡ moves_of m.entries = sym (append-nil net) ∙ ap (λ es. net ++ moves_of es) (sym none) ∙ whole in
    record {
      ordered = subst IsNet (sym is) (moves_net m.entries ordered);
      deltas = λ pair. ap (λ ms. delta_of ms pair) is ∙ moves_deltas m.entries pair ordered;
    }

-- what an i64 holds
pub fits : (z : ℤ) → Within 9223372036854775807 z → FitsSigned w64 z
fits (pos n) within = record { sfits = omega (arith, ints, within.high) }
fits (negsuc n) within = record { sfits = omega (arith, ints, within.low) }

pub read_back : (z : ℤ) → Within 9223372036854775807 z → to_z w64 (of_z w64 z) ≡ z
read_back z within = to_z-of_z w64 z (fits z within)

-- the effect of the instruction at a place
effect_at_within : (ws : List Queued) (pair : PairKey) (p : ℕ) → AllByRecursion (λ (w : Queued). IsInstruction w.item) ws → Within 2000000000000000 (effect_at ws pair p)
effect_at_within [] pair p all = record { low = omega (arith, ints); high = omega (arith, ints) }
effect_at_within (w ∷ ws) pair zero all = effect_within w.item pair all.0
effect_at_within (w ∷ ws) pair (suc p) all = effect_at_within ws pair p all.1

-- rising places below n are at most n
rising_at : (ps : List ℕ) → AllPairs (λ i j. i < j) ps → (k : ℕ) → k < length ps → k ≤ get_or ps k 0
rising_at ps rising zero within = omega arith
rising_at ps rising (suc k) within =
    let before = rising_at ps rising k (omega (arith, within)) in
    let step = rising k (suc k) 0 (omega arith) within in
    omega (arith, before, step)

pub few_places : (n : ℕ) (ps : List ℕ) → AllPairs (λ i j. i < j) ps → All (λ p. p < n) ps → length ps ≤ n
few_places n [] rising below = omega arith
few_places n (p ∷ ps) rising below =
    let last = rising_at (p ∷ ps) rising (length ps) (omega arith) in
    let within = below (length ps) 0 (omega arith) in
    omega (arith, last, within)

-- the effects of some of the places fit
pub effects_within : (ws : List Queued) (ps : List ℕ) (i : ℕ) (pair : PairKey) → length ws ≤ 1024 → All (λ (w : Queued). IsInstruction w.item) ws →
    AllPairs (λ i j. i < j) ps → All (λ p. p < length ws) ps → i ≤ length ps → Within 2048000000000000000 (effects_of ws (take i ps) pair)
effects_within ws ps i pair few all rising below upto =
    let sums = sum_over_within 2000000000000000 (effect_at ws pair) (take i ps) (λ p. effect_at_within ws pair p (recursion_from_All (λ (w : Queued). IsInstruction w.item) ws all)) in
    let size : length (take i ps) ≡ i = length-take-le i ps upto in
    let most = few_places (length ws) ps rising below in
    let bound : length (take i ps) * 2000000000000000 ≤ 2048000000000000000 = omega (arith, size, most, few, upto) in
    record { low = omega (arith, ints, sums.low, bound); high = omega (arith, ints, sums.high, bound) }

pub only_net : {E : Type 0} (r : Result (List Move) E) (f g : PairKey → ℤ) → IfOk r (IsNetOf f) → ((p : PairKey) → f p ≡ g p) → IfOk r (λ net. (other : List Move) → IsNetOf g other → other ≡ net)
only_net (Ok net) f g is same = λ other too. one_net other net too.ordered is.ordered (λ p. too.deltas p ∙ sym (same p) ∙ sym (is.deltas p))
only_net (Err e) f g is same = tt
