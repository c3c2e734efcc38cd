use Rattle.std.proofs.Common.{◌≡◌, ℕ, ℤ, pos, ◌+ℤ◌, Bool, true, false, cond, ◌&&◌, ◌||◌, List, [], ◌∷◌, map, Option, Some, None, refl, sym, ap, ◌∙◌, subst, arith}
use Rattle.std.specs.Prelude.{Result, Ok, Err, IfOk, unwrap_or, slice_get, flat_map}
use Rattle.std.specs.List.{All, AllByRecursion, list_any}
use Rattle.std.specs.List.Sorted.{IsStrictlySortedBy}
use Rattle.std.specs.Map.{lookup, keys_of}
use Rattle.std.specs.Option.{option_map_or}
use Rattle.std.specs.Ordering.{is_eq, int_eq}
use Rattle.std.proofs.lemmas.Int.{ints}
use Rattle.std.proofs.lemmas.List.Elements.{All-nil, All-cons}
use Rattle.std.proofs.lemmas.List.Folds.{list_any-append}
use Rattle.dali_base.specs.Readers.{same_bytes}
use Rattle.dali_account.specs.declared.net.Move.{Move}
use Rattle.dali_account.specs.Book.{cash}
use Rattle.dali_account.specs.Net.{IsNet}
use Rattle.dali_account.specs.Units.{PairKey, pair_cmp}
use Rattle.dali_account.proofs.SumLemmas.{same_name_symm, first_false, second_false}
use Rattle.dali_account.proofs.UnitsLemmas.{pair_ties}
use Rattle.dali_problem.specs.Sums.{pick, sum_over}
use Rattle.dali_queue.specs.declared.instruction.Instruction.{Instruction}
use Rattle.dali_queue.specs.Changed.{moves_of, move_of}
use Rattle.dali_queue.specs.Instruction.{at_pair, moved, effect, changed_pairs}
use Rattle.dali_queue.specs.Queue.{Queued}
use Rattle.dali_queue.specs.NetOf.{effects_of, delta_of, IsNetOf, items_at, moves_at, in_order, all_changed_pairs, net_of}
use Rattle.dali_queue.proofs.NetLemmas.{moves_net, moves_deltas, one_net}
use Rattle.dali_queue.proofs.PairOrder.{tied, tied_is, all_of, any_of, none_of, in_order_same, in_order_rises}

-- the moves of changes at pairs
abbrev with_change : (PairKey → ℤ) → PairKey → PairKey × ℤ
with_change f p = (p, f p)

moves_same : (f : PairKey → ℤ) (ps : List PairKey) → moves_at f ps ≡ moves_of (map (with_change f) ps)
moves_same f [] = refl
moves_same f (p ∷ ps) = ap (λ ms. cond (int_eq (f p) (pos 0)) ms (move_of (with_change f p) ∷ ms)) (moves_same f ps)

keys_same : (f : PairKey → ℤ) (ps : List PairKey) → keys_of (map (with_change f) ps) ≡ ps
keys_same f [] = refl
keys_same f (p ∷ ps) = ap (λ qs. p ∷ qs) (keys_same f ps)

looked : (f : PairKey → ℤ) (pair : PairKey) (ps : List PairKey) → unwrap_or (lookup (λ k. is_eq (pair_cmp pair k)) (map (with_change f) ps)) (pos 0) ≡ pick (list_any (tied pair) ps) (f pair)
looked f pair [] = refl
looked f pair (p ∷ ps) = by (tied pair p) refl (looked f pair ps)
  where
    by : (b : Bool) → tied pair p ≡ b → unwrap_or (lookup (λ k. is_eq (pair_cmp pair k)) (map (with_change f) ps)) (pos 0) ≡ pick (list_any (tied pair) ps) (f pair) →
        unwrap_or (cond b (Some (f p)) (lookup (λ k. is_eq (pair_cmp pair k)) (map (with_change f) ps))) (pos 0) ≡ pick (b || list_any (tied pair) ps) (f pair)
    by true same rest = ap f (sym (tied_is pair p same))
    by false same rest = rest

pub moves_all : (P : Move → Type 0) (f : PairKey → ℤ) (ps : List PairKey) → AllByRecursion (λ q. P (record { account = q.0; asset = q.1; delta = f q })) ps → All P (moves_at f ps)
moves_all P f [] h = All-nil P
moves_all P f (p ∷ ps) h = by (int_eq (f p) (pos 0)) (moves_all P f ps h.1)
  where
    by : (b : Bool) → All P (moves_at f ps) → All P (cond b (moves_at f ps) (record { account = p.0; asset = p.1; delta = f p } ∷ moves_at f ps))
    by true rest = rest
    by false rest = All-cons P (record { account = p.0; asset = p.1; delta = f p }) (moves_at f ps) h.0 rest

-- changes that are 0 at every other pair: the moves at these pairs in order are the net
pub net_at : (f : PairKey → ℤ) (ps : List PairKey) → ((q : PairKey) → list_any (tied q) ps ≡ false → f q ≡ pos 0) → IsNetOf f (moves_at f (in_order ps))
net_at f ps outside =
    let qs = in_order ps in
    let sorted : IsStrictlySortedBy pair_cmp (keys_of (map (with_change f) qs)) = subst (λ ks. IsStrictlySortedBy pair_cmp ks) (sym (keys_same f qs)) (in_order_rises ps) in
    record {
      ordered = subst IsNet (sym (moves_same f qs)) (moves_net (map (with_change f) qs) sorted);
      deltas = λ pair. ap (λ ms. delta_of ms pair) (moves_same f qs) ∙ moves_deltas (map (with_change f) qs) pair sorted ∙ looked f pair qs
          ∙ ap (λ b. pick b (f pair)) (in_order_same ps pair) ∙ by pair (list_any (tied pair) ps) refl;
    }
  where
    by : (pair : PairKey) (b : Bool) → list_any (tied pair) ps ≡ b → pick b (f pair) ≡ f pair
    by pair true there = refl
    by pair false none = sym (outside pair none)

-- what an instruction changes
at_none : (p q : PairKey) (z : ℤ) → tied q p ≡ false → at_pair p.0 p.1 z q ≡ pos 0
at_none p q z apart = ap (λ b. pick b z) (ap (λ t. t && same_bytes p.1 q.1) (same_name_symm p.0 q.0) ∙ ap (λ t. same_bytes q.0 p.0 && t) (same_name_symm p.1 q.1) ∙ pair_ties q p ∙ apart)

pub effect_outside : (i : Instruction) (q : PairKey) → list_any (tied q) (changed_pairs i) ≡ false → effect i q ≡ pos 0
unfolding effect moved
effect_outside i q none =
    let apart = none_of (tied q) (changed_pairs i) none in
    let one = at_none (i.giver, i.code) q (pos i.quantity) apart.0 in
    let two = at_none (i.taker, i.code) q (pos i.quantity) apart.1.0 in
    let three = at_none (i.giver, cash) q (pos i.cash) apart.1.1.0 in
    let four = at_none (i.taker, cash) q (pos i.cash) apart.1.1.1.0 in
    omega (arith, ints, one, two, three, four)

-- all effects of some instructions on a pair
abbrev pub total : List Instruction → PairKey → ℤ
total items pair = sum_over (λ i. effect i pair) items

pub total_outside : (items : List Instruction) (q : PairKey) → list_any (tied q) (flat_map changed_pairs items) ≡ false → total items q ≡ pos 0
total_outside [] q none = refl
total_outside (i ∷ items) q none =
    let parts = sym (list_any-append (tied q) (changed_pairs i) (flat_map changed_pairs items)) ∙ none in
    let one = effect_outside i q (first_false (list_any (tied q) (changed_pairs i)) (list_any (tied q) (flat_map changed_pairs items)) parts) in
    let rest = total_outside items q (second_false (list_any (tied q) (changed_pairs i)) (list_any (tied q) (flat_map changed_pairs items)) parts) in
    omega (arith, ints, one, rest)

-- the net of some instructions is that of all their effects at once
pub net_of_is : (items : List Instruction) → IsNetOf (total items) (net_of items)
unfolding net_of
net_of_is items = net_at (total items) (flat_map changed_pairs items) (total_outside items)

-- what holds of the pairs that they may change holds of all moves of their net
pub net_of_all : (P : Move → Type 0) (items : List Instruction) → AllByRecursion (λ q. P (record { account = q.0; asset = q.1; delta = total items q })) (flat_map changed_pairs items) → All P (net_of items)
unfolding net_of
net_of_all P items h = moves_all P (total items) (all_changed_pairs items)
    (all_of (λ q. P (record { account = q.0; asset = q.1; delta = total items q })) (all_changed_pairs items)
    (λ q e. any_of (λ q. P (record { account = q.0; asset = q.1; delta = total items q })) (flat_map changed_pairs items) h q (sym (in_order_same (flat_map changed_pairs items) q) ∙ e)))

-- the effects of the instructions at some places
pub effects_are : (ws : List Queued) (ps : List ℕ) (pair : PairKey) → effects_of ws ps pair ≡ total (items_at ws ps) pair
effects_are ws [] pair = refl
effects_are ws (p ∷ ps) pair = by (slice_get ws p) (effects_are ws ps pair)
  where
    by : (o : Option Queued) → effects_of ws ps pair ≡ total (items_at ws ps) pair →
        option_map_or (λ (w : Queued). effect w.item pair) o (pos 0) +ℤ effects_of ws ps pair ≡ total (option_map_or (λ (w : Queued). w.item ∷ items_at ws ps) o (items_at ws ps)) pair
    by None rest = omega (arith, ints, rest)
    by (Some w) rest = ap (λ z. effect w.item pair +ℤ z) rest

pub is_net_of : {E : Type 0} (r : Result (List Move) E) (f : PairKey → ℤ) (items : List Instruction) → IfOk r (IsNetOf f) → ((p : PairKey) → f p ≡ total items p) → IfOk r (λ net. net ≡ net_of items)
is_net_of (Ok net) f items is same = one_net net (net_of items) is.ordered (net_of_is items).ordered (λ p. is.deltas p ∙ same p ∙ sym ((net_of_is items).deltas p))
is_net_of (Err e) f items is same = tt
