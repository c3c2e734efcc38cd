use Rattle.std.proofs.Common.{◌≡◌, ℕ, ◌≤◌, ℤ, pos, negsuc, ◌+ℤ◌, ◌≤ℤ◌, Bool, true, false, not, ◌||◌, true≢false, List, [], ◌∷◌, Some, None, nat_lt, refl, sym, ap, ◌∙◌, subst, arith}
use Rattle.std.specs.Int.Signed.{lt_z}
use Rattle.std.specs.List.{All, AllByRecursion, list_any}
use Rattle.std.specs.Option.{option_map_or}
use Rattle.std.proofs.lemmas.Int.{ints}
use Rattle.dali_account.specs.declared.net.Move.{Move}
use Rattle.dali_account.specs.Book.{BookRecord, cash, knows_pair, total_of}
use Rattle.dali_account.specs.Net.{pair_of, with_net}
use Rattle.dali_account.specs.Units.{PairKey, units_of}
use Rattle.dali_line.specs.declared.command.Verb.TheVariants as verbs
use Rattle.dali_queue.specs.declared.instruction.Instruction.{Instruction}
use Rattle.dali_queue.specs.Groups.{group_size}
use Rattle.dali_queue.specs.Instruction.{effect, changed_pairs}
use Rattle.dali_queue.specs.NetOf.{net_of}
use Rattle.dali_queue.specs.Queue.{is_queued, item_of, without}
use Rattle.dali_queue.proofs.NetItems.{total, net_of_all}
use Rattle.dali_machine.specs.Machine.{Machine, StateRecord}
use Rattle.dali_machine.specs.Kept.{AreKnown, IsMachine}
use Rattle.dali_machine.specs.declared.outcome.Code.TheVariants.{Short, Late, Gone, Linked}
use Rattle.dali_machine.specs.Refusals.{refusal, of_queued, is_late, is_short, lacks}
use Rattle.dali_machine.specs.Effects.{accepted, booked, with_queue, settled, net_for}
use Rattle.dali_machine.specs.Ready.{MayTake, HasNetFor}
use Rattle.dali_machine.proofs.Allowed.{none_first, none_after, is_true, left_false, right_false}
use Rattle.dali_machine.proofs.Booking.{IsBooked}
use Rattle.dali_machine.proofs.Placing.{found}
use Rattle.dali_machine.proofs.Several as several

not_negative : (z : ℤ) → lt_z z (pos 0) ≡ false → pos 0 ≤ℤ z
not_negative (pos n) e = omega (arith, ints)
not_negative (negsuc n) e = absurd (true≢false e)

none_of : (f : PairKey → Bool) (ps : List PairKey) → list_any f ps ≡ false → AllByRecursion (λ p. f p ≡ false) ps
none_of f [] e = tt
none_of f (p ∷ ps) e = (left_false (f p) (list_any f ps) e, none_of f ps (right_false (f p) (list_any f ps) e))

module _ (m : Machine) (kept : IsMachine m) (t : ℕ) (id : List ℕ) (i : Instruction) (is : item_of m.queue.waiting id ≡ Some i) (allowed : refusal m t (verbs.Settle id) ≡ None) where
  parties : AreKnown m.book i
  parties = found (AreKnown m.book) m.queue.waiting id i kept.known is

  not_short : is_short m.book i ≡ false
  unfolding refusal
  not_short =
      let gone : Bool = not (is_queued m.queue.waiting id) in
      let linked : Bool = nat_lt 1 (group_size m.queue.waiting id) in
      let late : Bool = of_queued m id (λ j. is_late m j.kind t) in
      let short : Bool = of_queued m id (is_short m.book) in
      let last = none_after late Late ((short, Short) ∷ []) (none_after linked Linked ((late, Late) ∷ (short, Short) ∷ []) (none_after gone Gone ((linked, Linked) ∷ (late, Late) ∷ (short, Short) ∷ []) allowed)) in
      ap (λ o. option_map_or (is_short m.book) o false) (sym is) ∙ none_first short Short [] last

  covers : (pair : PairKey) → lacks m.book i pair ≡ false → pos 0 ≤ℤ (pos (units_of m.book.balances pair) +ℤ total (i ∷ []) pair)
  covers pair e =
      let enough = not_negative (pos (units_of m.book.balances pair) +ℤ effect i pair) e in
      omega (arith, ints, enough)

  pub covered : All (λ (x : Move). pos 0 ≤ℤ (pos (units_of m.book.balances (pair_of x)) +ℤ x.delta)) (net_of (i ∷ []))
  covered =
      let h = none_of (lacks m.book i) (changed_pairs i) not_short in
      net_of_all (λ (x : Move). pos 0 ≤ℤ (pos (units_of m.book.balances (pair_of x)) +ℤ x.delta)) (i ∷ [])
      (covers (i.giver, i.code) h.0, (covers (i.taker, i.code) h.1.0, (covers (i.giver, cash) h.1.1.0, (covers (i.taker, cash) h.1.1.1.0, tt))))

  pub known_moves : All (λ (x : Move). knows_pair m.book x.account x.asset ≡ true) (net_of (i ∷ []))
  known_moves = several.known_moves m kept (i ∷ []) (parties, tt) covered

  abbrev target : BookRecord
  target = record m.book { balances = with_net m.book.balances (net_of (i ∷ [])) }

  pub total_same : (q : List ℕ) → total_of target q ≡ total_of m.book q
  total_same = several.total_same m kept (i ∷ []) (parties, tt) covered

  pub settle_booked : IsBooked m target (net_of (i ∷ []))
  settle_booked = several.several_booked m kept (i ∷ []) (parties, tt) covered

  pub settle_effect : accepted m (verbs.Settle id) ≡ booked (with_queue m (record m.queue { waiting = without m.queue.waiting id })) target (net_of (i ∷ []))
  unfolding accepted
  settle_effect = ap (settled m id) is

  pub settle_net : net_for m (verbs.Settle id) ≡ net_of (i ∷ [])
  unfolding net_for
  settle_net = ap (λ o. option_map_or (λ (j : Instruction). net_of (j ∷ [])) o []) is

pub settle_queued : (m : Machine) (t : ℕ) (id : List ℕ) → refusal m t (verbs.Settle id) ≡ None → is_queued m.queue.waiting id ≡ true
unfolding refusal
settle_queued m t id allowed =
    let linked : Bool = nat_lt 1 (group_size m.queue.waiting id) in
    let late : Bool = of_queued m id (λ j. is_late m j.kind t) in
    let short : Bool = of_queued m id (is_short m.book) in
    is_true (is_queued m.queue.waiting id) (none_first (not (is_queued m.queue.waiting id)) Gone ((linked, Linked) ∷ (late, Late) ∷ (short, Short) ∷ []) allowed)

-- what the calls of SETTLE may rely on
pub record IsSettling (m : Machine) (id : List ℕ) (net : List Move) : Type 0 where
  pub known : All (λ (x : Move). knows_pair m.book x.account x.asset ≡ true) net
  pub covered : All (λ (x : Move). pos 0 ≤ℤ (pos (units_of m.book.balances (pair_of x)) +ℤ x.delta)) net
  pub done : IsBooked m (record m.book { balances = with_net m.book.balances net }) net
  pub effect : accepted m (verbs.Settle id) ≡ booked (with_queue m (record m.queue { waiting = without m.queue.waiting id })) (record m.book { balances = with_net m.book.balances net }) net

pub settling : (s : StateRecord) (id : List ℕ) (net : List Move) (i : Instruction) → IsMachine s.machine → MayTake s (verbs.Settle id) → HasNetFor s (verbs.Settle id) net → item_of s.machine.queue.waiting id ≡ Some i → IsSettling s.machine id net
settling s id net i kept take has is = subst (IsSettling s.machine id) (sym (has.is ∙ settle_net s.machine kept take.moment id i is take.allowed)) (record {
  known = known_moves s.machine kept take.moment id i is take.allowed;
  covered = covered s.machine kept take.moment id i is take.allowed;
  done = settle_booked s.machine kept take.moment id i is take.allowed;
  effect = settle_effect s.machine kept take.moment id i is take.allowed;
})
