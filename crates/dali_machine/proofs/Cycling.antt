use Rattle.std.proofs.Common.{◌≡◌, ◌≢◌, ℕ, ◌+◌, ◌-◌, ◌*◌, ◌^◌, ◌<◌, ◌≤◌, zero, suc, ℤ, pos, ◌+ℤ◌, ◌≤ℤ◌, Bool, true, false, cond, ◌&&◌, true≢false, List, [], ◌∷◌, ◌++◌, map, length, get_or, drop, take, eqb, Option, Some, None, refl, sym, ap, ◌∙◌, subst, arith}
use Rattle.std.specs.Prelude.{sum_by, flat_map, slice_get, IfSome, Result, Ok, Err, IfOk}
use Rattle.std.specs.List.{All, AllPairs, AllByRecursion, list_any, filter}
use Rattle.std.specs.Option.{option_map_or}
use Rattle.std.proofs.lemmas.Int.{ints}
use Rattle.std.proofs.lemmas.List.{length-map}
use Rattle.std.proofs.lemmas.Bool.Decides.{nat_tests}
use Rattle.std.proofs.lemmas.List.Elements.{All-nil, All-cons, All-head, All-tail}
use Rattle.std.proofs.lemmas.List.Kept.{AllPairs-cons}
use Rattle.std.proofs.Math.Seq.{drop-cons}
use Rattle.dali_account.specs.declared.net.Move.{Move}
use Rattle.dali_account.specs.Book.{knows_pair, total_of}
use Rattle.dali_account.specs.Net.{pair_of, with_net}
use Rattle.dali_account.specs.Units.{PairKey, units_of}
use Rattle.dali_line.specs.declared.command.Verb.{Verb}
use Rattle.dali_line.specs.declared.command.Verb.TheVariants.{Cycle}
use Rattle.dali_queue.specs.declared.instruction.Instruction.{Instruction}
use Rattle.dali_tree.specs.declared.choice.Choice.{Choice}
use Rattle.dali_queue.specs.CycleProblem.{may_settle, groups_at, places_from, chosen_of, problem_of, input_of}
use Rattle.dali_queue.specs.Instruction.{changed_pairs}
use Rattle.dali_queue.specs.NetOf.{items_at, net_of}
use Rattle.dali_queue.specs.Queue.{Queued, QueueRecord, others, removed}
use Rattle.dali_queue.proofs.Bridging.{number, settled, none_negative, items_are}
use Rattle.dali_queue.proofs.NetItems.{total, net_of_all}
use Rattle.dali_machine.specs.Machine.{Machine, StateRecord}
use Rattle.dali_machine.specs.Kept.{AreKnown, IsMachine}
use Rattle.dali_machine.specs.Cycles.{Cycling, ids_at, input_at, places_in, net_of_set, with_set, cycled, problem_at, report_on, report_of}
use Rattle.dali_machine.specs.Ready.{ReadyRecord, CanBook, CanCommit, IsSet, cycle_in, net_of_judged}
use Rattle.dali_machine.specs.Step.{one_command_more, at_moment, turn}
use Rattle.dali_machine.specs.declared.judged.Judged.{Judged}
use Rattle.dali_machine.specs.declared.judged.Judged.TheVariants as judgements
use Rattle.dali_machine.proofs.Booking.{IsBooked}
use Rattle.dali_machine.proofs.Several.{known_moves, several_booked, total_same}

-- numbers that rise from lo on, below hi
abbrev pub Up : ℕ → ℕ → List ℕ → Type 0
Up lo hi [] = Unit {0}
Up lo hi (p ∷ ps) = (lo ≤ p) × ((p < hi) × Up (p + 1) hi ps)

up_weaken : (lo lower hi : ℕ) (ps : List ℕ) → lower ≤ lo → Up lo hi ps → Up lower hi ps
up_weaken lo lower hi [] less h = tt
up_weaken lo lower hi (p ∷ ps) less h = ((let from = h.0 in omega (arith, less, from)), h.1)

places_up : (test : Queued → Bool) (k : ℕ) (ws : List Queued) → Up k (k + length ws) (places_from test k ws)
places_up test k [] = tt
places_up test k (w ∷ ws) = by (test w) (subst (λ n. Up (k + 1) n (places_from test (k + 1) ws)) (omega arith) (places_up test (k + 1) ws))
  where
    by : (b : Bool) → Up (k + 1) (k + length (w ∷ ws)) (places_from test (k + 1) ws) → Up k (k + length (w ∷ ws)) (cond b (k ∷ places_from test (k + 1) ws) (places_from test (k + 1) ws))
    by true rest = (omega arith, (omega arith, rest))
    by false rest = up_weaken (k + 1) k (k + length (w ∷ ws)) (places_from test (k + 1) ws) (omega arith) rest

chosen_up : (set : List ℕ) (lo hi : ℕ) (ps js : List ℕ) → Up lo hi ps → Up lo hi (chosen_of set ps js)
chosen_up set lo hi [] js h = tt
chosen_up set lo hi (p ∷ ps) [] h = tt
chosen_up set lo hi (p ∷ ps) (j ∷ js) h = by (list_any (λ k. eqb k j) set) (chosen_up set (p + 1) hi ps js h.1.1)
  where
    by : (b : Bool) → Up (p + 1) hi (chosen_of set ps js) → Up lo hi (cond b (p ∷ chosen_of set ps js) (chosen_of set ps js))
    by true rest = (h.0, (h.1.0, rest))
    by false rest = up_weaken (p + 1) lo hi (chosen_of set ps js) (let from = h.0 in omega (arith, from)) rest

up_above : (lo hi : ℕ) (ps : List ℕ) → Up lo hi ps → (x : ℕ) → x < lo → All (λ p. x < p) ps
up_above lo hi [] h x less = All-nil (λ p. x < p)
up_above lo hi (p ∷ ps) h x less = let from = h.0 in All-cons (λ p. x < p) p ps (omega (arith, less, from)) (up_above (p + 1) hi ps h.1.1 x (omega (arith, less, from)))

up_rises : (lo hi : ℕ) (ps : List ℕ) → Up lo hi ps → AllPairs (λ i j. i < j) ps
up_rises lo hi [] h = λ i j d less within. absurd (omega (arith, within))
up_rises lo hi (p ∷ ps) h = AllPairs-cons (λ i j. i < j) p ps (up_above (p + 1) hi ps h.1.1 p (omega arith)) (up_rises (p + 1) hi ps h.1.1)

up_within : (lo hi : ℕ) (ps : List ℕ) → Up lo hi ps → All (λ p. p < hi) ps
up_within lo hi [] h = All-nil (λ p. p < hi)
up_within lo hi (p ∷ ps) h = All-cons (λ p. p < hi) p ps h.1.0 (up_within (p + 1) hi ps h.1.1)

-- one place and its number, and what follows them
pub chosen_drop : (set at items : List ℕ) (k : ℕ) (p j : ℕ) → length items ≡ length at → k < length at → p ≡ get_or at k 0 → j ≡ get_or items k 0 →
    chosen_of set (drop k at) (drop k items) ≡ cond (list_any (λ i. eqb i j) set) (p ∷ chosen_of set (drop (k + 1) at) (drop (k + 1) items)) (chosen_of set (drop (k + 1) at) (drop (k + 1) items))
chosen_drop set at items k p j same within first second =
    let less : k < length items = omega (arith, same, within) in
    let up : suc k ≡ k + 1 = omega arith in
    ap (λ ps. chosen_of set ps (drop k items)) (drop-cons at k 0 within ∙ ap (λ x. x ∷ drop (suc k) at) (sym first))
    ∙ ap (chosen_of set (p ∷ drop (suc k) at)) (drop-cons items k 0 less ∙ ap (λ x. x ∷ drop (suc k) items) (sym second))
    ∙ ap (λ n. cond (list_any (λ i. eqb i j) set) (p ∷ chosen_of set (drop n at) (drop n items)) (chosen_of set (drop n at) (drop n items))) up

-- as many numbers as places
same_size : (test : Queued → Bool) (number : Queued → ℕ) (k : ℕ) (ws : List Queued) → length (map number (filter test ws)) ≡ length (places_from test k ws)
same_size test number k [] = refl
same_size test number k (w ∷ ws) = by (test w) (same_size test number (k + 1) ws)
  where
    by : (b : Bool) → length (map number (filter test ws)) ≡ length (places_from test (k + 1) ws) → length (map number (cond b (w ∷ filter test ws) (filter test ws))) ≡ length (cond b (k ∷ places_from test (k + 1) ws) (places_from test (k + 1) ws))
    by true rest = ap suc rest
    by false rest = rest

pub input_sizes : (m : Machine) (t : ℕ) → length (input_at m t).item ≡ length (input_at m t).at
unfolding input_of
input_sizes m t = same_size (may_settle m.queue t) (number m.book m.queue t) 0 m.queue.waiting

pub input_problem : (m : Machine) (t : ℕ) → (input_at m t).problem ≡ problem_of m.book m.queue t
unfolding input_of
input_problem m t = refl

-- the places of a set of a cycle
module _ (m : Machine) (t : ℕ) (set : List ℕ) where
  set_up : Up 0 (length m.queue.waiting) (places_in m t set)
  unfolding input_of
  set_up = chosen_up set 0 (length m.queue.waiting) (input_at m t).at (input_at m t).item
      (subst (λ n. Up 0 n (input_at m t).at) (omega arith) (places_up (may_settle m.queue t) 0 m.queue.waiting))

  pub set_rises : AllPairs (λ i j. i < j) (places_in m t set)
  set_rises = up_rises 0 (length m.queue.waiting) (places_in m t set) set_up

  pub set_within : All (λ p. p < length m.queue.waiting) (places_in m t set)
  set_within = up_within 0 (length m.queue.waiting) (places_in m t set) set_up

-- what holds of all queued instructions holds of those at some places
found_at : (P : Instruction → Type 0) (ws : List Queued) (p : ℕ) (w : Queued) → All (λ (v : Queued). P v.item) ws → slice_get ws p ≡ Some w → P w.item
found_at P [] p w all e = absurd (cc)
found_at P (v ∷ ws) zero w all e = subst (λ (o : Option Queued). IfSome o (λ x. P x.item)) e (All-head (λ (v : Queued). P v.item) v ws all)
found_at P (v ∷ ws) (suc p) w all e = found_at P ws p w (All-tail (λ (v : Queued). P v.item) v ws all) e

pub all_at : (P : Instruction → Type 0) (ws : List Queued) (ps : List ℕ) → All (λ (v : Queued). P v.item) ws → AllByRecursion P (items_at ws ps)
all_at P ws [] all = tt
all_at P ws (p ∷ ps) all = by (slice_get ws p) refl (all_at P ws ps all)
  where
    by : (o : Option Queued) → slice_get ws p ≡ o → AllByRecursion P (items_at ws ps) → AllByRecursion P (option_map_or (λ (w : Queued). w.item ∷ items_at ws ps) o (items_at ws ps))
    by None e rest = rest
    by (Some w) e rest = (found_at P ws p w all e, rest)

-- and of those that are left
pub all_left : (P : Queued → Type 0) (places : List ℕ) (k : ℕ) (ws : List Queued) → All P ws → All P (others places k ws)
all_left P places k [] all = All-nil P
all_left P places k (w ∷ ws) all = by (list_any (eqb k) places) (all_left P places (k + 1) ws (All-tail P w ws all))
  where
    by : (b : Bool) → All P (others places (k + 1) ws) → All P (cond b (others places (k + 1) ws) (w ∷ others places (k + 1) ws))
    by true rest = rest
    by false rest = All-cons P w (others places (k + 1) ws) (All-head P w ws all) rest

-- there are no more instructions at places than places
items_few : (ws : List Queued) (ps : List ℕ) → length (items_at ws ps) ≤ length ps
items_few ws [] = omega arith
items_few ws (p ∷ ps) = by (slice_get ws p) (items_few ws ps)
  where
    by : (o : Option Queued) → length (items_at ws ps) ≤ length ps → length (option_map_or (λ (w : Queued). w.item ∷ items_at ws ps) o (items_at ws ps)) ≤ suc (length ps)
    by None rest = omega (arith, rest)
    by (Some w) rest = omega (arith, rest)

up_few : (lo hi : ℕ) (ps : List ℕ) → Up lo hi ps → length ps ≤ hi - lo
up_few lo hi [] h = omega arith
up_few lo hi (p ∷ ps) h =
    let rest = up_few (p + 1) hi ps h.1.1 in
    let from = h.0 in
    let within = h.1.0 in
    omega (arith, rest, from, within)

pub ids_few : (m : Machine) (t : ℕ) (set : List ℕ) → length m.queue.waiting ≤ 1024 → length (ids_at m (places_in m t set)) < 2 ^ 32
ids_few m t set few =
    let count : length (ids_at m (places_in m t set)) ≡ length (items_at m.queue.waiting (places_in m t set)) = length-map (items_at m.queue.waiting (places_in m t set)) (λ (i : Instruction). i.id) in
    let one = items_few m.queue.waiting (places_in m t set) in
    let two = up_few 0 (length m.queue.waiting) (places_in m t set) (set_up m t set) in
    omega (arith, count, one, two, few)

-- what booking a set may rely on
pub record IsBooking (m : Machine) (net : List Move) : Type 0 where
  pub known : All (λ (x : Move). knows_pair m.book x.account x.asset ≡ true) net
  pub covered : All (λ (x : Move). pos 0 ≤ℤ (pos (units_of m.book.balances (pair_of x)) +ℤ x.delta)) net
  pub done : IsBooked m (record m.book { balances = with_net m.book.balances net }) net

pub booking : (s : StateRecord) (places : List ℕ) (net : List Move) → IsMachine s.machine → IsSet s places net → IsBooking s.machine net
booking s places net kept ready =
    let items : List Instruction = items_at s.machine.queue.waiting places in
    let known : AllByRecursion (AreKnown s.machine.book) items = all_at (AreKnown s.machine.book) s.machine.queue.waiting places kept.known in
    let covered : All (λ (x : Move). pos 0 ≤ℤ (pos (units_of s.machine.book.balances (pair_of x)) +ℤ x.delta)) (net_of items) = subst (λ (ms : List Move). All (λ (x : Move). pos 0 ≤ℤ (pos (units_of s.machine.book.balances (pair_of x)) +ℤ x.delta)) ms) ready.is ready.covered in
    subst (IsBooking s.machine) (sym ready.is) (record {
      known = known_moves s.machine kept items known covered;
      covered = covered;
      done = several_booked s.machine kept items known covered;
    })

-- and no asset's total changes
pub set_total : (s : StateRecord) (places : List ℕ) (net : List Move) → IsMachine s.machine → IsSet s places net → (q : List ℕ) →
    total_of (record s.machine.book { balances = with_net s.machine.book.balances net }) q ≡ total_of s.machine.book q
set_total s places net kept ready q =
    let items : List Instruction = items_at s.machine.queue.waiting places in
    let known : AllByRecursion (AreKnown s.machine.book) items = all_at (AreKnown s.machine.book) s.machine.queue.waiting places kept.known in
    let covered : All (λ (x : Move). pos 0 ≤ℤ (pos (units_of s.machine.book.balances (pair_of x)) +ℤ x.delta)) (net_of items) = subst (λ (ms : List Move). All (λ (x : Move). pos 0 ≤ℤ (pos (units_of s.machine.book.balances (pair_of x)) +ℤ x.delta)) ms) ready.is ready.covered in
    ap (λ ms. total_of (record s.machine.book { balances = with_net s.machine.book.balances ms }) q) ready.is ∙ total_same s.machine kept items known covered q

-- a cycle that may be committed may be booked at its moment
module _ (s : StateRecord) (t : ℕ) (verb : Verb) (ready : ReadyRecord) (c : Cycling) (can : CanCommit s ready) (told : cycle_in ready.outcome ≡ Some c) (is : ready.judged ≡ judgements.Yes t verb) where
  book : CanBook s.machine ready c
  book = subst (λ (o : Option Cycling). IfSome o (CanBook s.machine ready)) told can.cycle

  moment_is : book.moment ≡ t
  moment_is = ap (λ (j : Judged). moment_in j) (sym book.judged ∙ is)
    where
      moment_in : Judged → ℕ
      moment_in (judgements.Yes u verb) = u
      moment_in _ = 0

  places_are : ready.places ≡ places_in s.machine t c.choice.places
  places_are = book.places ∙ ap (λ u. places_in s.machine u c.choice.places) moment_is

  net_is : ready.net ≡ net_of_set s.machine t c.choice.places
  net_is = can.net ∙ ap (net_of_judged s.machine ready.judged) told ∙ ap (λ (j : Judged). net_of_judged s.machine j (Some c)) is

  pub set_ready : IsSet (record s { machine = at_moment (one_command_more s.machine) t }) ready.places ready.net
  set_ready = record {
    is = net_is ∙ ap (λ ps. net_of (items_at s.machine.queue.waiting ps)) (sym places_are);
    rising = subst (AllPairs (λ i j. i < j)) (sym places_are) (set_rises s.machine t c.choice.places);
    in_range = subst (All (λ p. p < length s.machine.queue.waiting)) (sym places_are) (set_within s.machine t c.choice.places);
    covered = book.covered;
    lines = can.room.lines;
    rows = can.room.rows;
  }

  pub set_taken : with_set (at_moment (one_command_more s.machine) t) ready.net ready.places ≡ (turn (one_command_more s.machine) ready.judged (cycle_in ready.outcome)).next
  unfolding cycled
  set_taken =
      ap (λ ms. with_set (at_moment (one_command_more s.machine) t) ms ready.places) net_is
      ∙ ap (with_set (at_moment (one_command_more s.machine) t) (net_of_set s.machine t c.choice.places)) places_are
      ∙ sym (ap (λ (j : Judged). (turn (one_command_more s.machine) j (cycle_in ready.outcome)).next) is ∙ ap (λ (o : Option Cycling). (turn (one_command_more s.machine) (judgements.Yes t verb) o).next) told)

-- what a cycle of an allowed choice answers is its report
pub report_is : (m : Machine) (t budget : ℕ) (choice : Choice) → report_on (problem_at m t) (ids_at m (places_in m t choice.places)) budget choice ≡ report_of m t budget choice
unfolding report_of
report_is m t budget choice = refl
