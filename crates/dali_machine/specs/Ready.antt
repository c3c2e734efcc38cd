use Rattle.std.specs.Prelude.{◌≡◌, ℕ, ◌+◌, ◌<◌, ◌≤◌, pos, ◌+ℤ◌, ◌≤ℤ◌, List, [], Option, Some, None, IfSome, length, false}
use Rattle.std.specs.List.{All, AllPairs}
use Rattle.dali_account.specs.declared.net.Move.{Move}
use Rattle.dali_account.specs.Net.{pair_of}
use Rattle.dali_account.specs.Units.{units_of}
use Rattle.dali_line.specs.declared.command.Verb.{Verb}
use Rattle.dali_line.specs.declared.command.Verb.TheVariants.{Part, Inst, Dvp, Fop, Pay, Cycle}
use Rattle.dali_line.specs.Grammar.{HasFields}
use Rattle.dali_queue.specs.declared.instruction.Instruction.{Instruction}
use Rattle.dali_queue.specs.Instruction.{IsInstruction}
use Rattle.dali_queue.specs.Limits.{most_queued}
use Rattle.dali_queue.specs.NetOf.{items_at, net_of}
use Rattle.dali_queue.specs.Queue.{is_used}
use Rattle.dali_tree.specs.declared.choice.Choice.{Choice}
use Rattle.dali_machine.specs.Machine.{Machine, StateRecord}
use Rattle.dali_machine.specs.Cycles.{Cycling, places_in, net_of_set}
use Rattle.dali_machine.specs.Kept.{AreKnown}
use Rattle.dali_machine.specs.Refusals.{refusal}
use Rattle.dali_machine.specs.Effects.{net_for}
use Rattle.dali_machine.specs.Step.{judged, turn, step}
use Rattle.dali_machine.specs.declared.judged.Judged.{Judged}
use Rattle.dali_machine.specs.declared.judged.Judged.TheVariants as judgements
use Rattle.dali_machine.specs.declared.outcome.Outcome.{Outcome}
use Rattle.dali_machine.specs.declared.outcome.Outcome.TheVariants as outcomes

-- a judged command, what is answered to it, its number, the net that it books, and the queue places of the instructions
-- that a cycle takes out
pub record ReadyRecord : Type 0 where
  pub judged : Judged
  pub outcome : Outcome
  pub number : ℕ
  pub net : List Move
  pub places : List ℕ

-- the cycle that is answered, if it is one
abbrev pub cycle_in : Outcome → Option Cycling
cycle_in (outcomes.Cycle report) = Some (record { budget = report.budget; choice = report.choice })
cycle_in _ = None

-- the line and the choice were made ready for this state
pub record IsReady (edition : ℕ) (m : Machine) (line : List ℕ) (choice : Option Choice) (ready : ReadyRecord) : Type 0 where
  pub judged : ready.judged ≡ judged edition m line
  pub outcome : ready.outcome ≡ (step edition m line choice).outcome
  pub number : ready.number ≡ m.commands + 1

-- what was judged is ready, with its answer and its number
pub record IsMadeReady (m : Machine) (judgement : Judged) (cycle : Option Cycling) (ready : ReadyRecord) : Type 0 where
  pub judged : ready.judged ≡ judgement
  pub outcome : ready.outcome ≡ (turn m judgement cycle).outcome
  pub number : ready.number ≡ m.commands + 1

-- an accepted verb has its fields in their ranges
abbrev pub HasGoodFields : Judged → Type 0
HasGoodFields judgements.Form = Unit {0}
HasGoodFields judgements.Back = Unit {0}
HasGoodFields (judgements.No t code) = Unit {0}
HasGoodFields (judgements.Yes t verb) = HasFields verb

-- the net that an accepted verb books, and that a judged line books
abbrev pub net_taken : Machine → ℕ → Verb → Option Cycling → List Move
net_taken m t verb None = net_for m verb
net_taken m t verb (Some c) = net_of_set m t c.choice.places

abbrev pub net_of_judged : Machine → Judged → Option Cycling → List Move
net_of_judged m (judgements.Yes t verb) cycle = net_taken m t verb cycle
net_of_judged m _ cycle = []

-- the name that the verb adds is readied, or there is room for its instruction
abbrev pub HasPlaceFor : StateRecord → Verb → Type 0
HasPlaceFor s (Part account) = s.readied_account ≡ Some account
HasPlaceFor s (Inst code price) = s.readied_code ≡ Some code
HasPlaceFor s (Dvp id seller buyer code quantity amount) = 0 < s.places
HasPlaceFor s (Fop id from to code quantity) = 0 < s.places
HasPlaceFor s (Pay id from to amount) = 0 < s.places
HasPlaceFor s _ = Unit {0}

abbrev pub HasPlaceForJudged : StateRecord → Judged → Type 0
HasPlaceForJudged s (judgements.Yes t verb) = HasPlaceFor s verb
HasPlaceForJudged s _ = Unit {0}

-- there is room for the net and for what else a judged line changes
pub record HasRoomFor (s : StateRecord) (judged : Judged) (net : List Move) : Type 0 where
  pub lines : length net ≤ s.lines
  pub rows : length net ≤ s.rows
  pub place : HasPlaceForJudged s judged

-- the state doesn't refuse an accepted verb
abbrev pub IsAllowed : Machine → Judged → Type 0
IsAllowed m (judgements.Yes t verb) = refusal m t verb ≡ None
IsAllowed m _ = Unit {0}

-- a cycle that may be booked: its verb is CYCLE, its places are those of its set, and its net leaves no balance negative
pub record CanBook (m : Machine) (ready : ReadyRecord) (cycle : Cycling) : Type 0 where
  pub moment : ℕ
  pub judged : ready.judged ≡ judgements.Yes moment (Cycle cycle.budget)
  pub places : ready.places ≡ places_in m moment cycle.choice.places
  pub covered : All (λ (x : Move). pos 0 ≤ℤ (pos (units_of m.book.balances (pair_of x)) +ℤ x.delta)) ready.net

-- what `commit` may rely on
pub record CanCommit (s : StateRecord) (ready : ReadyRecord) : Type 0 where
  pub number : ready.number ≡ s.machine.commands + 1
  pub allowed : IsAllowed s.machine ready.judged
  pub fields : HasGoodFields ready.judged
  pub net : ready.net ≡ net_of_judged s.machine ready.judged (cycle_in ready.outcome)
  pub room : HasRoomFor s ready.judged ready.net
  pub cycle : IfSome (cycle_in ready.outcome) (CanBook s.machine ready)

-- the verb isn't refused at some moment, and there is room for what it adds
pub record MayTake (s : StateRecord) (verb : Verb) : Type 0 where
  pub moment : ℕ
  pub allowed : refusal s.machine moment verb ≡ None
  pub fields : HasFields verb
  pub place : HasPlaceFor s verb

-- the net is the verb's, and there is room for it
pub record HasNetFor (s : StateRecord) (verb : Verb) (net : List Move) : Type 0 where
  pub is : net ≡ net_for s.machine verb
  pub lines : length net ≤ s.lines
  pub rows : length net ≤ s.rows

-- a net and the queue places of its instructions, which may be booked at once: no balance becomes negative, and there is
-- room
pub record IsSet (s : StateRecord) (places : List ℕ) (net : List Move) : Type 0 where
  pub is : net ≡ net_of (items_at s.machine.queue.waiting places)
  pub rising : AllPairs (λ i j. i < j) places
  pub in_range : All (λ p. p < length s.machine.queue.waiting) places
  pub covered : All (λ (x : Move). pos 0 ≤ℤ (pos (units_of s.machine.book.balances (pair_of x)) +ℤ x.delta)) net
  pub lines : length net ≤ s.lines
  pub rows : length net ≤ s.rows

-- the instruction may be entered
pub record MayEnter (s : StateRecord) (i : Instruction) : Type 0 where
  pub new : is_used s.machine.queue i.id ≡ false
  pub few : length s.machine.queue.waiting < most_queued
  pub item : IsInstruction i
  pub rank : i.rank ≡ 1
  pub known : AreKnown s.machine.book i
  pub place : 0 < s.places
