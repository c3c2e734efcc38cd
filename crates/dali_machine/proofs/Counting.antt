use Rattle.std.proofs.Common.{◌≡◌, ℕ, ◌+◌, ◌≤◌, Bool, true, false, cond, List, Option, Some, None, nat_lt, refl, sym, subst, arith}
use Rattle.std.proofs.lemmas.Bool.Decides.{nat_tests}
use Rattle.dali_line.specs.declared.command.Command.{Command}
use Rattle.dali_line.specs.declared.command.Verb.{Verb}
use Rattle.dali_line.specs.declared.command.Verb.TheVariants.{Part, Inst, Issue, Draw, Dvp, Fop, Pay, Cancel, Settle, Cutoff, Cycle, Queue, Close, Stat, Ledger, Earmark, Release, Link, Rank}
use Rattle.dali_queue.specs.declared.instruction.Instruction.{Instruction}
use Rattle.dali_queue.specs.Queue.{item_of}
use Rattle.dali_machine.specs.Machine.{Machine}
use Rattle.dali_machine.specs.declared.outcome.Code.{Code}
use Rattle.dali_machine.specs.declared.judged.Judged.{Judged}
use Rattle.dali_machine.specs.declared.judged.Judged.TheVariants as judgements
use Rattle.dali_line.specs.Reading.{command_of}
use Rattle.dali_tree.specs.declared.choice.Choice.{Choice}
use Rattle.dali_machine.specs.Cycles.{Cycling, cycled}
use Rattle.dali_machine.specs.Effects.{accepted, settled}
use Rattle.dali_machine.specs.Step.{one_command_more, at_moment, taken, turn, judged, judged_by, judged_command, verdict}
use Rattle.dali_machine.specs.Ready.{ReadyRecord, IsReady, cycle_in}

-- an accepted verb changes neither the count nor the greatest moment
pub record KeepsTime (old new : Machine) : Type 0 where
  pub commands : new.commands ≡ old.commands
  pub greatest : new.greatest ≡ old.greatest

settled_time : (m : Machine) (id : List ℕ) (o : Option Instruction) → KeepsTime m (settled m id o)
settled_time m id None = record { commands = refl; greatest = refl }
settled_time m id (Some i) = record { commands = refl; greatest = refl }

accepted_time : (m : Machine) (verb : Verb) → KeepsTime m (accepted m verb)
unfolding accepted
accepted_time m (Part account) = record { commands = refl; greatest = refl }
accepted_time m (Inst code price) = record { commands = refl; greatest = refl }
accepted_time m (Issue account asset n) = record { commands = refl; greatest = refl }
accepted_time m (Draw account asset n) = record { commands = refl; greatest = refl }
accepted_time m (Dvp id seller buyer code quantity amount) = record { commands = refl; greatest = refl }
accepted_time m (Fop id from to code quantity) = record { commands = refl; greatest = refl }
accepted_time m (Pay id from to amount) = record { commands = refl; greatest = refl }
accepted_time m (Cancel id) = record { commands = refl; greatest = refl }
accepted_time m (Settle id) = settled_time m id (item_of m.queue.waiting id)
accepted_time m (Cutoff kind moment) = record { commands = refl; greatest = refl }
accepted_time m (Cycle budget) = record { commands = refl; greatest = refl }
accepted_time m Queue = record { commands = refl; greatest = refl }
accepted_time m Close = record { commands = refl; greatest = refl }
accepted_time m (Stat account) = record { commands = refl; greatest = refl }
accepted_time m (Ledger account) = record { commands = refl; greatest = refl }
accepted_time m (Earmark account asset n) = record { commands = refl; greatest = refl }
accepted_time m (Release account asset n) = record { commands = refl; greatest = refl }
accepted_time m (Link first second) = record { commands = refl; greatest = refl }
accepted_time m (Rank id rank) = record { commands = refl; greatest = refl }

cycled_time : (m : Machine) (choice : Choice) → KeepsTime m (cycled m choice)
unfolding cycled
cycled_time m choice = record { commands = refl; greatest = refl }

taken_time : (m : Machine) (t : ℕ) (verb : Verb) (cycle : Option Cycling) → KeepsTime (at_moment m t) (taken m t verb cycle).next
taken_time m t verb None = accepted_time (at_moment m t) verb
taken_time m t verb (Some c) = cycled_time (at_moment m t) c.choice

pub turn_counted : (m : Machine) (j : Judged) (cycle : Option Cycling) → (turn (one_command_more m) j cycle).next.commands ≡ m.commands + 1
turn_counted m judgements.Form cycle = refl
turn_counted m judgements.Back cycle = refl
turn_counted m (judgements.No t code) cycle = refl
turn_counted m (judgements.Yes t verb) cycle = (taken_time (one_command_more m) t verb cycle).commands

not_back : (t greatest : ℕ) → nat_lt t greatest ≡ false → greatest ≤ t
not_back t greatest e = grind (arith, nat_tests)

-- the greatest moment never falls
judged_rises : (m : Machine) (edition : ℕ) (line : List ℕ) (cycle : Option Cycling) → m.greatest ≤ (turn (one_command_more m) (judged edition m line) cycle).next.greatest
unfolding judged
judged_rises m edition line cycle = by (command_of edition line)
  where
    by_verdict : (c : Command) (o : Option Code) → m.greatest ≤ c.moment → m.greatest ≤ (turn (one_command_more m) (judged_by c o) cycle).next.greatest
    by_verdict c None on = subst (λ n. m.greatest ≤ n) (sym (taken_time (one_command_more m) c.moment c.verb cycle).greatest) on
    by_verdict c (Some code) on = on

    by : (o : Option Command) → m.greatest ≤ (turn (one_command_more m) (judged_command m o) cycle).next.greatest
    by None = omega arith
    by (Some c) = at (nat_lt c.moment m.greatest) refl
      where
        at : (b : Bool) → nat_lt c.moment m.greatest ≡ b → m.greatest ≤ (turn (one_command_more m) (cond b judgements.Back (judged_by c (verdict m c))) cycle).next.greatest
        at true e = omega arith
        at false e = by_verdict c (verdict m c) (not_back c.moment m.greatest e)

pub turn_rises : (m : Machine) (edition : ℕ) (line : List ℕ) (choice : Option Choice) (ready : ReadyRecord) → IsReady edition m line choice ready → m.greatest ≤ (turn (one_command_more m) ready.judged (cycle_in ready.outcome)).next.greatest
turn_rises m edition line choice ready made = subst (λ j. m.greatest ≤ (turn (one_command_more m) j (cycle_in ready.outcome)).next.greatest) (sym made.judged) (judged_rises m edition line (cycle_in ready.outcome))
