use Rattle.std.proofs.Common.{◌≡◌, ◌⊎◌, inl, inr, ℕ, ◌+◌, List, Some, None, sym, ap, ◌∙◌, subst}
use Rattle.dali_account.specs.declared.net.Move.{Move}
use Rattle.dali_machine.specs.Cycles.{with_set}
use Rattle.dali_machine.specs.Effects.{accepted}
use Rattle.dali_machine.specs.Machine.{StateRecord}
use Rattle.dali_machine.specs.StateKept.{machine_of, record_of}
use Rattle.dali_machine.specs.Step.{at_moment, one_command_more, turn}
use Rattle.dali_machine.specs.declared.judged.Judged.{Judged}
use Rattle.dali_machine.specs.declared.judged.Judged.TheVariants as judgements
use Rattle.dali_machine.specs.Ready.{CanCommit, MayTake, HasNetFor, IsSet, cycle_in}
use Rattle.dali_machine.proofs.Committing.{may_take, netted, no_cycle_told, plain_turn, same_turn, moved_turn}
use Rattle.dali_machine.proofs.Cycling.{set_ready, set_taken}
use Rattle.dali_machine.proofs.state.State.take_turn.Goals as goal
use Rattle.dali_machine.proofs.state.State.take_turn.Goals.{in-Form, in-No, in-Yes+in-Cycle, in-Yes+in_default}

pub accept-requires-clause-take : goal.accept-requires-clause-take
accept-requires-clause-take c =
    let can : CanCommit (record_of c.self.inside) c.args.ready = subst (λ s. CanCommit s c.args.ready) (sym c.self.view_is) c.requires in
    let is : c.args.ready.judged ≡ judgements.Yes c.in-Yes.moment c.in-Yes.verb = ap (λ p. p.0) (sym c.into_parts-judged.ensures.parts) ∙ c.in-Yes.is in
    let number : c.into_parts-judged.result.2 ≡ c.self.inside.commands + 1 = ap (λ p. p.2) c.into_parts-judged.ensures.parts ∙ can.number in
    subst (λ (n : ℕ). MayTake (record_of (record c.self.inside { greatest = c.in-Yes.moment; commands = n })) c.in-Yes.verb) (sym number)
    (may_take (record_of c.self.inside) c.in-Yes.moment c.in-Yes.verb c.args.ready can is)

pub accept-requires-clause-net : goal.accept-requires-clause-net
accept-requires-clause-net c =
    let can : CanCommit (record_of c.self.inside) c.args.ready = subst (λ s. CanCommit s c.args.ready) (sym c.self.view_is) c.requires in
    let is : c.args.ready.judged ≡ judgements.Yes c.in-Yes.moment c.in-Yes.verb = ap (λ p. p.0) (sym c.into_parts-judged.ensures.parts) ∙ c.in-Yes.is in
    let number : c.into_parts-judged.result.2 ≡ c.self.inside.commands + 1 = ap (λ p. p.2) c.into_parts-judged.ensures.parts ∙ can.number in
    let net : c.into_parts-judged.result.3 ≡ c.args.ready.net = ap (λ p. p.3) c.into_parts-judged.ensures.parts in
    let outcome : c.into_parts-judged.result.1 ≡ c.args.ready.outcome = ap (λ p. p.1) c.into_parts-judged.ensures.parts in
    let none : cycle_in c.args.ready.outcome ≡ None = no_cycle_told c.args.ready.outcome (λ report told. c.in_default.not-Cycle report (outcome ∙ told)) in
    subst (λ (n : ℕ). HasNetFor (record_of (record c.self.inside { greatest = c.in-Yes.moment; commands = n })) c.in-Yes.verb c.into_parts-judged.result.3) (sym number)
    (subst (λ (ms : List Move). HasNetFor (record (record_of c.self.inside) { machine = record (record_of c.self.inside).machine { greatest = c.in-Yes.moment; commands = c.self.inside.commands + 1 } }) c.in-Yes.verb ms) (sym net)
    (netted (record_of c.self.inside) c.in-Yes.moment c.in-Yes.verb c.args.ready can none is))

pub book_set-requires : goal.book_set-requires
book_set-requires c =
    let can : CanCommit (record_of c.self.inside) c.args.ready = subst (λ s. CanCommit s c.args.ready) (sym c.self.view_is) c.requires in
    let is : c.args.ready.judged ≡ judgements.Yes c.in-Yes.moment c.in-Yes.verb = ap (λ p. p.0) (sym c.into_parts-judged.ensures.parts) ∙ c.in-Yes.is in
    let number : c.into_parts-judged.result.2 ≡ c.self.inside.commands + 1 = ap (λ p. p.2) c.into_parts-judged.ensures.parts ∙ can.number in
    let net : c.into_parts-judged.result.3 ≡ c.args.ready.net = ap (λ p. p.3) c.into_parts-judged.ensures.parts in
    let places : c.into_parts-judged.result.4 ≡ c.args.ready.places = ap (λ p. p.4) c.into_parts-judged.ensures.parts in
    let told : cycle_in c.args.ready.outcome ≡ Some (record { budget = c.in-Cycle.report.budget; choice = c.in-Cycle.report.choice }) = ap cycle_in (ap (λ p. p.1) (sym c.into_parts-judged.ensures.parts) ∙ c.in-Cycle.is) in
    subst (λ (n : ℕ). IsSet (record_of (record c.self.inside { greatest = c.in-Yes.moment; commands = n })) c.into_parts-judged.result.4 c.into_parts-judged.result.3) (sym number)
    (subst (λ (ps : List ℕ). IsSet (record_of (record c.self.inside { greatest = c.in-Yes.moment; commands = c.self.inside.commands + 1 })) ps c.into_parts-judged.result.3) (sym places)
    (subst (λ (ms : List Move). IsSet (record_of (record c.self.inside { greatest = c.in-Yes.moment; commands = c.self.inside.commands + 1 })) c.args.ready.places ms) (sym net)
    (set_ready (record_of c.self.inside) c.in-Yes.moment c.in-Yes.verb c.args.ready (record { budget = c.in-Cycle.report.budget; choice = c.in-Cycle.report.choice }) can told is)))

pub returns-clause-next : goal.returns-clause-next
returns-clause-next c =
    let can : CanCommit (record_of c.self.inside) c.args.ready = subst (λ s. CanCommit s c.args.ready) (sym c.self.view_is) c.requires in
    let parts = c.into_parts-judged.ensures.parts in
    let number : c.into_parts-judged.result.2 ≡ c.self.inside.commands + 1 = ap (λ p. p.2) parts ∙ can.number in
    let net : c.into_parts-judged.result.3 ≡ c.args.ready.net = ap (λ p. p.3) parts in
    let places : c.into_parts-judged.result.4 ≡ c.args.ready.places = ap (λ p. p.4) parts in
    let outcome : c.into_parts-judged.result.1 ≡ c.args.ready.outcome = ap (λ p. p.1) parts in
    let judged : c.args.ready.judged ≡ c.into_parts-judged.result.0 = sym (ap (λ p. p.0) parts) in
    let now : (turn (one_command_more (machine_of c.self.inside)) c.args.ready.judged (cycle_in c.args.ready.outcome)).next ≡ (turn (one_command_more c.args.self.now.machine) c.args.ready.judged (cycle_in c.args.ready.outcome)).next =
    ap (λ (s : StateRecord). (turn (one_command_more s.machine) c.args.ready.judged (cycle_in c.args.ready.outcome)).next) c.self.view_is in
    elim c.match-judged.branch [
      | in-Form w ↦
          ap (λ (s : StateRecord). s.machine) w.self-is ∙ ap (λ n. record (machine_of c.self.inside) { commands = n }) number
          ∙ sym (same_turn (one_command_more (machine_of c.self.inside)) c.args.ready.judged (cycle_in c.args.ready.outcome) (early c.args.ready.judged c.into_parts-judged.result.0 judged w.in-Form.is)) ∙ now
      | in-No w ↦
          ap (λ (s : StateRecord). s.machine) w.self-is ∙ ap (λ n. record (machine_of c.self.inside) { greatest = w.in-No.moment; commands = n }) number
          ∙ sym (moved_turn (one_command_more (machine_of c.self.inside)) c.args.ready.judged (cycle_in c.args.ready.outcome) w.in-No.moment w.in-No.code (judged ∙ w.in-No.is)) ∙ now
      | in-Yes+in-Cycle w ↦
          ap (λ (s : StateRecord). s.machine) w.self-is ∙ w.book_set.ensures
          ∙ ap (λ n. with_set (record (machine_of c.self.inside) { greatest = w.in-Yes.moment; commands = n }) c.into_parts-judged.result.3 c.into_parts-judged.result.4) number
          ∙ ap (λ ms. with_set (at_moment (one_command_more (machine_of c.self.inside)) w.in-Yes.moment) ms c.into_parts-judged.result.4) net
          ∙ ap (with_set (at_moment (one_command_more (machine_of c.self.inside)) w.in-Yes.moment) c.args.ready.net) places
          ∙ set_taken (record_of c.self.inside) w.in-Yes.moment w.in-Yes.verb c.args.ready (record { budget = w.in-Cycle.report.budget; choice = w.in-Cycle.report.choice }) can
          (ap cycle_in (sym outcome ∙ w.in-Cycle.is)) (judged ∙ w.in-Yes.is) ∙ now
      | in-Yes+in_default w ↦
          ap (λ (s : StateRecord). s.machine) w.self-is ∙ w.accept.ensures
          ∙ ap (λ n. accepted (record (machine_of c.self.inside) { greatest = w.in-Yes.moment; commands = n }) w.in-Yes.verb) number
          ∙ sym (plain_turn (one_command_more (machine_of c.self.inside)) c.args.ready.judged w.in-Yes.moment w.in-Yes.verb c.args.ready.outcome (judged ∙ w.in-Yes.is)
          (no_cycle_told c.args.ready.outcome (λ report told. w.in_default.not-Cycle report (outcome ∙ told)))) ∙ now
    ]
  where
    early : (j k : Judged) → j ≡ k → (k ≡ judgements.Form) ⊎ (k ≡ judgements.Back) → (j ≡ judgements.Form) ⊎ (j ≡ judgements.Back)
    early j k same (inl e) = inl (same ∙ e)
    early j k same (inr e) = inr (same ∙ e)
