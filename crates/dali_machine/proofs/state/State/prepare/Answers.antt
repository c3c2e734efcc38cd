use Rattle.std.proofs.Common.{◌≡◌, ◌∙◌, sym, ap, subst}
use Rattle.dali_machine.specs.Cycles.{HasChoice, accepted_cycle}
use Rattle.dali_machine.specs.Step.{judged}
use Rattle.dali_machine.proofs.Committing.{judged_allowed, cycle_ready, plain_ready}
use Rattle.dali_machine.proofs.Answering.{judged_apart}
use Rattle.dali_machine.proofs.state.State.prepare.Goals as goal
use Rattle.dali_machine.proofs.state.State.prepare.Goals.{in_default-via-in-Some+in_default, in_default-via-in_default}

pub make_ready-requires-clause-allowed : goal.make_ready-requires-clause-allowed
make_ready-requires-clause-allowed c = judged_allowed c.args.self.now.machine c.args.edition c.bytes.result.now c.judge-judged.result c.judge-judged.ensures.exact

pub make_ready-requires-clause-apart : goal.make_ready-requires-clause-apart
make_ready-requires-clause-apart c = judged_apart c.args.self.now.machine c.args.edition c.bytes.result.now c.judge-judged.result c.judge-judged.ensures.exact

pub returns-in-Some-Some-clause-ready : goal.returns-in-Some-Some-clause-ready
returns-in-Some-Some-clause-ready c = cycle_ready c.make_cycle_ready.result c.args.edition c.args.self.now.machine c.args.line.now c.args.choice c.in-Some-Some.choice c.judge-judged.result c.in-Some-Some.cycle
    (c.judge-judged.ensures.exact ∙ ap (judged c.args.edition c.args.self.now.machine) c.bytes.ensures.bytes) (sym c.accepted_cycle.ensures ∙ c.in-Some-Some.is-0) c.in-Some-Some.is-1 c.make_cycle_ready.ensures.made

pub returns-in_default-clause-ready : goal.returns-in_default-clause-ready
returns-in_default-clause-ready c =
    let is : c.judge-judged.result ≡ judged c.args.edition c.args.self.now.machine c.args.line.now = c.judge-judged.ensures.exact ∙ ap (judged c.args.edition c.args.self.now.machine) c.bytes.ensures.bytes in
    let has : HasChoice c.args.self.now.machine (accepted_cycle c.judge-judged.result) c.args.choice = subst (λ j. HasChoice c.args.self.now.machine (accepted_cycle j) c.args.choice) (sym is) c.requires.choice in
    elim c.in_default.branch [
      | in_default-via-in-Some+in_default w ↦
          plain_ready c.make_ready.result c.args.edition c.args.self.now.machine c.args.line.now c.args.choice c.judge-judged.result is has (λ p d e1 e2. absurd (let none = w.in_default.is-1 in cc)) c.make_ready.ensures.made
      | in_default-via-in_default w ↦
          plain_ready c.make_ready.result c.args.edition c.args.self.now.machine c.args.line.now c.args.choice c.judge-judged.result is has (λ p d e1 e2. absurd (let none = w.in_default.is-0 in let told = c.accepted_cycle.ensures in cc)) c.make_ready.ensures.made
    ]
