use Rattle.std.proofs.Common.{◌∙◌}
use Rattle.dali_register.proofs.Choosing.{cycle_within, cycle_framed, made_of}
use Rattle.dali_register.proofs.register.Register.make_cycle.Goals as goal

pub make-requires-clause-within : goal.make-requires-clause-within
make-requires-clause-within c = cycle_within c.args.problem.now c.args.budget c.in_ok-choice.choice c.items-items.ensures.bounds c.requires.budget c.in_ok-choice.ensures.fits c.in_ok-choice.ensures.allowed c.in_ok-choice.ensures.finest
    c.edition.result c.args.line c.edition.ensures.bound.0 c.edition.ensures.bound.1 c.bytes-bytes.ensures.line

pub frame-requires : goal.frame-requires
frame-requires c = cycle_framed c.args.problem.now c.args.budget c.in_ok-choice.choice c.items-items.ensures.bounds c.requires.budget c.in_ok-choice.ensures.fits c.in_ok-choice.ensures.allowed c.in_ok-choice.ensures.finest
    c.edition.result c.args.line c.bytes.result.now c.bytes-bytes.ensures.line (c.bytes.ensures ∙ c.in_ok-made.ensures.made.record_is)

pub returns-clause-made : goal.returns-clause-made
returns-clause-made c = made_of c.args.problem.now c.args.budget c.in_ok-choice.choice c.items-items.ensures.bounds c.requires.budget c.in_ok-choice.ensures.fits c.in_ok-choice.ensures.allowed c.in_ok-choice.ensures.finest
    c.args.self.now.journal.edition c.edition.result c.args.self.now.state.machine c.args.line c.in_ok-made.made c.edition.ensures.value c.edition.ensures.bound.0 c.edition.ensures.bound.1 c.bytes-bytes.ensures.line
    c.requires.cycle c.in_ok-made.ensures.made c.in_ok-made.ensures.reported
