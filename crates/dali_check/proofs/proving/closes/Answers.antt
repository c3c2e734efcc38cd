use Rattle.std.proofs.Common.{not, ap, ◌∙◌}
use Rattle.dali_check.proofs.Stands.{closes_is}
use Rattle.dali_check.proofs.proving.closes.Goals as goal

pub returns-clause-answer : goal.returns-clause-answer
returns-clause-answer c =
    let p = c.args.problem.now in
    let lam = c.args.lam.now in
    let f = c.args.partial.now.marks in
    ap not (c.exceeds.ensures p lam f c.take_on.ensures.stands) ∙ closes_is p c.args.bound lam f
