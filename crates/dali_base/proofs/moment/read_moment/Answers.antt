use Rattle.std.proofs.Common.{◌∙◌, Some, None}
use Rattle.dali_base.proofs.Spelled.{moment_exact, moment_found}
use Rattle.dali_base.proofs.moment.read_moment.Goals as goal

pub returns-in-Some-clause-exact : goal.returns-in-Some-clause-exact
returns-in-Some-clause-exact c = moment_exact c.args.bytes.now (Some c.in-Some.seconds) c.in-Some.ensures.some c.in-Some.ensures.none

pub returns-in-None-clause-exact : goal.returns-in-None-clause-exact
returns-in-None-clause-exact c = moment_exact c.args.bytes.now None c.in-None.ensures.some c.in-None.ensures.none

pub returns-in-Some-clause-only : goal.returns-in-Some-clause-only
returns-in-Some-clause-only c s small is =
    moment_exact c.args.bytes.now (Some c.in-Some.seconds) c.in-Some.ensures.some c.in-Some.ensures.none ∙ moment_found c.args.bytes.now s small is

pub returns-in-None-clause-only : goal.returns-in-None-clause-only
returns-in-None-clause-only c s small is = absurd (c.in-None.ensures.none s small is)
