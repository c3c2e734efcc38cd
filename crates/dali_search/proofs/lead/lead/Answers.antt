use Rattle.std.proofs.Common.{length}
use Rattle.dali_lagrange.proofs.Lists.{fits_are}
use Rattle.dali_search.proofs.Leading.{lead_of}
use Rattle.dali_search.proofs.lead.lead.Goals as goal

pub settle-requires-clause-start : goal.settle-requires-clause-start
settle-requires-clause-start c = fits_are (length c.args.problem.now.lines) c.in_ok-guess.guess c.in_ok-guess.ensures

pub is_at_most-requires-clause-lam : goal.is_at_most-requires-clause-lam
is_at_most-requires-clause-lam c = fits_are (length c.args.problem.now.lines) c.args.lam.now c.requires.lam

pub is_at_most-requires-clause-other : goal.is_at_most-requires-clause-other
is_at_most-requires-clause-other c = fits_are (length c.args.problem.now.lines) c.in_ok-aimed.aimed c.in_ok-aimed.ensures.fits

pub returns-then-is_at_most-clause-lead : goal.returns-then-is_at_most-clause-lead
returns-then-is_at_most-clause-lead c =
    lead_of c.args.problem.now c.args.partial.now.marks c.args.lam.now c.in_ok-aimed.aimed c.in_ok-aimed.ensures.fits c.in_ok-aimed.ensures.settled
    (c.is_at_most.ensures.told c.if-is_at_most.true)
