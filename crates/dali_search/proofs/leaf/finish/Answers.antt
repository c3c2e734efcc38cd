use Rattle.std.proofs.Common.{length}
use Rattle.dali_lagrange.specs.Multipliers.{multiplier}
use Rattle.dali_lagrange.proofs.Lists.{fits_are}
use Rattle.dali_search.proofs.Finishing.{settled_under, open_holds, open_below}
use Rattle.dali_search.proofs.leaf.finish.Goals as goal

pub bound-bound-requires-clause-lam : goal.bound-bound-requires-clause-lam
bound-bound-requires-clause-lam c = fits_are (length c.args.problem.now.lines) c.in_ok-lam.lam c.in_ok-lam.ensures.fits

pub bound-bound-requires-clause-under : goal.bound-bound-requires-clause-under
bound-bound-requires-clause-under c = settled_under c.args.problem.now c.args.desk.now.partial.marks (multiplier c.in_ok-lam.lam) c.in_ok-lam.ensures.settled

pub returns-clause-holds : goal.returns-clause-holds
returns-clause-holds c =
    open_holds c.args.problem.now c.offer.new.best.value c.args.desk.now.partial.marks c.in_ok-lam.lam c.bound-bound.result
    c.in_ok-lam.ensures.fits c.bound-bound.ensures.small c.bound-bound.ensures.above c.bound-bound.ensures.least c.in_ok-lam.ensures.settled
    c.requires.done c.in_default.ensures.none c.in_ok-offer.ensures.offered

pub returns-clause-below : goal.returns-clause-below
returns-clause-below c =
    open_below c.args.problem.now c.args.desk.now.partial.marks c.in_ok-lam.lam c.args.start.now c.bound-bound.result c.bound-bound.ensures.least c.in_ok-lam.ensures.not_above
