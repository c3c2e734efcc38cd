use Rattle.std.proofs.Common.{length}
use Rattle.dali_lagrange.proofs.Lists.{fits_are}
use Rattle.dali_search.proofs.multipliers.settle_well.Goals as goal

pub is_closed-requires-clause-lam : goal.is_closed-requires-clause-lam
is_closed-requires-clause-lam c = fits_are (length c.args.problem.now.lines) c.in_ok-lam.lam c.in_ok-lam.ensures.fits

pub settle-requires-2-clause-start : goal.settle-requires-2-clause-start
settle-requires-2-clause-start c = fits_are (length c.args.problem.now.lines) c.in_ok-guess.guess c.in_ok-guess.ensures

pub is_at_most-requires-clause-lam : goal.is_at_most-requires-clause-lam
is_at_most-requires-clause-lam c = fits_are (length c.args.problem.now.lines) c.in_ok-other.other c.in_ok-other.ensures.fits

pub is_at_most-requires-clause-other : goal.is_at_most-requires-clause-other
is_at_most-requires-clause-other c = fits_are (length c.args.problem.now.lines) c.in_ok-lam.lam c.in_ok-lam.ensures.fits
