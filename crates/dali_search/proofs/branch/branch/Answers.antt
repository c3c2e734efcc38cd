use Rattle.std.proofs.Common.{length}
use Rattle.dali_lagrange.proofs.Lists.{fits_are}
use Rattle.dali_search.proofs.branch.branch.Goals as goal

pub nearest-place-requires-clause-lam : goal.nearest-place-requires-clause-lam
nearest-place-requires-clause-lam c = fits_are (length c.args.problem.now.lines) c.in_ok-lead.lead c.in_ok-lead.ensures.lead.listed

pub side-requires-clause-start : goal.side-requires-clause-start
side-requires-clause-start c = fits_are (length c.args.problem.now.lines) c.args.lam.now c.requires.lam

pub side-requires-2-clause-start : goal.side-requires-2-clause-start
side-requires-2-clause-start c = fits_are (length c.args.problem.now.lines) c.args.lam.now c.requires.lam
