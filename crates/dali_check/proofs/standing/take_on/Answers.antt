use Rattle.std.proofs.Common.{length}
use Rattle.dali_check.proofs.Points.{multipliers_of}
use Rattle.dali_check.proofs.standing.take_on.Goals as goal

pub load-requires-clause-lam : goal.load-requires-clause-lam
load-requires-clause-lam c = multipliers_of (length c.args.problem.now.lines) c.args.lam.now c.requires.in_range
