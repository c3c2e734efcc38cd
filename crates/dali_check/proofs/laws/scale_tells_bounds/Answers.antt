use Rattle.dali_check.proofs.Scales.{reaches_bound, closes_bound, tight_bound}
use Rattle.dali_check.proofs.laws.scale_tells_bounds.Goals as goal

pub returns-clause-reaches : goal.returns-clause-reaches
returns-clause-reaches c p u lam f = reaches_bound p u lam f

pub returns-clause-closes : goal.returns-clause-closes
returns-clause-closes c p u lam f = closes_bound p u lam f

pub returns-clause-tight : goal.returns-clause-tight
returns-clause-tight c p u lam f = tight_bound p u lam f
