use Rattle.std.proofs.Common.{length}
use Rattle.dali_replica.proofs.kept.+has_few_branches.Given as goal

abbrev pub decreases-has_few_branches : goal.decreases-has_few_branches
decreases-has_few_branches l = length l.parts.now
