use Rattle.dali_search.proofs.Climbing.{Climbs}
use Rattle.dali_search.proofs.totals.refresh.Given as goal

abbrev pub invariant-climb : goal.invariant-climb
invariant-climb l = Climbs l.nodes l.initial.totals l.totals l.from l.at

abbrev pub decreases-climb : goal.decreases-climb
decreases-climb l = l.at
