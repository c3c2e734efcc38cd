use Rattle.std.proofs.Common.{◌≡◌, ◌-◌, ◌≤◌}
use Rattle.dali_search.specs.Best.{IsBest}
use Rattle.dali_search.specs.Nodes.{total_at}
use Rattle.dali_search.specs.Searched.{IsSearched}
use Rattle.dali_search.specs.Sides.{IsDesk}
use Rattle.dali_search.specs.Start.{start_of}
use Rattle.dali_search.proofs.solving.solve.Given as goal

abbrev pub invariant-search : goal.invariant-search
invariant-search l = record {
  desk : IsDesk l.problem l.desk;
  start : l.desk.partial.marks ≡ start_of l.problem;
  best : IsBest l.problem l.best;
  searched : IsSearched l.problem l.best.value l.arena.nodes.items l.arena.totals.items;
  within : (total_at l.arena.totals.items 0).branches ≤ l.budget;
}

abbrev pub decreases-search : goal.decreases-search
decreases-search l = l.budget - (total_at l.arena.totals.items 0).branches
