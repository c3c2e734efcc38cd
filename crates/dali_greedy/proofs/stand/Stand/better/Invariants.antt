use Rattle.std.proofs.Common.{◌≤◌, length}
use Rattle.dali_greedy.specs.Standing.{IsStandOf, Holds, GoesWith, left_worth}
use Rattle.dali_greedy.proofs.stand.Stand.better.Given as goal

abbrev pub invariant-loop : goal.invariant-loop
invariant-loop l = record {
  of : IsStandOf l.problem l.self;
  holds : Holds l.problem l.self.marks;
  goes : GoesWith l.partial.marks l.self.marks;
  no_more : left_worth l.problem l.self.marks (length l.problem.items) ≤ left_worth l.problem l.initial.self.marks (length l.problem.items);
}

abbrev pub decreases-loop : goal.decreases-loop
decreases-loop l = left_worth l.problem l.self.marks (length l.problem.items)
