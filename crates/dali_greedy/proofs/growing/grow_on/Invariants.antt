use Rattle.std.proofs.Common.{◌≤◌, length}
use Rattle.dali_rest.specs.Room.{IsRoomOf}
use Rattle.dali_greedy.specs.Standing.{IsStandOf, Holds, GoesWith, left_worth}
use Rattle.dali_greedy.proofs.growing.grow_on.Given as goal

abbrev pub invariant-loop-set : goal.invariant-loop-set
invariant-loop-set l = record {
  of : IsStandOf l.problem l.stand;
  holds : Holds l.problem l.stand.marks;
  goes : GoesWith l.partial.marks l.stand.marks;
  room : IsRoomOf l.problem l.room;
  no_more : left_worth l.problem l.stand.marks (length l.problem.items) ≤ left_worth l.problem l.initial.stand.marks (length l.problem.items);
}

abbrev pub decreases-loop-set : goal.decreases-loop-set
decreases-loop-set l = left_worth l.problem l.stand.marks (length l.problem.items)
