use Rattle.std.proofs.Common.{length}
use Rattle.dali_rest.specs.Room.{IsRoomOf}
use Rattle.dali_rest.specs.Turns.{IsTurn, undecided_count}
use Rattle.dali_rest.proofs.room.Room.find_rest.Given as goal

abbrev pub invariant-loop : goal.invariant-loop
invariant-loop l = record {
  room : IsRoomOf l.problem l.self;
  turn : IsTurn l.problem l.initial.self.marks l.self.marks;
}

abbrev pub decreases-loop : goal.decreases-loop
decreases-loop l = undecided_count l.self.marks (length l.problem.items)
