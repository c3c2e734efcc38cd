use Rattle.std.proofs.Common.{◌≡◌, ◌≢◌, ℕ, ◌≤◌, true, false, []}
use Rattle.dali_problem.specs.Partial.{mark}
use Rattle.dali_rest.specs.Room.{IsRoomOf, undecided_below}
use Rattle.dali_rest.specs.Turns.{AreChosen}
use Rattle.dali_rest.proofs.room.Room.choose_rest.Given as goal

abbrev pub invariant-loop-place : goal.invariant-loop-place
invariant-loop-place l = record {
  room : IsRoomOf l.problem l.self;
  chosen : AreChosen l.place l.fn.self.marks l.self.marks;
  later : (j : ℕ) → l.place ≤ j → mark l.self.marks j ≡ mark l.fn.self.marks j;
  some : l.some ≡ true → undecided_below l.fn.self.marks l.place ≢ [];
  none : l.some ≡ false → undecided_below l.fn.self.marks l.place ≡ [];
}
