use Rattle.std.proofs.Common.{◌≡◌, ℕ, ◌<◌, ◌≤◌, true, false, length}
use Rattle.dali_problem.specs.declared.mark.Mark.TheVariants.{Undecided}
use Rattle.dali_problem.specs.Partial.{mark}
use Rattle.dali_rest.specs.Room.{IsRoomOf}
use Rattle.dali_rest.specs.Turns.{IsTurn, IsPaid, undecided_count}
use Rattle.dali_rest.proofs.room.Room.take_out.Given as goal

abbrev pub invariant-loop-place : goal.invariant-loop-place
invariant-loop-place l = record {
  room : IsRoomOf l.problem l.self;
  turn : IsTurn l.problem l.fn.self.marks l.self.marks;
  no_more : undecided_count l.self.marks (length l.problem.items) ≤ undecided_count l.fn.self.marks (length l.problem.items);
  fewer : l.taken ≡ true → undecided_count l.self.marks (length l.problem.items) < undecided_count l.fn.self.marks (length l.problem.items);
  same : l.taken ≡ false → l.self.marks ≡ l.fn.self.marks;
  paid : l.taken ≡ false → (j : ℕ) → j < l.place → mark l.fn.self.marks j ≡ Undecided → IsPaid l.problem l.fn.self.marks j;
}
