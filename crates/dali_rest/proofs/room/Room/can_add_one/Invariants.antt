use Rattle.std.proofs.Common.{◌≡◌, ℕ, ◌<◌, set, length}
use Rattle.dali_problem.specs.declared.mark.Mark.TheVariants.{Left, Chosen}
use Rattle.dali_problem.specs.Partial.{mark}
use Rattle.dali_rest.specs.Room.{IsRoomOf, IsCovered, AreMarksOf}
use Rattle.dali_rest.proofs.room.Room.can_add_one.Given as goal

abbrev pub invariant-loop-place : goal.invariant-loop-place
invariant-loop-place l = record {
  room : IsRoomOf l.problem l.self;
  stands : AreMarksOf (length l.problem.items) l.set l.self.marks;
  none : (j : ℕ) → j < l.place → mark l.self.marks j ≡ Left → ¬ (IsCovered l.problem (set l.self.marks j Chosen));
}
