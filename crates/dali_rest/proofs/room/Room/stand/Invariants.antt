use Rattle.std.proofs.Common.{◌≡◌, ℕ, ◌<◌, length, take}
use Rattle.dali_problem.specs.declared.mark.Mark.TheVariants.{Left}
use Rattle.dali_problem.specs.Partial.{mark}
use Rattle.dali_rest.specs.Room.{IsRoomOf, AreMarksOf}
use Rattle.dali_rest.proofs.room.Room.stand.Given as goal

abbrev pub invariant-loop-place : goal.invariant-loop-place
invariant-loop-place l = record {
  room : IsRoomOf l.problem l.self;
  left : (k : ℕ) → k < l.place → mark l.self.marks k ≡ Left;
}

abbrev pub invariant-loop-chosen : goal.invariant-loop-chosen
invariant-loop-chosen l = record {
  room : IsRoomOf l.problem l.self;
  stands : AreMarksOf (length l.problem.items) (take l.chosen-index l.set) l.self.marks;
}
