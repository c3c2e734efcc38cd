use Rattle.std.proofs.Common.{◌≡◌, ℕ, ◌<◌, set, get_or, length}
use Rattle.dali_problem.specs.declared.mark.Mark.TheVariants.{Left, Chosen}
use Rattle.dali_problem.specs.Partial.{mark}
use Rattle.dali_rest.specs.Room.{IsRoomOf, AreMarksOf}
use Rattle.dali_rest.specs.Swaps.{HasBetter}
use Rattle.dali_rest.proofs.room.Room.can_swap.Given as goal

abbrev pub invariant-loop-given : goal.invariant-loop-given
invariant-loop-given l = record {
  room : IsRoomOf l.problem l.self;
  stands : AreMarksOf (length l.problem.items) l.set l.self.marks;
  none : (k : ℕ) → k < l.given-index → mark l.self.marks (get_or l.listed k 0) ≡ Chosen →
      ¬ (HasBetter l.problem (set l.self.marks (get_or l.listed k 0) Left) l.listed (get_or l.listed k 0));
}
