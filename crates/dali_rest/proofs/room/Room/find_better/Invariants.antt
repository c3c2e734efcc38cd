use Rattle.std.proofs.Common.{◌≡◌, ℕ, ◌<◌, set, get_or}
use Rattle.dali_problem.specs.declared.mark.Mark.TheVariants.{Left, Chosen}
use Rattle.dali_problem.specs.Clearing.{worth}
use Rattle.dali_problem.specs.Partial.{mark}
use Rattle.dali_rest.specs.Room.{IsRoomOf, IsCovered}
use Rattle.dali_rest.proofs.room.Room.find_better.Given as goal

abbrev pub invariant-loop-taken : goal.invariant-loop-taken
invariant-loop-taken l = record {
  room : IsRoomOf l.problem l.self;
  same : l.self.marks ≡ l.fn.self.marks;
  none : (k : ℕ) → k < l.taken-index → mark l.self.marks (get_or l.members k 0) ≡ Left → worth l.problem l.given < worth l.problem (get_or l.members k 0) →
      ¬ (IsCovered l.problem (set l.self.marks (get_or l.members k 0) Chosen));
}
