use Rattle.std.proofs.Common.{◌≡◌, ℕ, ◌<◌, length, take}
use Rattle.dali_problem.specs.declared.mark.Mark.TheVariants.{Left}
use Rattle.dali_problem.specs.Partial.{mark}
use Rattle.dali_rest.specs.Room.{AreMarksOf}
use Rattle.dali_greedy.specs.Standing.{IsStandOf}
use Rattle.dali_greedy.proofs.stand.Stand.become_set.Given as goal

abbrev pub invariant-loop-place : goal.invariant-loop-place
invariant-loop-place l = record {
  of : IsStandOf l.problem l.self;
  left : (k : ℕ) → k < l.place → mark l.self.marks k ≡ Left;
}

abbrev pub invariant-loop-chosen : goal.invariant-loop-chosen
invariant-loop-chosen l = record {
  of : IsStandOf l.problem l.self;
  stands : AreMarksOf (length l.problem.items) (take l.chosen-index l.places) l.self.marks;
}
