use Rattle.std.proofs.Common.{ℕ, ◌<◌, get_or}
use Rattle.dali_tree.specs.declared.choice.Part.{Part}
use Rattle.dali_rest.specs.Addable.{CanAddRest}
use Rattle.dali_rest.specs.Room.{IsRoomOf}
use Rattle.dali_check.proofs.allowing.some_rest.Given as goal

abbrev pub invariant-loop-part : goal.invariant-loop-part
invariant-loop-part l = record {
  room : IsRoomOf l.problem l.tests;
  none : (k : ℕ) (d : Part) → k < l.part-index → ¬ (CanAddRest l.problem l.set (get_or l.parts k d).members);
}
