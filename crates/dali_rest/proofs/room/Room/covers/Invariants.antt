use Rattle.std.proofs.Common.{◌≡◌, ℕ, ◌<◌, false, get_or}
use Rattle.dali_problem.specs.declared.row.Effect.{Effect}
use Rattle.dali_problem.specs.Clearing.{item_at}
use Rattle.dali_problem.specs.Rules.{is_short}
use Rattle.dali_rest.proofs.room.Room.covers.Given as goal

abbrev pub invariant-loop-effect : goal.invariant-loop-effect
invariant-loop-effect l = (k : ℕ) (d : Effect) → k < l.effect-index → is_short l.problem l.self.marks (get_or (item_at l.problem l.place).effects k d).line ≡ false
