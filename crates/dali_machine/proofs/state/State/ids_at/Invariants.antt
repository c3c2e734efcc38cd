use Rattle.std.proofs.Common.{◌≡◌, ◌++◌, drop}
use Rattle.dali_machine.specs.Cycles.{ids_at}
use Rattle.dali_machine.proofs.state.State.ids_at.Given as goal

abbrev pub invariant-loop-place : goal.invariant-loop-place
invariant-loop-place l = l.ids ++ ids_at l.fn.self.machine (drop l.place-index l.place-items) ≡ ids_at l.fn.self.machine l.place-items
