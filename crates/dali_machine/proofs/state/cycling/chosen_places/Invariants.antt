use Rattle.std.proofs.Common.{◌≡◌, ◌++◌, drop}
use Rattle.dali_queue.specs.CycleProblem.{chosen_of}
use Rattle.dali_machine.proofs.state.cycling.chosen_places.Given as goal

abbrev pub invariant-loop-k : goal.invariant-loop-k
invariant-loop-k l = l.places ++ chosen_of l.set (drop l.k l.input.at) (drop l.k l.input.item) ≡ chosen_of l.set l.input.at l.input.item
