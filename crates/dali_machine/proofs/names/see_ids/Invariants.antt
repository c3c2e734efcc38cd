use Rattle.std.proofs.Common.{take}
use Rattle.std.specs.Prelude.{IsTrue}
use Rattle.std.specs.List.{All}
use Rattle.dali_base.specs.Spelling.{is_name}
use Rattle.dali_problem.specs.Clearing.{Item}
use Rattle.dali_machine.proofs.names.see_ids.Given as goal

abbrev pub invariant-loop-at : goal.invariant-loop-at
invariant-loop-at l = All (λ (item : Item). IsTrue (is_name item.id)) (take l.at l.problem.items)
