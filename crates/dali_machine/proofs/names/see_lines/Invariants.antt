use Rattle.std.proofs.Common.{take}
use Rattle.std.specs.Prelude.{IsTrue}
use Rattle.std.specs.List.{All}
use Rattle.dali_base.specs.Spelling.{is_name}
use Rattle.dali_problem.specs.declared.row.LineRow.{LineRow}
use Rattle.dali_machine.proofs.names.see_lines.Given as goal

abbrev pub invariant-loop-at : goal.invariant-loop-at
invariant-loop-at l = All (λ (line : LineRow). IsTrue (is_name line.account) × IsTrue (is_name line.asset)) (take l.at l.problem.lines)
