use Rattle.std.proofs.Common.{arith}
use Rattle.dali_problem.specs.declared.row.LineRow.{LineRow}
use Rattle.dali_cert_print.specs.declared.row.Row.TheVariants as rows
use Rattle.dali_cert_print.proofs.Printed.{texts_told}
use Rattle.dali_cert_print.proofs.printing.add_lines.Goals as goal

pub returns : goal.returns
returns c = texts_told (λ (x : LineRow). rows.Line x) c.args.problem.now.lines c.loop-at.at c.loop-at.text c.args.text.now (omega (arith, c.loop-at-test.false, c.lines-at-end.ensures.count)) c.loop-at.invariant
