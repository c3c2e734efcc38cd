use Rattle.std.proofs.Common.{ap, subst, arith}
use Rattle.std.proofs.lemmas.List.{take_all}
use Rattle.std.proofs.lemmas.List.Elements.{All-more}
use Rattle.std.specs.Prelude.{IsTrue}
use Rattle.std.specs.List.{All}
use Rattle.dali_base.specs.Spelling.{is_name}
use Rattle.dali_problem.specs.declared.row.LineRow.{LineRow}
use Rattle.dali_problem.specs.Clearing.{no_line}
use Rattle.dali_machine.proofs.names.see_lines.Goals as goal

abbrev Has : LineRow → Type 0
Has line = IsTrue (is_name line.account) × IsTrue (is_name line.asset)

pub loop-at-preserved : goal.loop-at-preserved
loop-at-preserved c =
    All-more Has c.args.problem.now.lines c.loop-at.at no_line (omega (arith, c.loop-at-test.true, c.lines-at-end.ensures.count)) c.loop-at.invariant
    (subst Has c.line-line.ensures.row (c.bytes-account.ensures.name, c.bytes-asset.ensures.name))

pub returns : goal.returns
returns c = subst (All Has) (take_all c.loop-at.at c.args.problem.now.lines (omega (arith, c.loop-at-test.false, c.lines-at-end.ensures.count))) c.loop-at.invariant
