use Rattle.std.proofs.Common.{length, sym, subst, arith}
use Rattle.dali_problem.specs.Clearing.{line_at}
use Rattle.dali_problem.specs.Limits.{IsBefore}
use Rattle.dali_restrict.proofs.Restricting.{line_after, line_few, lines_few}
use Rattle.dali_restrict.proofs.restriction.add_lines.Goals as goal

pub add_line-requires-clause-few : goal.add_line-requires-clause-few
add_line-requires-clause-few c =
    omega (
      arith,
      line_few c.args.problem.now c.args.lines.now c.loop-line.line-index c.loop-line.inner (omega (arith, c.loop-line-test.true)) c.loop-line.invariant.so_far,
      c.loop-line-test.true,
      lines_few (length c.args.problem.now.lines) c.args.lines.now c.requires.rising c.requires.in_range,
      c.lines-lines.ensures.bounds.lines,
    )

pub add_line-requires-clause-after : goal.add_line-requires-clause-after
add_line-requires-clause-after c k next =
    subst (IsBefore (line_at c.loop-line.inner k)) (sym c.line.ensures.row)
    (line_after c.args.problem.now c.args.lines.now c.loop-line.line-index k c.loop-line.inner c.lines-lines.ensures.bounds c.requires.rising c.requires.in_range c.loop-line-test.true
    c.loop-line.invariant.so_far next)
