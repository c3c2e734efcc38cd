use Rattle.std.proofs.Common.{◌≡◌, pos, ◌*ℤ◌, List, length, get_or, ap, arith}
use Rattle.std.proofs.lemmas.Int.{ints}
use mir.Syntax.{w128}
use mir.Val.{to_z, of_z}
use Rattle.dali_problem.specs.declared.row.Effect.{Effect}
use Rattle.dali_problem.specs.Sums.{sum_over}
use Rattle.dali_problem.specs.Clearing.{item_at}
use Rattle.dali_problem.proofs.Lines.{item_limits}
use Rattle.dali_lagrange.proofs.Regroup.{sparse}
use Rattle.dali_lagrange.proofs.total.reduced_at.Goals as goal

pub returns-clause-exact : goal.returns-clause-exact
returns-clause-exact c =
    let start : to_z w128 (of_z w128 c.scaled-worth.result) ≡ c.scaled-worth.result = omega (arith, ints, c.scaled-worth.type_inv) in
    let end : to_z w128 (of_z w128 c.add_effects.new.total) ≡ c.add_effects.new.total =
    omega (arith, ints, c.add_effects.ensures.bounded.low, c.add_effects.ensures.bounded.high) in
    let limits = item_limits c.args.problem.now c.args.place c.value.ensures.bounds c.requires.place in
    let lines = sparse (λ l. pos (get_or c.args.point.now l 0)) (item_at c.args.problem.now c.args.place).effects (length c.args.problem.now.lines) limits.effects.in_range in
    let column = ap (λ (es : List Effect). sum_over (λ (e : Effect). pos (get_or c.args.point.now e.line 0) *ℤ e.amount) es) c.effects.ensures.effects in
    let value = ap (λ n. pos 4096 *ℤ pos n) c.value.ensures.value in
    omega (arith, ints, start, end, c.add_effects.ensures.exact, c.scaled-worth.ensures, lines, column, value)
