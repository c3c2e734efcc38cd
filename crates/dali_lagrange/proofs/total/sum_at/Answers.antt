use Rattle.std.proofs.Common.{◌≡◌, get_or, arith}
use Rattle.std.proofs.lemmas.Int.{ints}
use mir.Syntax.{w128}
use mir.Val.{to_z, of_z}
use Rattle.dali_lagrange.proofs.Whole.{lines_and_places}
use Rattle.dali_lagrange.proofs.total.sum_at.Goals as goal

pub returns-clause-exact : goal.returns-clause-exact
returns-clause-exact c =
    let start : to_z w128 (of_z w128 c.add_lines.new.total) ≡ c.add_lines.new.total =
    omega (arith, ints, c.add_lines.ensures.bounded.low, c.add_lines.ensures.bounded.high) in
    let end : to_z w128 (of_z w128 c.add_places.new.total) ≡ c.add_places.new.total =
    omega (arith, ints, c.add_places.ensures.bounded.low, c.add_places.ensures.bounded.high) in
    let whole = lines_and_places c.args.problem.now c.args.partial.now.marks (λ l. get_or c.args.point.now l 0) in
    omega (arith, ints, start, end, c.add_lines.ensures.exact, c.add_places.ensures.exact, whole)
