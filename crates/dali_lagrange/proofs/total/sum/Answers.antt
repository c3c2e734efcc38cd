use Rattle.std.proofs.Common.{◌≡◌, ◌*◌, pos, ◌≤ℤ◌, get_or, arith}
use Rattle.std.proofs.lemmas.Int.{ints}
use mir.Syntax.{w128}
use mir.Val.{to_z, of_z}
use Rattle.dali_problem.specs.Feasible.{value_of}
use Rattle.dali_lagrange.specs.Bound.{sum_of}
use Rattle.dali_lagrange.proofs.Bounds.{reaches}
use Rattle.dali_lagrange.proofs.KeptLaws.{bounded_at}
use Rattle.dali_lagrange.proofs.Parts.{parts_small}
use Rattle.dali_lagrange.proofs.Weak.{weak_duality}
use Rattle.dali_lagrange.proofs.total.sum.Goals as goal

pub returns-clause-parts : goal.returns-clause-parts
returns-clause-parts c =
    parts_small c.args.problem.now c.args.partial.now.marks (λ l. get_or c.args.point.now l 0) c.sum_at.ensures.limits
    (bounded_at c.args.point.now c.of.ensures.bounded)

pub returns-clause-bound : goal.returns-clause-bound
returns-clause-bound c t places feasible agrees =
    let stored : to_z w128 (of_z w128 c.sum_at.result) ≡ c.sum_at.result = omega (arith, ints, c.sum_at.type_inv) in
    let most : pos (4096 * value_of c.args.problem.now t)
    ≤ℤ sum_of c.args.problem.now c.args.partial.now.marks (λ l. get_or c.of.result l 0) =
    weak_duality c.args.problem.now c.args.partial.now.marks (λ l. get_or c.of.result l 0) t places feasible agrees in
    omega (arith, ints, stored, most, c.sum_at.ensures.exact)

pub returns-clause-floor : goal.returns-clause-floor
returns-clause-floor c t places feasible agrees =
    reaches (value_of c.args.problem.now t) (to_z w128 (of_z w128 c.sum_at.result)) (returns-clause-bound c t places feasible agrees)
