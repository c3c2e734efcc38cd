use Rattle.std.proofs.Common.{◌≡◌, pos, ◌*ℤ◌, length, ap, ◌∙◌, arith}
use Rattle.dali_problem.specs.Clearing.{worth}
use Rattle.dali_problem.specs.Partial.{mark}
use Rattle.dali_problem.specs.Sums.{sum_below}
use Rattle.dali_lagrange.specs.Bound.{count_of}
use Rattle.dali_lagrange.proofs.Zero.{zero_sum_is}
use Rattle.dali_lagrange.proofs.start.add_values.Goals as goal

pub returns-clause-exact : goal.returns-clause-exact
returns-clause-exact c =
    let all : c.loop-place.place ≡ length c.args.problem.now.items = omega arith in
    c.loop-place.invariant.exact
    ∙ ap (sum_below (λ j. count_of (mark c.args.marks.now j) (pos 4096 *ℤ pos (worth c.args.problem.now j)))) all
    ∙ zero_sum_is c.args.problem.now c.args.marks.now
