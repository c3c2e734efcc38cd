use Rattle.std.proofs.Common.{◌≡◌, ◌≤ℤ◌, arith}
use Rattle.std.proofs.lemmas.Int.{ints}
use mir.Syntax.{w128}
use mir.Val.{to_z, of_z}
use Rattle.dali_lagrange.proofs.Starts.{at_most_start, is_start}
use Rattle.dali_lagrange.proofs.kept.Kept.begin.Goals as goal

pub returns-then-sum-zero_sum-clause-not_above_start : goal.returns-then-sum-zero_sum-clause-not_above_start
returns-then-sum-zero_sum-clause-not_above_start c =
    let stored_sum : to_z w128 (of_z w128 c.sum.result) ≡ c.sum.result = omega (arith, ints, c.sum.type_inv) in
    let stored_zero : to_z w128 (of_z w128 c.zero_sum.result) ≡ c.zero_sum.result = omega (arith, ints, c.zero_sum.type_inv) in
    let above : c.zero_sum.result ≤ℤ c.sum.result = omega (arith, ints, stored_sum, stored_zero, c.if-sum-zero_sum.true) in
    at_most_start c.args.problem.now c.load.new.self.marks c.load-then-sum-zero_sum.new.self.marks c.load.new.self.multipliers c.load-then-sum-zero_sum.new.self.multipliers
    c.args.start.now c.args.empty.now c.sum.result c.zero_sum.result c.load-then-sum-zero_sum.ensures.marks c.requires.empty c.load-then-sum-zero_sum.ensures.multipliers c.load.ensures.multipliers
    (c.sum.ensures.exact c.args.problem.now c.load.ensures.of) c.zero_sum.ensures.exact above

pub returns-else-sum-zero_sum-clause-not_above_start : goal.returns-else-sum-zero_sum-clause-not_above_start
returns-else-sum-zero_sum-clause-not_above_start c =
    is_start c.args.problem.now c.load.new.self.marks c.load.new.self.multipliers c.args.start.now c.load.ensures.multipliers
