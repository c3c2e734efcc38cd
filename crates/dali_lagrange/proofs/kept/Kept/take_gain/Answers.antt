use Rattle.std.proofs.Common.{arith}
use Rattle.std.proofs.lemmas.Int.{ints}
use Rattle.dali_lagrange.proofs.Gains.{total_set}
use Rattle.dali_lagrange.proofs.kept.Kept.take_gain.Goals as goal

pub returns-in-Some-clause-gained : goal.returns-in-Some-clause-gained
returns-in-Some-clause-gained c = λ _.
    let is = total_set c.args.problem.now c.args.self.now c.set_with_rise.new.self c.args.line c.in-Some.gain.to c.set_with_rise.ensures.of c.set_with_rise.ensures.marks c.set_with_rise.ensures.multipliers in
    let gain = c.in-Some.ensures.gain in
    omega (arith, ints, is, gain.smaller)
