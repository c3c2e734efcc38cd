use Rattle.std.proofs.Common.{arith}
use Rattle.dali_greedy.specs.Standing.{IsDone}
use Rattle.dali_greedy.proofs.Goods.{grown_is}
use Rattle.dali_greedy.proofs.Worths.{worth_no_less}
use Rattle.dali_greedy.proofs.growing.grow_on.Goals as goal

pub returns-in-Some-clause-grown : goal.returns-in-Some-clause-grown
returns-in-Some-clause-grown c =
    let done : IsDone c.args.problem.now c.better.new.self.marks c.args.ground.now.members c.in-Some.set = rw c.in-Some.is at c.in_ok-set.ensures.done in
    grown_is c.args.problem.now c.args.partial.now.marks c.better.new.self c.args.ground.now.members c.in-Some.set c.requires.partial.marks
    c.better.ensures.of c.better.ensures.holds c.better.ensures.goes c.requires.ground.places c.requires.ground.members done c.better.ensures.stuck

pub returns-in-Some-clause-no_less : goal.returns-in-Some-clause-no_less
returns-in-Some-clause-no_less c = λ s places stands.
    let done : IsDone c.args.problem.now c.better.new.self.marks c.args.ground.now.members c.in-Some.set = rw c.in-Some.is at c.in_ok-set.ensures.done in
    worth_no_less c.args.problem.now s c.in-Some.set c.args.stand.now.marks c.better.new.self.marks places done.places stands done.stands
    (omega (arith, c.better.ensures.no_more, c.loop-set.invariant.no_more))
