use Rattle.std.proofs.Common.{arith}
use Rattle.dali_trial.proofs.Looping.{few_lines, under_more, told_of}
use Rattle.dali_trial.proofs.running.trial.Goals as goal

pub take-requires-clause-few : goal.take-requires-clause-few
take-requires-clause-few c =
    omega (arith, c.loop-course.invariant.taken.taken, few_lines c.args.n c.requires c.loop-course.invariant.lines c.loop-course.lines c.loop-course.invariant.whole)

pub take-requires-clause-few_answers : goal.take-requires-clause-few_answers
take-requires-clause-few_answers c =
    omega (arith, c.loop-course.invariant.taken.answered, few_lines c.args.n c.requires c.loop-course.invariant.lines c.loop-course.lines c.loop-course.invariant.whole)

pub loop-course-preserved : goal.loop-course-preserved
loop-course-preserved c =
    under_more c.args.n c.loop-course.course c.take.new.self c.loop-course.lines c.next.new.self c.in-Some.line c.loop-course.invariant
    (rw c.in-Some.is at c.in_ok-line.ensures.some) (c.in_ok-take.ensures c.loop-course.invariant.lines c.loop-course.invariant.taken)

pub returns : goal.returns
returns c =
    told_of c.args.n c.loop-course.course c.loop-course.lines c.text.result c.of.ensures.commands (rw c.in_default.is at c.in_ok-line.ensures.none) c.loop-course.invariant
    (c.text.ensures c.loop-course.invariant.lines c.loop-course.invariant.taken)
