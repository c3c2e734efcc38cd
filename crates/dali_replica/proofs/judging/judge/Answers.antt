use Rattle.dali_replica.specs.declared.judged.Judged.TheVariants.{Next, Kept, Ahead, Other, Bad}
use Rattle.dali_replica.proofs.Judges.{exactly}
use Rattle.dali_replica.proofs.judging.judge.Goals as goal

pub returns-clause-next : goal.returns-clause-next
returns-clause-next c e = exactly c.args.edition c.args.found.now c.args.frame.now c.judge_number.result c.judge_number.ensures (Next e)

pub returns-clause-kept : goal.returns-clause-kept
returns-clause-kept c = exactly c.args.edition c.args.found.now c.args.frame.now c.judge_number.result c.judge_number.ensures Kept

pub returns-clause-ahead : goal.returns-clause-ahead
returns-clause-ahead c = exactly c.args.edition c.args.found.now c.args.frame.now c.judge_number.result c.judge_number.ensures Ahead

pub returns-clause-other : goal.returns-clause-other
returns-clause-other c = exactly c.args.edition c.args.found.now c.args.frame.now c.judge_number.result c.judge_number.ensures Other

pub returns-clause-bad : goal.returns-clause-bad
returns-clause-bad c = exactly c.args.edition c.args.found.now c.args.frame.now c.judge_number.result c.judge_number.ensures Bad
