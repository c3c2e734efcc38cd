use Rattle.std.proofs.lemmas.Result.{err_from_is_err_and}
use Rattle.dali_replica.proofs.intake.Intake.next_byte.Goals as goal

pub returns-in_err-wait-clause-breaks : goal.returns-in_err-wait-clause-breaks
returns-in_err-wait-clause-breaks g c old used midway =
    let q = err_from_is_err_and c.from_residual.result c.from_residual.ensures.1 in
    rw (q.1, q.2) (c.in_err-wait.ensures.breaks old used midway)

pub returns-then-not-branch-clause-none : goal.returns-then-not-branch-clause-none
returns-then-not-branch-clause-none g c old used midway = c.in_ok-wait.ensures.end old used midway c.if-not-branch.true
