use Rattle.std.proofs.Common.{◌<◌, ◌++◌, length, sym, subst, arith}
use Rattle.std.proofs.lemmas.Result.{err_from_is_err_and}
use Rattle.dali_replica.specs.Intake.{Taken, Midway, reach_of}
use Rattle.dali_replica.proofs.Midways.{breaks_short}
use Rattle.dali_replica.proofs.record.read_record.Goals as goal

pub returns-in_err-wait-clause-stops : goal.returns-in_err-wait-clause-stops
returns-in_err-wait-clause-stops g c old used midway =
    let q = err_from_is_err_and c.from_residual.result c.from_residual.ensures.1 in
    rw (q.1, q.2)
    (breaks_short g.S.Source.tells old (reach_of c.wait.new.self (g.S.Source.feed c.wait.new.source)) used c.args.size c.loop-intake.bytes c.in_err-wait.field-0.0 (omega arith)
    (c.in_err-wait.ensures.breaks old (used ++ c.loop-intake.bytes) (c.loop-intake.invariant.midway old used midway)))

pub returns-then-not-branch-clause-none : goal.returns-then-not-branch-clause-none
returns-then-not-branch-clause-none g c old used midway = record {
  part = c.loop-intake.bytes;
  short = omega arith;
  at_end = c.in_ok-wait.ensures.end old (used ++ c.loop-intake.bytes) (c.loop-intake.invariant.midway old used midway) c.if-not-branch.true;
}

pub returns-in_err-move_to-clause-stops : goal.returns-in_err-move_to-clause-stops
returns-in_err-move_to-clause-stops g c old used midway =
    let q = err_from_is_err_and c.from_residual-in_err-move_to.result c.from_residual-in_err-move_to.ensures.1 in
    let feed = g.S.Source.feed c.wait.new.source in
    let there = used ++ c.loop-intake.bytes in
    rw (q.1, q.2) (record {
      part = c.loop-intake.bytes;
      midway = subst (λ (t : Taken). Midway g.S.Source.tells old there (reach_of t feed)) (sym c.in_err-move_to.ensures.kept)
          (c.in_ok-wait.ensures.more old there (c.loop-intake.invariant.midway old used midway) c.if-not-branch.false);
      some = subst (λ (t : Taken). 0 < length t.pending) (sym c.in_err-move_to.ensures.kept) (c.in_ok-wait.ensures.some c.if-not-branch.false);
    })
