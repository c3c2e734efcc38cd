use Rattle.std.proofs.Common.{◌∙◌, ◌<◌, ◌++◌, [], ◌∷◌, List, ℕ, length, take, sym, subst, arith}
use Rattle.std.specs.Prelude.{IfSome, IfNone}
use Rattle.std.proofs.lemmas.List.{length-take, length-set, take_all, take_more_set}
use Rattle.std.proofs.lemmas.Result.{err_from_is_err_and}
use Rattle.dali_replica.specs.Intake.{Midway, AtEnd, reach_of}
use Rattle.dali_replica.proofs.head.read_head.Goals as goal

pub returns-in_err-byte-clause-breaks : goal.returns-in_err-byte-clause-breaks
returns-in_err-byte-clause-breaks g c =
    let q = err_from_is_err_and c.from_residual.result c.from_residual.ensures.1 in
    rw (q.1, q.2) (record {
      part = take c.loop-at.at c.loop-at.head;
      short = omega (arith, length-take c.loop-at.at c.loop-at.head);
      breaks = c.in_err-byte.ensures.breaks (reach_of c.args.intake.now (g.S.Source.feed c.args.source.now)) (take c.loop-at.at c.loop-at.head) c.loop-at.invariant.midway;
    })

pub returns-in-None-clause-none : goal.returns-in-None-clause-none
returns-in-None-clause-none g c =
    let told = g.S.Source.tells in
    let start = reach_of c.args.intake.now (g.S.Source.feed c.args.source.now) in
    let now = reach_of c.next_byte.new.self (g.S.Source.feed c.next_byte.new.source) in
    let front = take c.loop-at.at c.loop-at.head in
    record {
      part = front;
      short = omega (arith, length-take c.loop-at.at c.loop-at.head);
      at_end = subst (λ o. IfNone o (AtEnd told start front now)) c.in-None.is (c.in_ok-byte.ensures.none start front c.loop-at.invariant.midway);
    }

pub loop-at-preserved : goal.loop-at-preserved
loop-at-preserved g c =
    let told = g.S.Source.tells in
    let start = reach_of c.args.intake.now (g.S.Source.feed c.args.source.now) in
    let now = reach_of c.next_byte.new.self (g.S.Source.feed c.next_byte.new.source) in
    let front = take c.loop-at.at c.loop-at.head in
    let within : c.loop-at.at < length c.loop-at.head = omega arith in
    record {
      midway = subst (λ (bytes : List ℕ). Midway told start bytes now) (sym (take_more_set c.loop-at.head c.loop-at.at c.in-Some.byte within))
          (subst (λ o. IfSome o (λ b. Midway told start (front ++ b ∷ []) now)) c.in-Some.is (c.in_ok-byte.ensures.some start front c.loop-at.invariant.midway));
      long = length-set c.loop-at.head c.loop-at.at c.in-Some.byte ∙ c.loop-at.invariant.long;
      quiet = c.in_ok-byte.ensures.quiet (λ e. absurd (cc)) ∙ c.loop-at.invariant.quiet;
    }

pub returns-clause-some : goal.returns-clause-some
returns-clause-some g c =
    let start = reach_of c.args.intake.now (g.S.Source.feed c.args.source.now) in
    let now = reach_of c.loop-at.intake (g.S.Source.feed c.loop-at.source) in
    subst (λ (bytes : List ℕ). Midway g.S.Source.tells start bytes now) (take_all c.loop-at.at c.loop-at.head (omega arith) ∙ sym c.head_of.ensures) c.loop-at.invariant.midway
