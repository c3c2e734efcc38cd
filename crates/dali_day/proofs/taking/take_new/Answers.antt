use Rattle.std.proofs.Common.{◌≡◌, ◌∙◌, ◌+◌, ◌-◌, ◌≤◌, refl, sym, ap, subst, arith}
use Rattle.dali_day.specs.SoFar.{HasFound, GoesOnTo}
use Rattle.dali_day.proofs.taking.take_new.Goals as goal

pub loop-end-init : goal.loop-end-init
loop-end-init g c = record {
  counted = c.requires.counted;
  few = c.requires.few;
  edition = refl;
  far = c.requires.far;
  to = λ feed sight found has to. to;
}

pub returns-in-Err : goal.returns-in-Err
returns-in-Err g c feed sight found has to =
    c.in-Err.ensures.ended feed sight found (subst (λ n. HasFound g.T.Site.tells sight n found) (sym c.loop-end.invariant.edition) has) (c.loop-end.invariant.to feed sight found has to)

pub loop-end-smaller : goal.loop-end-smaller
loop-end-smaller g c = omega (arith, c.in_default.ensures.given, c.take_next.ensures.bounded)

pub loop-end-preserved : goal.loop-end-preserved
loop-end-preserved g c =
    let far = c.loop-end.invariant.far in
    record {
      counted = c.in_default.ensures.counted;
      few = c.take_next.ensures.bounded;
      edition = c.take_next.ensures.edition ∙ c.loop-end.invariant.edition;
      far = record {
        old = far.old;
        before = far.before;
        found = far.found;
        has = subst (λ n. HasFound g.T.Site.tells far.before n far.found) (sym c.take_next.ensures.edition) far.has;
        to = c.in_default.ensures.taken far.old far.before far.found far.has far.to;
      };
      to = λ feed sight found has to.
          c.in_default.ensures.taken feed sight found (subst (λ n. HasFound g.T.Site.tells sight n found) (sym c.loop-end.invariant.edition) has) (c.loop-end.invariant.to feed sight found has to);
    }
