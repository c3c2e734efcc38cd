use Rattle.std.proofs.Common.{◌≡◌, ◌∙◌, ◌+◌, ◌++◌, ◌∷◌, ◌≤◌, [], List, take, drop, refl, sym, ap, subst, arith}
use Rattle.std.specs.Prelude.{Err, IfErr}
use Rattle.std.proofs.lemmas.List.{take_all}
use Rattle.std.proofs.lemmas.Result.{err_from_is_err_and}
use Rattle.dali_entry.specs.EntryRecord.{EntryRecord}
use Rattle.dali_machine.specs.Machine.{opening}
use Rattle.dali_day.specs.SoFar.{ReplaysTo, ReplaysSome, EndsSo}
use Rattle.dali_day.specs.declared.end.DayEnd.{DayEnd}
use Rattle.dali_day.proofs.Replaying.{cut_at, cut_more, kept_choice, none_gone}
use Rattle.dali_day.proofs.replay.replay.Goals as goal

pub loop-entry-init : goal.loop-entry-init
loop-entry-init g c = record {
  counted = none_gone c.new-state.result.machine c.args.lines.now.given c.new-state.ensures c.requires.first;
  few = omega (arith, c.requires.first);
  far = subst (λ m. ReplaysSome g.S.Source.tells g.T.Site.tells c.args.entries.now [] c.args.lines.now m (g.S.Source.feed c.args.source.now) (g.T.Site.sight c.args.site.now)) (sym c.new-state.ensures) c.requires.far;
  to = λ feed sight tail edition has to.
      subst (λ m. ReplaysTo g.S.Source.tells g.T.Site.tells feed sight c.args.entries.now [] tail edition c.args.lines.now m (g.S.Source.feed c.args.source.now) (g.T.Site.sight c.args.site.now)) (sym c.new-state.ensures) to;
}

pub repeat_next-requires-clause-choice : goal.repeat_next-requires-clause-choice
repeat_next-requires-clause-choice g c =
    let i = c.loop-entry.entry-index in
    let far = c.loop-entry.invariant.far in
    let e = c.entry-item.result in
    kept_choice g.S.Source.tells g.T.Site.tells far.old far.before c.args.entries.now (take i c.args.entries.now) (drop (i + 1) c.args.entries.now) e far.tail far.edition c.loop-entry.lines c.loop-entry.lines
    c.loop-entry.state.machine (g.S.Source.feed c.loop-entry.source) (g.S.Source.feed c.loop-entry.source) (g.T.Site.sight c.loop-entry.site)
    (cut_at c.args.entries.now i e c.loop-entry-test.true c.entry-item.is) far.has far.to (omega arith)

pub returns-in_err-repeat_next-clause-ended : goal.returns-in_err-repeat_next-clause-ended
returns-in_err-repeat_next-clause-ended g c feed sight tail edition has to =
    let i = c.loop-entry.entry-index in
    let e = c.entry-item.result in
    let q = err_from_is_err_and c.from_residual.result c.from_residual.ensures.1 in
    subst (λ r. IfErr r (EndsSo g.S.Source.tells g.T.Site.tells feed (g.S.Source.feed c.repeat_next.new.source) sight (g.T.Site.sight c.repeat_next.new.site))) (sym (q.1 ∙ ap (λ (e : DayEnd). Err e) q.2))
    (c.in_err-repeat_next.ensures.ended feed sight c.args.entries.now (take i c.args.entries.now) (drop (i + 1) c.args.entries.now) tail edition
    (cut_at c.args.entries.now i e c.loop-entry-test.true c.entry-item.is) has (c.loop-entry.invariant.to feed sight tail edition has to))

pub loop-entry-preserved : goal.loop-entry-preserved
loop-entry-preserved g c =
    let i = c.loop-entry.entry-index in
    let far = c.loop-entry.invariant.far in
    let e = c.entry-item.result in
    let cut = cut_at c.args.entries.now i e c.loop-entry-test.true c.entry-item.is in
    let more = cut_more c.args.entries.now i e c.loop-entry-test.true c.entry-item.is in
    record {
      counted = c.in_ok-repeat_next.ensures.counted;
      few = c.repeat_next.ensures.bounded;
      far = record {
        old = far.old;
        before = far.before;
        tail = far.tail;
        edition = far.edition;
        has = far.has;
        to = subst (λ (xs : List EntryRecord). ReplaysTo g.S.Source.tells g.T.Site.tells far.old far.before c.args.entries.now xs far.tail far.edition c.repeat_next.new.lines c.repeat_next.new.state.machine
            (g.S.Source.feed c.repeat_next.new.source) (g.T.Site.sight c.repeat_next.new.site)) more
            (c.in_ok-repeat_next.ensures.repeated far.old far.before c.args.entries.now (take i c.args.entries.now) (drop (i + 1) c.args.entries.now) far.tail far.edition cut far.has far.to);
      };
      to = λ feed sight tail edition has to.
          subst (λ (xs : List EntryRecord). ReplaysTo g.S.Source.tells g.T.Site.tells feed sight c.args.entries.now xs tail edition c.repeat_next.new.lines c.repeat_next.new.state.machine
          (g.S.Source.feed c.repeat_next.new.source) (g.T.Site.sight c.repeat_next.new.site)) more
          (c.in_ok-repeat_next.ensures.repeated feed sight c.args.entries.now (take i c.args.entries.now) (drop (i + 1) c.args.entries.now) tail edition cut has (c.loop-entry.invariant.to feed sight tail edition has to));
    }

pub returns-clause-repeated : goal.returns-clause-repeated
returns-clause-repeated g c feed sight tail edition has to =
    subst (λ (xs : List EntryRecord). ReplaysTo g.S.Source.tells g.T.Site.tells feed sight c.args.entries.now xs tail edition c.loop-entry.lines c.loop-entry.state.machine
    (g.S.Source.feed c.loop-entry.source) (g.T.Site.sight c.loop-entry.site)) (take_all c.loop-entry.entry-index c.args.entries.now c.loop-entry-test.false)
    (c.loop-entry.invariant.to feed sight tail edition has to)
