use Rattle.std.proofs.Common.{◌≡◌, ◌∙◌, ◌+◌, true, false, true≢false, refl, sym, ap, subst}
use Rattle.std.specs.Prelude.{Ok, Err}
use Rattle.dali_line.specs.Lines.{Gives}
use Rattle.dali_day.specs.SoFar.{EndsSo}
use Rattle.dali_day.proofs.Replaying.{other_line, no_line, again_one, again_ends, again_stopped, next_number}
use Rattle.dali_day.proofs.Running.{is_running}
use Rattle.dali_day.proofs.replay.repeat_next.Goals as goal

pub returns-then-not-is_of-clause-ended : goal.returns-then-not-is_of-clause-ended
returns-then-not-is_of-clause-ended g c feed sight found done todo tail edition parts has to =
    let s = g.S.Source.tells in
    let t = g.T.Site.tells in
    let old = g.S.Source.feed c.args.source.now in
    let new = g.S.Source.feed c.next.new.source in
    let here = g.T.Site.sight c.args.site.now in
    let e = c.args.entry.now in
    let reader = c.args.lines.now in
    let after = c.next.new.self in
    let m = c.args.state.now.machine in
    let running : reader.over ≡ false = is_running reader.over c.next.result (λ o. (c.next.ensures.over o).0) (λ none. absurd (Prim.cc)) in
    other_line s t feed sight found done todo e tail edition reader after m old new here parts has to c.next.ensures.faults (c.commands-command.result + 1) c.in-Ok-Some.line
    (next_number s t feed sight found done todo e tail edition reader after m old new here parts has to c.next.ensures.faults c.commands-command.result (c.commands-command.ensures ∙ c.requires.counted))
    running ((rw c.in-Ok-Some.field-0-is at c.in-Ok-Some.ensures.some) running)
    (λ is. true≢false (sym (c.is_of.ensures.same.1 is) ∙ c.if-not-is_of.true)) c.is_of.ensures.line

pub returns-in-Ok-clause-repeated : goal.returns-in-Ok-clause-repeated
returns-in-Ok-clause-repeated g c feed sight found done todo tail edition parts has to =
    let s = g.S.Source.tells in
    let t = g.T.Site.tells in
    let old = g.S.Source.feed c.args.source.now in
    let new = g.S.Source.feed c.next.new.source in
    let here = g.T.Site.sight c.args.site.now in
    let e = c.args.entry.now in
    let reader = c.args.lines.now in
    let after = c.next.new.self in
    let m = c.args.state.now.machine in
    let running : reader.over ≡ false = is_running reader.over c.next.result (λ o. (c.next.ensures.over o).0) (λ none. absurd (Prim.cc)) in
    again_one s t feed sight found done todo e tail edition reader after m old new here parts has to c.next.ensures.faults running
    (subst (λ l. Gives s l reader after old new) (c.is_of.ensures.same.0 c.if-not-is_of.false) ((rw c.in-Ok-Some.field-0-is at c.in-Ok-Some.ensures.some) running))
    c.repeat.new.state.machine (g.T.Site.sight c.repeat.new.site) (λ told. (c.in-Ok.ensures.disk told).bytes) c.in-Ok.ensures.syncs (Ok c.in-Ok.field-0)
    (c.in-Ok.ensures.repeated sight found done todo tail edition parts to.machine_is has.held to.repeats)

pub returns-in-Ok-Some-clause-ended : goal.returns-in-Ok-Some-clause-ended
returns-in-Ok-Some-clause-ended g c feed sight found done todo tail edition parts has to =
    let s = g.S.Source.tells in
    let t = g.T.Site.tells in
    let old = g.S.Source.feed c.args.source.now in
    let new = g.S.Source.feed c.next.new.source in
    let here = g.T.Site.sight c.args.site.now in
    let e = c.args.entry.now in
    let reader = c.args.lines.now in
    let after = c.next.new.self in
    let m = c.args.state.now.machine in
    let running : reader.over ≡ false = is_running reader.over c.next.result (λ o. (c.next.ensures.over o).0) (λ none. absurd (Prim.cc)) in
    subst (EndsSo s t feed new sight (g.T.Site.sight c.repeat.new.site)) (sym c.end_of_register.ensures)
    (again_ends s t feed sight found done todo e tail edition reader after m old new here parts has to c.next.ensures.faults running
    (subst (λ l. Gives s l reader after old new) (c.is_of.ensures.same.0 c.if-not-is_of.false) ((rw c.in-Ok-Some.field-0-is at c.in-Ok-Some.ensures.some) running))
    c.repeat.new.state.machine (g.T.Site.sight c.repeat.new.site) (λ told. (c.in-Err-repeat.ensures.disk told).bytes) c.in-Err-repeat.ensures.syncs (Err c.in-Err-repeat.no)
    (c.in-Err-repeat.ensures.repeated sight found done todo tail edition parts to.machine_is has.held to.repeats))

pub returns-in-Ok-None-clause-ended : goal.returns-in-Ok-None-clause-ended
returns-in-Ok-None-clause-ended g c feed sight found done todo tail edition parts has to =
    let s = g.S.Source.tells in
    let t = g.T.Site.tells in
    let old = g.S.Source.feed c.args.source.now in
    let new = g.S.Source.feed c.next.new.source in
    let here = g.T.Site.sight c.args.site.now in
    let e = c.args.entry.now in
    let reader = c.args.lines.now in
    let after = c.next.new.self in
    let m = c.args.state.now.machine in
    no_line s t feed sight found done todo e tail edition reader after m old new here parts has to c.next.ensures.faults (c.commands-command.result + 1)
    (next_number s t feed sight found done todo e tail edition reader after m old new here parts has to c.next.ensures.faults c.commands-command.result (c.commands-command.ensures ∙ c.requires.counted))
    (λ o. ((c.next.ensures.over o).1, ap g.S.Source.feed (c.next.ensures.over o).2)) (rw c.in-Ok-None.field-0-is at c.in-Ok-None.ensures.none)

pub returns-clause-ended : goal.returns-clause-ended
returns-clause-ended g c feed sight found done todo tail edition parts has to =
    let s = g.S.Source.tells in
    let t = g.T.Site.tells in
    let old = g.S.Source.feed c.args.source.now in
    let new = g.S.Source.feed c.next.new.source in
    let here = g.T.Site.sight c.args.site.now in
    let reader = c.args.lines.now in
    let running : reader.over ≡ false = is_running reader.over c.next.result (λ o. (c.next.ensures.over o).0) (λ none. absurd (Prim.cc)) in
    subst (EndsSo s t feed new sight here) (sym c.end_of_input.ensures)
    (again_stopped s t feed sight found done todo c.args.entry.now tail edition reader c.next.new.self c.args.state.now.machine old new here parts has to c.next.ensures.faults c.in-Err.end
    running c.in-Err.ensures.stops (λ is. c.next.ensures.failed (c.in-Err.is ∙ ap (λ e. Err e) is)))
