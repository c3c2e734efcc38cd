use Rattle.std.proofs.Common.{◌≡◌, ◌≤◌, ◌∙◌, ◌+◌, ◌++◌, true, false, refl, sym, ap, subst, length, arith}
use Rattle.std.specs.Prelude.{Ok, Err}
use Rattle.dali_day.specs.SoFar.{EndsSo, Finishes}
use Rattle.dali_day.proofs.Commands.{took_on, took_ends, stopped, over_now}
use Rattle.dali_day.proofs.Running.{is_running}
use Rattle.dali_register.proofs.Holding.{held_long}
use Rattle.dali_day.proofs.taking.take_next.Goals as goal

pub take-requires-clause-at_site : goal.take-requires-clause-at_site
take-requires-clause-at_site g c = c.requires.far.to.to.so_far.stands.at_site

pub take-requires-clause-room : goal.take-requires-clause-room
take-requires-clause-room g c =
    let far = c.requires.far.to in
    omega (arith, held_long g.T.Site.tells c.requires.far.before c.requires.far.found far.added far.held c.args.register.now (g.T.Site.sight c.args.site.now) far.to.so_far.stands, far.to.so_far.room)

pub end_with-requires : goal.end_with-requires
end_with-requires g c = c.requires.far.to.to.so_far.stands.at_site

pub end_with-requires-in-Err : goal.end_with-requires-in-Err
end_with-requires-in-Err g c = c.requires.far.to.to.so_far.stands.at_site

pub returns-in-Ok-clause-taken : goal.returns-in-Ok-clause-taken
returns-in-Ok-clause-taken g c feed sight found has to =
    let s = g.S.Source.tells in
    let t = g.T.Site.tells in
    let reader = c.args.lines.now in
    let running : reader.over ≡ false = is_running reader.over c.next.result (λ o. (c.next.ensures.over o).0) (λ none. absurd (Prim.cc)) in
    took_on s t feed sight found to.added to.held reader c.next.new.self c.args.register.now (g.S.Source.feed c.args.source.now) (g.S.Source.feed c.next.new.source) (g.T.Site.sight c.args.site.now)
    has to.to c.next.ensures.faults c.in-Ok-Some.line running ((rw c.in-Ok-Some.field-0-is at c.in-Ok-Some.ensures.some) running) c.take.new.self (g.T.Site.sight c.take.new.site) c.in-Ok.ensures.edition (Ok c.in-Ok.field-0)
    (c.in-Ok.ensures.took sight found to.added to.held to.to.so_far)

pub returns-in-Err-take-clause-ended : goal.returns-in-Err-take-clause-ended
returns-in-Err-take-clause-ended g c feed sight found has to =
    let s = g.S.Source.tells in
    let t = g.T.Site.tells in
    let reader = c.args.lines.now in
    let running : reader.over ≡ false = is_running reader.over c.next.result (λ o. (c.next.ensures.over o).0) (λ none. absurd (Prim.cc)) in
    subst (EndsSo s t feed (g.S.Source.feed c.next.new.source) sight (g.T.Site.sight c.take.new.site)) (sym c.end_of_register.ensures)
    (took_ends s t feed sight found to.added to.held reader c.next.new.self c.args.register.now (g.S.Source.feed c.args.source.now) (g.S.Source.feed c.next.new.source) (g.T.Site.sight c.args.site.now)
    has to.to c.next.ensures.faults c.in-Ok-Some.line running ((rw c.in-Ok-Some.field-0-is at c.in-Ok-Some.ensures.some) running) c.take.new.self (g.T.Site.sight c.take.new.site) c.in-Err-take.ensures.edition (Err c.in-Err-take.no)
    (c.in-Err-take.ensures.took sight found to.added to.held to.to.so_far))

pub returns-in-Ok-None-clause-ended : goal.returns-in-Ok-None-clause-ended
returns-in-Ok-None-clause-ended g c feed sight found has to =
    let s = g.S.Source.tells in
    let t = g.T.Site.tells in
    c.end_with.ensures.ended s feed (g.S.Source.feed c.next.new.source) sight found to.added to.held
    (over_now s t feed sight found to.added to.held c.args.lines.now c.next.new.self c.args.register.now (g.S.Source.feed c.args.source.now) (g.S.Source.feed c.next.new.source) (g.T.Site.sight c.args.site.now)
    has to.to c.next.ensures.faults (λ o. ((c.next.ensures.over o).1, ap g.S.Source.feed (c.next.ensures.over o).2)) (rw c.in-Ok-None.field-0-is at c.in-Ok-None.ensures.none))

pub returns-in-Err-clause-ended : goal.returns-in-Err-clause-ended
returns-in-Err-clause-ended g c feed sight found has to =
    let s = g.S.Source.tells in
    let t = g.T.Site.tells in
    let reader = c.args.lines.now in
    let running : reader.over ≡ false = is_running reader.over c.next.result (λ o. (c.next.ensures.over o).0) (λ none. absurd (Prim.cc)) in
    c.end_with-in-Err.ensures.ended s feed (g.S.Source.feed c.next.new.source) sight found to.added to.held
    (subst (λ e. Finishes s t feed (g.S.Source.feed c.next.new.source) sight found to.added to.held c.args.register.now (g.T.Site.sight c.args.site.now) e) (sym c.end_of_input.ensures)
    (stopped s t feed sight found to.added to.held reader c.next.new.self c.args.register.now (g.S.Source.feed c.args.source.now) (g.S.Source.feed c.next.new.source) (g.T.Site.sight c.args.site.now)
    has to.to c.next.ensures.faults c.in-Err.end running c.in-Err.ensures.stops (λ is. c.next.ensures.failed (c.in-Err.is ∙ ap (λ e. Err e) is))))
