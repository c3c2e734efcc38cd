use Rattle.std.proofs.Common.{◌≡◌, ◌∙◌, ◌+◌, length, true, false, Err, sym, ap, subst, arith}
use Rattle.dali_journal.specs.JournalAt.{Reached}
use Rattle.dali_journal.specs.declared.refusal.AppendNo.{AppendNo}
use Rattle.dali_machine.specs.Machine.{Machine}
use Rattle.dali_machine.specs.Ready.{IsReady}
use Rattle.dali_recover.specs.Recovers.{IsFound}
use Rattle.dali_recover.specs.declared.found.Found.{Found}
use Rattle.dali_recover.proofs.Reading.{few}
use Rattle.dali_follow.specs.SoFar.{AddsNot}
use Rattle.dali_follow.proofs.Added.{frame_long, has_choice, reported_of, next_state, added_found, appends_entry, add_failed, fits_not}
use Rattle.dali_follow.proofs.adding.add.Goals as goal

pub prepare-requires-clause-few : goal.prepare-requires-clause-few
prepare-requires-clause-few g c = few (g.T.Site.sight c.args.site.now).size c.args.found.now (omega (arith, c.size-size.ensures.size, c.size-size.type_inv)) c.requires.found.read

pub prepare-requires-clause-choice : goal.prepare-requires-clause-choice
prepare-requires-clause-choice g c =
    has_choice c.args.found.now.journal.edition c.args.found.now.entries c.args.bytes.now c.args.entry c.args.found.now.state.machine c.in_ok-choice.choice c.requires.next c.requires.found.read.state c.in_ok-choice.ensures

pub returns-in-Err-clause-ended : goal.returns-in-Err-clause-ended
returns-in-Err-clause-ended g c =
    let told = g.T.Site.tells in
    let before = g.T.Site.sight c.args.site.now in
    let after = g.T.Site.sight c.append.new.site in
    let long : length c.in_ok-sealed.sealed ≡ length c.args.bytes.now + 5 = ap length c.in_ok-sealed.ensures.value ∙ frame_long c.args.bytes.now in
    subst (AddsNot told c.args.entry c.args.found.now before after) (sym c.end_of_append.ensures)
    (add_failed told c.args.entry c.args.found.now before after c.in-Err.no
    (λ is. record {
      reported = reported_of c.args.found.now.entries c.args.entry c.args.found.now.state.machine c.in_ok-choice.choice c.in_ok-ready.ready.outcome c.requires.found.read.state c.in_ok-choice.ensures
          c.in_ok-ready.ensures.ready.outcome c.outcome-outcome.ensures.reported;
      appends = λ t. appends_entry false c.args.found.now.journal.tail c.args.entry c.args.bytes.now c.in_ok-sealed.sealed before after c.requires.next.record_is.text c.in_ok-sealed.ensures.value c.in_ok-sealed.ensures.payload
          (c.in-Err.ensures.stops t);
      silent = c.append.ensures.silent;
      goes = c.append.ensures.goes;
      rose = c.in-Err.ensures.fault (ap (λ (e : AppendNo). Err e) is);
    })
    (λ need left is.
    let full = (c.in-Err.ensures.full need left).0 (ap (λ (e : AppendNo). Err e) is) in
    fits_not c.args.entry c.args.found.now c.args.bytes.now (length c.in_ok-sealed.sealed) need left before after c.requires.next.record_is.text long full (c.append.ensures.unwritten full.0).1))

pub returns-clause-found : goal.returns-clause-found
returns-clause-found g c =
    let before = g.T.Site.sight c.args.site.now in
    let new : Found = record { state = c.commit-outcome.new.self; entries = c.push.new.self; journal = c.append.new.self } in
    let long : length c.in_ok-sealed.sealed ≡ length c.args.bytes.now + 5 = ap length c.in_ok-sealed.ensures.value ∙ frame_long c.args.bytes.now in
    let ready : IsReady c.args.entry.edition c.prepare.new.self.machine c.args.entry.line c.in_ok-choice.choice c.in_ok-ready.ready =
    subst (λ (m : Machine). IsReady c.args.entry.edition m c.args.entry.line c.in_ok-choice.choice c.in_ok-ready.ready) (sym c.prepare.ensures.machine) c.in_ok-ready.ensures.ready in
    subst (λ n. IsFound n new) (sym c.append.ensures.goes.same_size)
    (added_found before.size c.args.found.now new c.args.bytes.now c.args.entry c.requires.found c.requires.next
    (reported_of c.args.found.now.entries c.args.entry c.args.found.now.state.machine c.in_ok-choice.choice c.in_ok-ready.ready.outcome c.requires.found.read.state c.in_ok-choice.ensures c.in_ok-ready.ensures.ready.outcome
    c.outcome-outcome.ensures.reported)
    c.in_ok-push.ensures.ok
    (next_state c.args.found.now.entries c.args.entry c.prepare.new.self.machine c.commit-outcome.new.self.machine c.in_ok-choice.choice (c.prepare.ensures.machine ∙ c.requires.found.read.state) c.in_ok-choice.ensures
    (c.commit-outcome.ensures.step c.args.entry.edition c.args.entry.line c.in_ok-choice.choice ready))
    (c.commit-outcome.ensures.counted ∙ ap (λ (m : Machine). m.commands + 1) c.prepare.ensures.machine)
    (length c.in_ok-sealed.sealed) long c.in-Ok.ensures.moved c.in-Ok.ensures.fits)

pub returns-clause-added : goal.returns-clause-added
returns-clause-added g c =
    let before = g.T.Site.sight c.args.site.now in
    let after = g.T.Site.sight c.append.new.site in
    let long : length c.in_ok-sealed.sealed ≡ length c.args.bytes.now + 5 = ap length c.in_ok-sealed.ensures.value ∙ frame_long c.args.bytes.now in
    record {
      entries = c.in_ok-push.ensures.ok;
      edition = ap (λ (j : Reached). j.edition) c.in-Ok.ensures.moved;
      tail = omega (arith, ap (λ (j : Reached). j.tail) c.in-Ok.ensures.moved, long, ap length c.requires.next.record_is.text);
      appends = λ t. appends_entry true c.args.found.now.journal.tail c.args.entry c.args.bytes.now c.in_ok-sealed.sealed before after c.requires.next.record_is.text c.in_ok-sealed.ensures.value c.in_ok-sealed.ensures.payload
          (c.in-Ok.ensures.stops t);
      silent = c.append.ensures.silent;
      goes = c.append.ensures.goes;
    }
