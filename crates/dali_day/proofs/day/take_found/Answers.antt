use Rattle.std.proofs.Common.{◌≡◌, ◌∙◌, ◌≤◌, [], List, refl, sym, ap, subst, arith}
use Rattle.dali_entry.specs.EntryRecord.{EntryRecord}
use Rattle.dali_journal.specs.JournalAt.{Reached}
use Rattle.dali_line.specs.Lines.{Reader}
use Rattle.dali_machine.specs.Machine.{Machine, StateRecord, opening}
use Rattle.dali_day.specs.SoFar.{HasFound, ReplaysTo, ReplaysSome, GoesOnTo, GoesOnSome}
use Rattle.dali_day.proofs.Recovered.{has_found, replays_none, wants_reader, wants_register, starts, goes_start}
use Rattle.dali_day.proofs.day.take_found.Goals as goal

pub returns-in_default : goal.returns-in_default
returns-in_default g c before since = wants_reader g.S.Source.tells g.T.Site.tells (g.S.Source.feed c.args.source.now) before (g.T.Site.sight c.args.site.now) c.args.found since

pub replay-requires-clause-first : goal.replay-requires-clause-first
replay-requires-clause-first g c = ap (λ (r : Reader). r.given) c.in-Ok.ensures

pub replay-requires-clause-far : goal.replay-requires-clause-far
replay-requires-clause-far g c =
    let s = g.S.Source.tells in
    let t = g.T.Site.tells in
    let feed = g.S.Source.feed c.args.source.now in
    let sight = g.T.Site.sight c.args.site.now in
    let some = c.requires in
    subst (λ (xs : List EntryRecord). ReplaysSome s t xs [] c.in-Ok.lines opening feed sight) (sym c.as_slice.ensures) (record {
      old = feed;
      before = some.before;
      tail = c.args.found.journal.tail;
      edition = c.args.found.journal.edition;
      has = has_found s t feed some.before sight c.args.found some.since;
      to = replays_none s t feed some.before sight c.args.found some.since c.in-Ok.lines c.in-Ok.ensures;
    })

pub returns-in-Err : goal.returns-in-Err
returns-in-Err g c before since =
    let s = g.S.Source.tells in
    let t = g.T.Site.tells in
    let feed = g.S.Source.feed c.args.source.now in
    let sight = g.T.Site.sight c.args.site.now in
    let j = c.args.found.journal in
    c.in-Err.ensures.ended feed before j.tail j.edition
    (subst (λ (xs : List EntryRecord). HasFound t before j.edition xs) (sym c.as_slice.ensures) (has_found s t feed before sight c.args.found since))
    (subst (λ (xs : List EntryRecord). ReplaysTo s t feed before xs [] j.tail j.edition c.in-Ok.lines opening feed sight) (sym c.as_slice.ensures)
    (replays_none s t feed before sight c.args.found since c.in-Ok.lines c.in-Ok.ensures))

pub returns-in_default-new : goal.returns-in_default-new
returns-in_default-new g c before since =
    let s = g.S.Source.tells in
    let t = g.T.Site.tells in
    let feed = g.S.Source.feed c.args.source.now in
    let last = g.S.Source.feed c.replay.new.source in
    let sight = g.T.Site.sight c.args.site.now in
    let then = g.T.Site.sight c.replay.new.site in
    let j = c.args.found.journal in
    let m = c.in-Ok-replay.state.machine in
    wants_register s t feed before sight c.args.found since c.replay.new.lines m last then
    (subst (λ (xs : List EntryRecord). ReplaysTo s t feed before xs xs j.tail j.edition c.replay.new.lines m last then) c.as_slice.ensures
    (c.in-Ok-replay.ensures.repeated feed before j.tail j.edition
    (subst (λ (xs : List EntryRecord). HasFound t before j.edition xs) (sym c.as_slice.ensures) (has_found s t feed before sight c.args.found since))
    (subst (λ (xs : List EntryRecord). ReplaysTo s t feed before xs [] j.tail j.edition c.in-Ok.lines opening feed sight) (sym c.as_slice.ensures)
    (replays_none s t feed before sight c.args.found since c.in-Ok.lines c.in-Ok.ensures))))

pub take_new-requires-clause-counted : goal.take_new-requires-clause-counted
take_new-requires-clause-counted g c = ap (λ (r : StateRecord). r.machine.commands) c.in-Ok-new.ensures.state ∙ c.in-Ok-replay.ensures.counted

pub take_new-requires-clause-far : goal.take_new-requires-clause-far
take_new-requires-clause-far g c =
    let s = g.S.Source.tells in
    let t = g.T.Site.tells in
    let feed = g.S.Source.feed c.args.source.now in
    let last = g.S.Source.feed c.replay.new.source in
    let sight = g.T.Site.sight c.args.site.now in
    let then = g.T.Site.sight c.replay.new.site in
    let j = c.args.found.journal in
    let m = c.in-Ok-replay.state.machine in
    let before = c.requires.before in
    let since = c.requires.since in
    let to : ReplaysTo s t feed before c.args.found.entries c.args.found.entries j.tail j.edition c.replay.new.lines m last then =
    subst (λ (xs : List EntryRecord). ReplaysTo s t feed before xs xs j.tail j.edition c.replay.new.lines m last then) c.as_slice.ensures
    (c.in-Ok-replay.ensures.repeated feed before j.tail j.edition
    (subst (λ (xs : List EntryRecord). HasFound t before j.edition xs) (sym c.as_slice.ensures) (has_found s t feed before sight c.args.found since))
    (subst (λ (xs : List EntryRecord). ReplaysTo s t feed before xs [] j.tail j.edition c.in-Ok.lines opening feed sight) (sym c.as_slice.ensures)
    (replays_none s t feed before sight c.args.found since c.in-Ok.lines c.in-Ok.ensures))) in
    record {
      old = feed;
      before = before;
      found = c.args.found.entries;
      has = subst (λ (x : Reached). HasFound t before x.edition c.args.found.entries) (sym c.in-Ok-new.ensures.journal) (has_found s t feed before sight c.args.found since);
      to = goes_start s t feed before sight c.args.found since c.replay.new.lines m last then to c.in-Ok-new.register
          (c.in-Ok-new.ensures.starts t before c.args.found.entries then (starts s t feed before sight c.args.found since c.replay.new.lines m last then to));
    }

pub returns : goal.returns
returns g c before since =
    let s = g.S.Source.tells in
    let t = g.T.Site.tells in
    let feed = g.S.Source.feed c.args.source.now in
    let last = g.S.Source.feed c.replay.new.source in
    let sight = g.T.Site.sight c.args.site.now in
    let then = g.T.Site.sight c.replay.new.site in
    let j = c.args.found.journal in
    let m = c.in-Ok-replay.state.machine in
    let to : ReplaysTo s t feed before c.args.found.entries c.args.found.entries j.tail j.edition c.replay.new.lines m last then =
    subst (λ (xs : List EntryRecord). ReplaysTo s t feed before xs xs j.tail j.edition c.replay.new.lines m last then) c.as_slice.ensures
    (c.in-Ok-replay.ensures.repeated feed before j.tail j.edition
    (subst (λ (xs : List EntryRecord). HasFound t before j.edition xs) (sym c.as_slice.ensures) (has_found s t feed before sight c.args.found since))
    (subst (λ (xs : List EntryRecord). ReplaysTo s t feed before xs [] j.tail j.edition c.in-Ok.lines opening feed sight) (sym c.as_slice.ensures)
    (replays_none s t feed before sight c.args.found since c.in-Ok.lines c.in-Ok.ensures))) in
    c.take_new.ensures feed before c.args.found.entries
    (subst (λ (x : Reached). HasFound t before x.edition c.args.found.entries) (sym c.in-Ok-new.ensures.journal) (has_found s t feed before sight c.args.found since))
    (goes_start s t feed before sight c.args.found since c.replay.new.lines m last then to c.in-Ok-new.register
    (c.in-Ok-new.ensures.starts t before c.args.found.entries then (starts s t feed before sight c.args.found since c.replay.new.lines m last then to)))
