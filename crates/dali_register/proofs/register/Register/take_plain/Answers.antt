use Rattle.std.proofs.Common.{◌≡◌, ◌∙◌, ◌+◌, ◌++◌, ◌∷◌, [], None, refl, sym, ap, subst, append_assoc, length, length-append, arith}
use Rattle.dali_entry.specs.EntryRecord.{EntryRecord}
use Rattle.dali_journal.specs.JournalAt.{Reached}
use Rattle.dali_machine.specs.Machine.{Machine}
use Rattle.dali_register.specs.Holding.{MayHold}
use Rattle.dali_register.specs.Making.{IsMade}
use Rattle.dali_register.specs.Standing.{SoFar}
use Rattle.dali_register.specs.declared.register.Register.{Register}
use Rattle.dali_register.proofs.Ending.{took_last}
use Rattle.dali_register.proofs.Holding.{entries_more, so_far_same, at_site_same, plain_may, held_long}
use Rattle.dali_register.proofs.register.Register.take_plain.Goals as goal

pub returns-in_default-clause-took : goal.returns-in_default-clause-took
returns-in_default-clause-took g c before found added held far =
    let r = c.args.self.now in
    c.end_wanting.ensures.took before found added held c.args.line
    (so_far_same g.T.Site.tells before found added held r (record { state = c.make.new.state; journal = r.journal; group = r.group; replies = r.replies; alloc = r.alloc }) (g.T.Site.sight c.args.site.now) far
    c.make.ensures.machine refl refl refl)

pub returns-then-left-bytes-clause-took : goal.returns-then-left-bytes-clause-took
returns-then-left-bytes-clause-took g c before found added held far =
    let r = c.args.self.now in
    let may = plain_may r.journal.edition c.edition.result r.state.machine c.args.line c.edition.ensures.value c.edition.ensures.bound.0 c.edition.ensures.bound.1 c.bytes-bytes.ensures.line c.requires.plain c.in-Ok.ensures.reported in
    c.end_full.ensures.took before found added held (record { edition = c.edition.result; line = c.args.line; choice = None })
    (so_far_same g.T.Site.tells before found added held r (record { state = c.make.new.state; journal = r.journal; group = r.group; replies = r.replies; alloc = r.alloc }) (g.T.Site.sight c.args.site.now) far
    c.make.ensures.machine refl refl refl)
    c.edition.ensures.value
    (entries_more r.journal.edition found ((found ++ added) ++ held) r.state.machine (record { edition = c.edition.result; line = c.args.line; choice = None }) far.stands.entries far.stands.machine may).legal
    (omega (arith, c.len.ensures, ap length c.in-Ok.ensures.made.record_is))

pub hold-requires-clause-room : goal.hold-requires-clause-room
hold-requires-clause-room g c = c.requires.room

pub returns-in-Err-clause-took : goal.returns-in-Err-clause-took
returns-in-Err-clause-took g c before found added held far =
    let r = c.args.self.now in
    let after : Register = record { state = c.make.new.state; journal = r.journal; group = r.group; replies = r.replies; alloc = r.alloc } in
    c.end_wanting-in-Err.ensures.took before found added held c.args.line
    (subst (λ (x : Register). SoFar g.T.Site.tells before found added held x (g.T.Site.sight c.args.site.now)) (sym c.in-Err.ensures.err)
    (so_far_same g.T.Site.tells before found added held r after (g.T.Site.sight c.args.site.now) far c.make.ensures.machine refl refl refl))

pub returns-then-len-lt-MOST_PAYLOADS-clause-took : goal.returns-then-len-lt-MOST_PAYLOADS-clause-took
returns-then-len-lt-MOST_PAYLOADS-clause-took g c before found added held far =
    let r = c.args.self.now in
    let told = g.T.Site.tells in
    let sight = g.T.Site.sight c.args.site.now in
    let after : Register = record { state = c.make.new.state; journal = r.journal; group = r.group; replies = r.replies; alloc = r.alloc } in
    let e : EntryRecord = record { edition = c.edition.result; line = c.args.line; choice = None } in
    let may = plain_may r.journal.edition c.edition.result r.state.machine c.args.line c.edition.ensures.value c.edition.ensures.bound.0 c.edition.ensures.bound.1 c.bytes-bytes.ensures.line c.requires.plain c.in-Ok.ensures.reported in
    let stands = c.in_default-hold.ensures.held told before found added held e sight (so_far_same told before found added held r after sight far c.make.ensures.machine refl refl refl).stands
    (subst (λ (m : Machine). IsMade e m c.in-Ok.made) (sym c.make.ensures.machine) c.in-Ok.ensures.made) (subst (λ (m : Machine). MayHold r.journal.edition m e) (sym c.make.ensures.machine) may) in
    record {
      entry = e;
      line_is = refl;
      edition_is = c.edition.ensures.value ∙ sym (ap (λ (j : Reached). j.edition) c.hold.ensures.journal);
      added = added;
      held = held ++ e ∷ [];
      whole = sym (append_assoc added held (e ∷ []));
      so_far = record {
        stands = stands;
        room = omega (arith, c.if-len-lt-MOST_PAYLOADS.true, c.len-2.ensures, held_long told before found added (held ++ e ∷ []) c.hold.new.self sight stands);
        spends = far.spends;
      };
    }

pub flush-requires : goal.flush-requires
flush-requires g c =
    let r = c.args.self.now in
    let after : Register = record { state = c.make.new.state; journal = r.journal; group = r.group; replies = r.replies; alloc = r.alloc } in
    c.in_default-hold.ensures.at_site (g.T.Site.sight c.args.site.now) (at_site_same r after (g.T.Site.sight c.args.site.now) c.requires.at_site refl refl)

pub returns-clause-took : goal.returns-clause-took
returns-clause-took g c before found added held far =
    let r = c.args.self.now in
    let told = g.T.Site.tells in
    let sight = g.T.Site.sight c.args.site.now in
    let after : Register = record { state = c.make.new.state; journal = r.journal; group = r.group; replies = r.replies; alloc = r.alloc } in
    let e : EntryRecord = record { edition = c.edition.result; line = c.args.line; choice = None } in
    let may = plain_may r.journal.edition c.edition.result r.state.machine c.args.line c.edition.ensures.value c.edition.ensures.bound.0 c.edition.ensures.bound.1 c.bytes-bytes.ensures.line c.requires.plain c.in-Ok.ensures.reported in
    let stands = c.in_default-hold.ensures.held told before found added held e sight (so_far_same told before found added held r after sight far c.make.ensures.machine refl refl refl).stands
    (subst (λ (m : Machine). IsMade e m c.in-Ok.made) (sym c.make.ensures.machine) c.in-Ok.ensures.made) (subst (λ (m : Machine). MayHold r.journal.edition m e) (sym c.make.ensures.machine) may) in
    took_last told before found added held e c.flush.new.self sight (g.T.Site.sight c.flush.new.site) c.flush.result far.spends
    (omega (arith, c.if-len-lt-MOST_PAYLOADS.false, c.len-2.ensures, held_long told before found added (held ++ e ∷ []) c.hold.new.self sight stands)) c.flush.ensures.syncs
    (c.edition.ensures.value ∙ sym (c.flush.ensures.edition ∙ ap (λ (j : Reached). j.edition) c.hold.ensures.journal)) (c.flush.ensures.flushed before found added (held ++ e ∷ []) stands)
