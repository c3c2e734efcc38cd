use Rattle.std.proofs.Common.{◌≡◌, ◌∙◌, ◌+◌, ◌++◌, true, false, refl, sym, ap, subst, arith}
use Rattle.std.specs.Prelude.{Err}
use Rattle.dali_journal.specs.JournalAt.{Reached}
use Rattle.dali_journal.specs.declared.refusal.AppendNo.{AppendNo}
use Rattle.dali_outside.specs.Outside.{Prints}
use Rattle.dali_register.specs.Taking.{GivesUp, PrintsInPart}
use Rattle.dali_register.proofs.Flushing.{flushed_none, flush_gave_up, flush_mumbled, flushed_all, group_appends}
use Rattle.dali_register.proofs.register.Register.flush.Goals as goal

pub returns-in-Err-DiskFault-clause-flushed : goal.returns-in-Err-DiskFault-clause-flushed
returns-in-Err-DiskFault-clause-flushed g c before found added held stands =
    let told = g.T.Site.tells in
    let old = g.T.Site.sight c.args.site.now in
    let new = g.T.Site.sight c.append_group.new.site in
    subst (λ e. GivesUp told before found ((found ++ added) ++ held) e old new) (sym (ap (λ (j : Reached). j.edition) (c.in-Err-DiskFault.ensures.given_up (ap (λ (e : AppendNo). Err e) c.in-Err-DiskFault.field-0-is))))
    (flush_gave_up told before found added held c.args.self.now old new stands
    (λ is. group_appends told false before found added held c.args.self.now old new stands is (c.in-Err-DiskFault.ensures.stops is))
    c.in-Err-DiskFault.ensures.goes (c.in-Err-DiskFault.ensures.fault (ap (λ (e : AppendNo). Err e) c.in-Err-DiskFault.field-0-is)))

pub returns-in-Err-JournalFull-clause-flushed : goal.returns-in-Err-JournalFull-clause-flushed
returns-in-Err-JournalFull-clause-flushed g c before found added held stands =
    absurd (omega (arith, c.requires.fits, ((c.in-Err-JournalFull.ensures.full c.in-Err-JournalFull.need c.in-Err-JournalFull.left).0 (ap (λ (e : AppendNo). Err e) c.in-Err-JournalFull.field-0-is)).0))

pub returns-in-Err-JournalFull-clause-edition : goal.returns-in-Err-JournalFull-clause-edition
returns-in-Err-JournalFull-clause-edition g c =
    absurd (omega (arith, c.requires.fits, ((c.in-Err-JournalFull.ensures.full c.in-Err-JournalFull.need c.in-Err-JournalFull.left).0 (ap (λ (e : AppendNo). Err e) c.in-Err-JournalFull.field-0-is)).0))

pub returns-in-Ok-printed-clause-flushed : goal.returns-in-Ok-printed-clause-flushed
returns-in-Ok-printed-clause-flushed g c before found added held stands =
    let told = g.T.Site.tells in
    let old = g.T.Site.sight c.args.site.now in
    let mid = g.T.Site.sight c.append_group.new.site in
    let new = g.T.Site.sight c.put-printed.new.self in
    flushed_all told before found added held c.args.self.now old mid stands new
    (λ is. group_appends told true before found added held c.args.self.now old mid stands is (c.in-Ok.ensures.stops is))
    c.in-Ok.ensures.silent c.size-size.ensures.told c.in-Ok-printed.ensures.disk c.in-Ok.ensures.goes c.in-Ok-printed.ensures.goes
    (record { state = c.args.self.now.state; journal = c.append_group.new.self; group = c.clear.new.self; replies = c.new.result; alloc = c.args.self.now.alloc })
    (λ is. subst (λ p. Prints true p mid new) c.bytes.ensures (c.in-Ok-printed.ensures.text is)) refl c.in-Ok.ensures.moved c.clear.ensures c.new.ensures

pub returns-in-Err-clause-flushed : goal.returns-in-Err-clause-flushed
returns-in-Err-clause-flushed g c before found added held stands =
    let told = g.T.Site.tells in
    let old = g.T.Site.sight c.args.site.now in
    let mid = g.T.Site.sight c.append_group.new.site in
    let new = g.T.Site.sight c.put-printed.new.self in
    subst (λ (j : Reached). PrintsInPart told before found (added ++ held) j.tail j.edition old new) (sym c.in-Ok.ensures.moved)
    (flush_mumbled told before found added held c.args.self.now old mid stands new
    (λ is. group_appends told true before found added held c.args.self.now old mid stands is (c.in-Ok.ensures.stops is))
    c.in-Ok.ensures.silent c.size-size.ensures.told c.in-Err.ensures.disk c.in-Ok.ensures.goes c.in-Err.ensures.goes
    (λ is. subst (λ p. Prints false p mid new) c.bytes.ensures (c.in-Err.ensures.text is)) c.in-Err.ensures.failed)
