use Rattle.std.proofs.Common.{◌≡◌, ◌∙◌, ◌+◌, ◌++◌, true, false, refl, sym, ap, subst, arith, length}
use Rattle.dali_journal.specs.Frames.{payload_of}
use Rattle.std.specs.Prelude.{Err}
use Rattle.dali_journal.specs.JournalAt.{Reached}
use Rattle.dali_journal.specs.declared.refusal.AppendNo.{AppendNo}
use Rattle.dali_outside.specs.Outside.{Sight, Prints}
use Rattle.dali_register.specs.Taking.{Breaks, FillsUp, Mumbles}
use Rattle.dali_register.proofs.Cycling.{cycle_appends, cycle_full, cycle_broke, cycle_mumbled, cycle_taken, frame_length}
use Rattle.dali_register.proofs.register.Register.add_cycle.Goals as goal

pub returns-in-Err-DiskFault-clause-added : goal.returns-in-Err-DiskFault-clause-added
returns-in-Err-DiskFault-clause-added g c before found added line stands spends of =
    let told = g.T.Site.tells in
    let old = g.T.Site.sight c.args.site.now in
    let new = g.T.Site.sight c.append.new.site in
    subst (λ e. Breaks told before found added line e old new) (sym (ap (λ (j : Reached). j.edition) (c.in-Err-DiskFault.ensures.given_up (ap (λ (e : AppendNo). Err e) c.in-Err-DiskFault.field-0-is))))
    (cycle_broke told before found added line c.args.self.now c.args.made old new stands spends of (length c.args.sealed.now)
    (λ is. cycle_appends told before found added line c.args.self.now c.args.made old new stands spends of false c.args.sealed.now c.requires.payload is (c.in-Err-DiskFault.ensures.stops is))
    c.in-Err-DiskFault.ensures.goes (c.in-Err-DiskFault.ensures.fault (ap (λ (e : AppendNo). Err e) c.in-Err-DiskFault.field-0-is)))

pub returns-in-Err-JournalFull-clause-added : goal.returns-in-Err-JournalFull-clause-added
returns-in-Err-JournalFull-clause-added g c before found added line stands spends of =
    let told = g.T.Site.tells in
    let old = g.T.Site.sight c.args.site.now in
    let r = c.args.self.now in
    let full = (c.in-Err-JournalFull.ensures.full c.in-Err-JournalFull.need c.in-Err-JournalFull.left).0 (ap (λ (e : AppendNo). Err e) c.in-Err-JournalFull.field-0-is) in
    let same = c.in-Err-JournalFull.ensures.unwritten full.0 in
    let long : length c.args.sealed.now ≡ length c.args.made.record + 5 = ap length c.requires.frame ∙ frame_length c.args.made.record in
    subst (λ (s : Sight). FillsUp told before found added line c.in-Err-JournalFull.need c.in-Err-JournalFull.left
    (record { state = r.state; journal = c.append.new.self; group = r.group; replies = r.replies; alloc = r.alloc }) s) (sym same.1)
    (subst (λ (j : Reached). FillsUp told before found added line c.in-Err-JournalFull.need c.in-Err-JournalFull.left
    (record { state = r.state; journal = j; group = r.group; replies = r.replies; alloc = r.alloc }) old) (sym same.0)
    (cycle_full told before found added line r c.args.made old old stands spends of c.in-Err-JournalFull.need c.in-Err-JournalFull.left (length c.args.sealed.now) long full.1 full.2 full.0))

pub returns-in-Err-JournalFull-clause-edition : goal.returns-in-Err-JournalFull-clause-edition
returns-in-Err-JournalFull-clause-edition g c =
    ap (λ (j : Reached). j.edition) (c.in-Err-JournalFull.ensures.unwritten ((c.in-Err-JournalFull.ensures.full c.in-Err-JournalFull.need c.in-Err-JournalFull.left).0 (ap (λ (e : AppendNo). Err e) c.in-Err-JournalFull.field-0-is)).0).0

pub returns-in-Ok-put-clause-added : goal.returns-in-Ok-put-clause-added
returns-in-Ok-put-clause-added g c before found added line stands spends of =
    let told = g.T.Site.tells in
    let old = g.T.Site.sight c.args.site.now in
    let mid = g.T.Site.sight c.append.new.site in
    let new = g.T.Site.sight c.put.new.self in
    let r = c.args.self.now in
    cycle_taken told before found added line r c.args.made old mid stands spends of (length c.args.sealed.now) new
    (λ is. cycle_appends told before found added line r c.args.made old mid stands spends of true c.args.sealed.now c.requires.payload is (c.in-Ok.ensures.stops is))
    c.in-Ok.ensures.silent c.size-size.ensures.told c.in-Ok-put.ensures.disk c.in-Ok.ensures.goes c.in-Ok-put.ensures.goes (omega (arith, c.in-Ok.ensures.syncs, c.in-Ok-put.ensures.syncs))
    (record { state = c.commit-outcome.new.self; journal = c.append.new.self; group = r.group; replies = r.replies; alloc = r.alloc })
    (λ is. subst (λ p. Prints true p mid new) c.bytes.ensures (c.in-Ok-put.ensures.text is)) c.in-Ok.ensures.fits
    (c.commit-outcome.ensures.step of.entry.edition of.entry.line of.entry.choice of.is_made.ready_is) c.in-Ok.ensures.moved refl refl

pub returns-clause-added : goal.returns-clause-added
returns-clause-added g c before found added line stands spends of =
    let told = g.T.Site.tells in
    let old = g.T.Site.sight c.args.site.now in
    let mid = g.T.Site.sight c.append.new.site in
    let new = g.T.Site.sight c.put.new.self in
    subst (λ (j : Reached). Mumbles told before found added line j.tail j.edition old new) (sym c.in-Ok.ensures.moved)
    (cycle_mumbled told before found added line c.args.self.now c.args.made old mid stands spends of (length c.args.sealed.now) new
    (λ is. cycle_appends told before found added line c.args.self.now c.args.made old mid stands spends of true c.args.sealed.now c.requires.payload is (c.in-Ok.ensures.stops is))
    c.in-Ok.ensures.silent c.size-size.ensures.told c.in-Err.ensures.disk c.in-Ok.ensures.goes c.in-Err.ensures.goes (omega (arith, c.in-Ok.ensures.syncs, c.in-Err.ensures.syncs))
    (λ is. subst (λ p. Prints false p mid new) c.bytes.ensures (c.in-Err.ensures.text is)) c.in-Err.ensures.failed)
