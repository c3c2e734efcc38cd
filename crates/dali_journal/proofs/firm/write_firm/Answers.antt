use Rattle.std.proofs.Common.{length, arith}
use Rattle.dali_journal.proofs.OutsideLemmas.{wrote_outside, still_outside}
use Rattle.dali_journal.proofs.TornLemmas.{wrote_torn}
use Rattle.dali_outside.proofs.Moments.{leaves_still, leaves_sync, synced_all}
use Rattle.dali_journal.specs.Appends.{Torn}
use Rattle.dali_journal.proofs.firm.write_firm.Goals as goal

pub returns-in_err-write-clause-torn : goal.returns-in_err-write-clause-torn
returns-in_err-write-clause-torn g c = λ tells firm.
    let old = g.T.Site.sight c.args.site.now in
    let all = c.size-size.ensures.told tells in
    wrote_torn _ old (g.T.Site.sight c.write.new.self) c.args.at c.args.piece.now (omega (arith, c.requires, all.bytes)) firm all (c.write.ensures.disk tells) (c.write.ensures.text tells)

pub returns-in_err-sync-clause-torn : goal.returns-in_err-sync-clause-torn
returns-in_err-sync-clause-torn g c = λ tells firm.
    let old = g.T.Site.sight c.args.site.now in
    let mid = g.T.Site.sight c.write.new.self in
    let all = c.size-size.ensures.told tells in
    leaves_still (Torn old c.args.at (length c.args.piece.now)) old mid
    (wrote_torn _ old mid c.args.at c.args.piece.now (omega (arith, c.requires, all.bytes)) firm all (c.write.ensures.disk tells) (c.write.ensures.text tells))
    (g.T.Site.sight c.sync.new.self) (c.in_err-sync.ensures.disk tells) (c.in_err-sync.ensures.text tells)

pub returns-clause-told : goal.returns-clause-told
returns-clause-told g c = λ tells.
    synced_all (g.T.Site.sight c.write.new.self) (g.T.Site.sight c.sync.new.self) (c.size-size-2.ensures.told tells) (c.in_ok-sync.ensures.firm tells) c.sync.ensures.goes

pub returns-clause-torn : goal.returns-clause-torn
returns-clause-torn g c = λ tells firm.
    let old = g.T.Site.sight c.args.site.now in
    let mid = g.T.Site.sight c.write.new.self in
    let all = c.size-size.ensures.told tells in
    leaves_sync (Torn old c.args.at (length c.args.piece.now)) old mid
    (wrote_torn _ old mid c.args.at c.args.piece.now (omega (arith, c.requires, all.bytes)) firm all (c.write.ensures.disk tells) (c.write.ensures.text tells))
    (g.T.Site.sight c.sync.new.self) (c.in_ok-sync.ensures.firm tells)
    (c.size-size-2.ensures.told tells)

pub returns-in_err-write-clause-outside : goal.returns-in_err-write-clause-outside
returns-in_err-write-clause-outside g c = λ tells.
    wrote_outside _ c.args.at c.args.piece.now (g.T.Site.sight c.args.site.now) (g.T.Site.sight c.write.new.self)
    (omega (arith, c.requires, (c.size-size.ensures.told tells).bytes)) (c.write.ensures.disk tells)

pub returns-in_err-sync-clause-outside : goal.returns-in_err-sync-clause-outside
returns-in_err-sync-clause-outside g c = λ tells.
    still_outside c.args.at (length c.args.piece.now) (g.T.Site.sight c.args.site.now) (g.T.Site.sight c.write.new.self) (g.T.Site.sight c.sync.new.self)
    (c.in_err-sync.ensures.disk tells).bytes
    (wrote_outside _ c.args.at c.args.piece.now (g.T.Site.sight c.args.site.now) (g.T.Site.sight c.write.new.self)
    (omega (arith, c.requires, (c.size-size.ensures.told tells).bytes)) (c.write.ensures.disk tells))

pub returns-clause-outside : goal.returns-clause-outside
returns-clause-outside g c = λ tells.
    still_outside c.args.at (length c.args.piece.now) (g.T.Site.sight c.args.site.now) (g.T.Site.sight c.write.new.self) (g.T.Site.sight c.sync.new.self)
    (c.in_ok-sync.ensures.firm tells).bytes
    (wrote_outside _ c.args.at c.args.piece.now (g.T.Site.sight c.args.site.now) (g.T.Site.sight c.write.new.self)
    (omega (arith, c.requires, (c.size-size.ensures.told tells).bytes)) (c.write.ensures.disk tells))
