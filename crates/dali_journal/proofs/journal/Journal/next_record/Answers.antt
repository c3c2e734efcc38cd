use Rattle.std.proofs.Common.{◌≡◌, ◌+◌, ◌<◌, length, slice_index, IfSome, IfNone, sym, ap, subst}
use Rattle.dali_journal.specs.JournalAt.{Finds}
use Rattle.dali_journal.proofs.RecordLemmas.{one_more, no_more}
use Rattle.dali_journal.proofs.journal.Journal.next_record.Goals as goal

pub returns-in-Some-clause-more : goal.returns-in-Some-clause-more
returns-in-Some-clause-more g c = λ tells edition list to.
    let bytes = (g.T.Site.sight c.args.site.now).bytes in
    let payload = c.in-Some.payload in
    let at = c.self.inside.tail in
    let finds : Finds payload bytes at (at + (length payload + 5)) =
    subst (λ o. IfSome o (λ p. Finds p bytes at (at + (length p + 5)))) c.in-Some.is (c.in_ok-payload.ensures.found tells) in
    let counted : Finds payload bytes at (at + (c.len.result + 5)) = subst (λ k. Finds payload bytes at (at + (k + 5))) (sym c.len.ensures) finds in
    one_more c.args.self.now.tail edition list bytes payload (at + (c.len.result + 5)) to
    (subst (λ t. Finds payload bytes t (at + (c.len.result + 5))) (ap (λ r. r.tail) c.self.view_is) counted)

pub returns-in-None-clause-end : goal.returns-in-None-clause-end
returns-in-None-clause-end g c = λ tells edition list to.
    let bytes = (g.T.Site.sight c.args.site.now).bytes in
    let shut : slice_index bytes c.self.inside.tail ≡ 0 = subst (λ o. IfNone o (slice_index bytes c.self.inside.tail ≡ 0)) c.in-None.is (c.in_ok-payload.ensures.closed tells) in
    let tail_is = ap (λ r. r.tail) c.self.view_is in
    no_more c.args.self.now.tail edition list bytes to
    (subst (λ t. t < length bytes) tail_is (c.payload_at.ensures.inside tells))
    (subst (λ t. slice_index bytes t ≡ 0) tail_is shut)
