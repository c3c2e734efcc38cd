use Rattle.std.proofs.Common.{◌≡◌, ◌∙◌, ℕ, List, length, sym, ap, subst, arith}
use Rattle.std.specs.Prelude.{is_ok}
use Rattle.dali_journal.specs.JournalAt.{Reached, IsTooLong}
use Rattle.dali_recover.specs.Spells.{records_of}
use Rattle.dali_recover.specs.Damaged.{ReadsTo}
use Rattle.dali_recover.specs.Taking.{GoesOnWith, Denies, no_at}
use Rattle.dali_recover.specs.declared.refusal.RecoverNo.TheVariants as errors
use Rattle.dali_recover.proofs.Reading.{few, read_more, reads_more, denied}
use Rattle.dali_recover.proofs.recovering.take_next.Goals as goal

pub take_payload-requires-clause-few : goal.take_payload-requires-clause-few
take_payload-requires-clause-few g c = few (g.T.Site.sight c.args.site.now).size c.args.found.now (omega (arith, c.size-size.ensures.size, c.size-size.type_inv)) c.requires.read

pub returns-in-Ok-clause-read : goal.returns-in-Ok-clause-read
returns-in-Ok-clause-read g c more =
    let on : GoesOnWith c.args.found.now.journal.edition c.in-Some.payload c.args.found.now.entries c.take_payload.new.entries =
    subst (λ n. GoesOnWith n c.in-Some.payload c.args.found.now.entries c.take_payload.new.entries) c.edition-edition.ensures.value
    (subst (λ (bs : List ℕ). GoesOnWith c.edition-edition.result bs c.args.found.now.entries c.take_payload.new.entries) c.bytes.ensures c.in-Ok.ensures.taken) in
    read_more (g.T.Site.sight c.args.site.now).size c.args.found.now (record { state = c.take_payload.new.state; entries = c.take_payload.new.entries; journal = c.next_record.new.journal })
    c.in-Some.payload c.requires.read on c.in-Ok.ensures.state c.in-Ok.ensures.counted c.next_record.ensures.edition
    (ap (λ (j : Reached). j.tail) (rw c.in-Some.is at c.in_ok-next_record.ensures.moves)) c.next_record.ensures.size

pub returns-in-Ok-clause-reads : goal.returns-in-Ok-clause-reads
returns-in-Ok-clause-reads g c told more =
    let on : GoesOnWith c.args.found.now.journal.edition c.in-Some.payload c.args.found.now.entries c.take_payload.new.entries =
    subst (λ n. GoesOnWith n c.in-Some.payload c.args.found.now.entries c.take_payload.new.entries) c.edition-edition.ensures.value
    (subst (λ (bs : List ℕ). GoesOnWith c.edition-edition.result bs c.args.found.now.entries c.take_payload.new.entries) c.bytes.ensures c.in-Ok.ensures.taken) in
    let bytes = (g.T.Site.sight c.args.site.now).bytes in
    let tail = c.args.found.now.journal.tail in
    let reads = c.requires.reads told in
    let long : length bytes ≡ (g.T.Site.sight c.args.site.now).size = (c.size-size.ensures.told told).bytes in
    let fits : IsTooLong (length bytes) tail bytes → ⊥ = (λ is. c.next_record.ensures.too_long told (subst (λ n. IsTooLong n tail bytes) long is) (ap (λ r. is_ok r) c.in_ok-next_record.was)) in
    subst (λ n. ReadsTo c.next_record.new.journal.tail n c.take_payload.new.entries bytes) (sym c.next_record.ensures.edition)
    (reads_more tail c.next_record.new.journal.tail c.args.found.now.journal.edition c.in-Some.payload bytes c.args.found.now.entries c.take_payload.new.entries reads on
    (rw c.in-Some.is at (c.in_ok-next_record.ensures.more told c.args.found.now.journal.edition (records_of c.args.found.now.entries) reads.stands))
    (rw c.in-Some.is at (c.in_ok-next_record.ensures.found told)) fits)

pub returns-clause-damaged : goal.returns-clause-damaged
returns-clause-damaged g c told place why is =
    let bytes = (g.T.Site.sight c.args.site.now).bytes in
    let tail = c.args.found.now.journal.tail in
    let long : length bytes ≡ (g.T.Site.sight c.args.site.now).size = (c.size-size.ensures.told told).bytes in
    let fits : IsTooLong (length bytes) tail bytes → ⊥ = (λ is. c.next_record.ensures.too_long told (subst (λ n. IsTooLong n tail bytes) long is) (ap (λ r. is_ok r) c.in_ok-next_record.was)) in
    let denies : Denies c.in-Err.denial c.args.found.now.journal.edition c.args.found.now.entries c.in-Some.payload =
    subst (λ n. Denies c.in-Err.denial n c.args.found.now.entries c.in-Some.payload) c.edition-edition.ensures.value
    (subst (λ (bs : List ℕ). Denies c.in-Err.denial c.edition-edition.result c.args.found.now.entries bs) c.bytes.ensures c.in-Err.ensures.denied) in
    let no : c.no_at.result ≡ errors.Damaged place why = cc is in
    denied tail c.next_record.new.journal.tail c.args.found.now.journal.edition place why c.in-Some.payload bytes c.args.found.now.entries c.in-Err.denial (c.requires.reads told)
    (rw c.in-Some.is at (c.in_ok-next_record.ensures.found told)) fits denies
    (ap (λ k. no_at k c.in-Err.denial) (sym c.tail-place.ensures) ∙ sym c.no_at.ensures ∙ no)
