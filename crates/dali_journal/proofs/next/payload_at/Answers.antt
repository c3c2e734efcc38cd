use Rattle.std.proofs.Common.{◌≡◌, ◌∙◌, ◌+◌, ◌≤◌, length, slice_range, sym, ap, subst, arith, rules}
use Rattle.dali_outside.proofs.Undo.{range_length}
use Rattle.dali_journal.specs.JournalAt.{HeadsPayload}
use Rattle.dali_journal.proofs.RecordLemmas.{found, not_too_long}
use Rattle.dali_journal.proofs.next.payload_at.Goals as goal

pub returns-in_default-clause-too_long : goal.returns-in_default-clause-too_long
returns-in_default-clause-too_long g c = λ tells long.
    let heads = c.in_ok-head_at.ensures.payload tells c.in-Payload.len c.in-Payload.is in
    let within = c.in_ok-head_at.ensures.within c.in-Payload.len c.in-Payload.is in
    ((λ works. absurd (cc works)), (λ memory. absurd (not_too_long _ c.args.tail c.args.left c.in-Payload.len _ c.requires.at_site within.0 heads long)))

pub returns-in_ok-fill-in-Payload-clause-found : goal.returns-in_ok-fill-in-Payload-clause-found
returns-in_ok-fill-in-Payload-clause-found g c = λ tells.
    let bytes = (g.T.Site.sight c.args.site.now).bytes in
    let n = c.in-Payload.len in
    let at = c.args.tail in
    let heads = c.in_ok-head_at.ensures.payload tells n c.in-Payload.is in
    let within = c.in_ok-head_at.ensures.within n c.in-Payload.is in
    let all = c.size-size.ensures.told tells in
    let fits : at + 5 + n ≤ length bytes = omega (arith, c.requires.at_site, all.bytes, within.0) in
    let read : c.from_vec.result ≡ c.fill.new.into.items = search rules in
    let room : length c.in-Ok.payload.items ≡ n = search rules in
    let is : c.from_vec.result ≡ slice_range bytes (at + 5) (at + 5 + n) =
    read ∙ c.in_ok-fill-in-Payload.ensures.given tells
    ∙ ap (λ bs. slice_range bs (at + 5) (at + 5 + length c.in-Ok.payload.items)) (c.head_at.ensures.disk tells).bytes
    ∙ ap (λ k. slice_range bytes (at + 5) (at + 5 + k)) room in
    let long : length c.from_vec.result ≡ n = ap length is ∙ range_length bytes (at + 5) n fits in
    found bytes c.from_vec.result at (omega (arith, fits)) (omega (arith, long, within.1)) (subst (λ k. HeadsPayload k at bytes) (sym long) heads)
    (is ∙ ap (λ k. slice_range bytes (at + 5) (at + 5 + k)) (sym long))

pub returns-in_ok-fill-in-Payload-clause-too_long : goal.returns-in_ok-fill-in-Payload-clause-too_long
returns-in_ok-fill-in-Payload-clause-too_long g c = λ tells long.
    let heads = c.in_ok-head_at.ensures.payload tells c.in-Payload.len c.in-Payload.is in
    let within = c.in_ok-head_at.ensures.within c.in-Payload.len c.in-Payload.is in
    ((λ works. absurd (not_too_long _ c.args.tail c.args.left c.in-Payload.len _ c.requires.at_site within.0 heads long)), (λ memory. absurd (cc memory)))

pub returns-in_default-clause-shut : goal.returns-in_default-clause-shut
returns-in_default-clause-shut g c = λ tells shut. absurd ((c.in_ok-head_at.ensures.payload tells c.in-Payload.len c.in-Payload.is).is_open shut)

pub returns-in_ok-fill-in-Payload-clause-shut : goal.returns-in_ok-fill-in-Payload-clause-shut
returns-in_ok-fill-in-Payload-clause-shut g c = λ tells shut. absurd ((c.in_ok-head_at.ensures.payload tells c.in-Payload.len c.in-Payload.is).is_open shut)
