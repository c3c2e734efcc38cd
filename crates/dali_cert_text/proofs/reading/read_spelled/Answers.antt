use Rattle.std.proofs.Common.{◌≡◌, ◌∙◌, ℕ, ◌+◌, ◌<◌, Err, sym, ap, subst, length, arith}
use Rattle.std.proofs.lemmas.Bool.Decides.{nat_tests}
use Rattle.std.proofs.lemmas.Result.{err_from_is_err_and}
use Rattle.dali_cert_text.specs.declared.block.BlockNo.{BlockNo}
use Rattle.dali_cert_text.specs.declared.block.BlockNo.TheVariants.{Form}
use Rattle.dali_cert_text.specs.Form.{IsFormLine}
use Rattle.dali_cert_text.specs.Stages.{Start, whole, Unread, Goes, Stops}
use Rattle.dali_cert_text.proofs.Forming.{form_line, more_stops, needless_ends, block_ends, text_empty}
use Rattle.dali_cert_text.proofs.reading.read_spelled.Goals as goal

pub returns-in_err-draft-clause-form : goal.returns-in_err-draft-clause-form
returns-in_err-draft-clause-form c = λ k told.
    let q = err_from_is_err_and c.from_residual.result c.from_residual.ensures.1 in
    let no : c.in_err-draft.field-0.0 ≡ Form k = cc (q.1, q.2, told) in
    form_line c.args.bytes.now k (subst (λ (u : Unread). Stops Start u k) c.of-unread.ensures (c.in_err-draft.ensures.form k (ap (λ (e : BlockNo). Err e) no)))

pub returns-then-not-is_empty-clause-form : goal.returns-then-not-is_empty-clause-form
returns-then-not-is_empty-clause-form c = λ k told.
    let number : k ≡ c.read_draft.new.unread.taken + 1 = cc (c.form_next.ensures, told) in
    let some : 0 < length c.read_draft.new.unread.text = grind (arith, nat_tests, c.is_empty.ensures, c.if-not-is_empty.true) in
    more_stops c.args.bytes.now c.in_ok-draft.draft.0 c.in_ok-draft.draft.1 c.read_draft.new.unread k
    (subst (λ (u : Unread). Goes Start u (whole c.in_ok-draft.draft.0 c.in_ok-draft.draft.1) c.read_draft.new.unread) c.of-unread.ensures c.in_ok-draft.ensures.ok.0)
    c.in_ok-draft.ensures.ok.1 some number

pub returns-then-is_needless-clause-form : goal.returns-then-is_needless-clause-form
returns-then-is_needless-clause-form c = λ k told.
    let none : length c.read_draft.new.unread.text ≡ 0 = grind (arith, nat_tests, c.is_empty.ensures, c.if-not-is_empty.false) in
    let number : k ≡ c.read_draft.new.unread.taken = cc (c.form.ensures, told) in
    subst (λ (n : ℕ). IsFormLine c.args.bytes.now n) (sym number)
    (needless_ends c.args.bytes.now c.in_ok-draft.draft.0 c.in_ok-draft.draft.1 c.read_draft.new.unread
    (subst (λ (u : Unread). Goes Start u (whole c.in_ok-draft.draft.0 c.in_ok-draft.draft.1) c.read_draft.new.unread) c.of-unread.ensures c.in_ok-draft.ensures.ok.0)
    c.in_ok-draft.ensures.ok.1 (text_empty c.read_draft.new.unread.text none)
    (sym c.is_needless.ensures ∙ c.if-is_needless.true))

pub returns-clause-found : goal.returns-clause-found
returns-clause-found c =
    let none : length c.read_draft.new.unread.text ≡ 0 = grind (arith, nat_tests, c.is_empty.ensures, c.if-not-is_empty.false) in
    block_ends c.args.bytes.now c.in_ok-draft.draft.0 c.in_ok-draft.draft.1 c.read_draft.new.unread
    (subst (λ (u : Unread). Goes Start u (whole c.in_ok-draft.draft.0 c.in_ok-draft.draft.1) c.read_draft.new.unread) c.of-unread.ensures c.in_ok-draft.ensures.ok.0)
    c.in_ok-draft.ensures.ok.1 (text_empty c.read_draft.new.unread.text none)
    (sym c.is_needless.ensures ∙ c.if-is_needless.false)
