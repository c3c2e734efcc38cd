use Rattle.std.proofs.Common.{◌≡◌, Err, refl, ap}
use Rattle.std.proofs.lemmas.Result.{err_from_is_err_and}
use Rattle.dali_cert_text.specs.declared.block.BlockNo.{BlockNo}
use Rattle.dali_cert_text.specs.declared.block.BlockNo.TheVariants.{Form}
use Rattle.dali_cert_text.specs.Stages.{Start, Opened}
use Rattle.dali_cert_text.proofs.Going.{goes_start, goes_row, stops_lack, stops_row}
use Rattle.dali_cert_text.proofs.Steps.{no_problem, start_open, edition_leads, edition_none}
use Rattle.dali_cert_text.proofs.reading.read_edition.Goals as goal

pub returns-in_err-row-clause-form : goal.returns-in_err-row-clause-form
returns-in_err-row-clause-form c = λ k told.
    let p = err_from_is_err_and c.from_residual.result c.from_residual.ensures.1 in
    let no : c.in_err-row.field-0.0 ≡ Form k = cc (p.1, p.2, told) in
    stops_lack Start Start c.args.unread.now c.args.unread.now k 0 0 refl refl (goes_start Start c.args.unread.now) no_problem start_open
    (c.in_err-row.ensures.form k (ap (λ (e : BlockNo). Err e) no))

pub returns-in-Some-clause-ok : goal.returns-in-Some-clause-ok
returns-in-Some-clause-ok c =
    goes_row Start Start (Opened c.in-Some.wide) c.args.unread.now c.args.unread.now c.next_row.new.unread c.in_ok-row.row 0 0 refl refl
    (goes_start Start c.args.unread.now) c.in_ok-row.ensures.ok (edition_leads c.in_ok-row.row c.in-Some.wide c.in-Some.ensures)

pub returns-in-None-clause-form : goal.returns-in-None-clause-form
returns-in-None-clause-form c = λ k told.
    let number : k ≡ c.next_row.new.unread.taken = cc (c.form.ensures, told) in
    stops_row Start Start c.args.unread.now c.args.unread.now c.next_row.new.unread k c.in_ok-row.row 0 0 refl refl
    (goes_start Start c.args.unread.now) no_problem start_open c.in_ok-row.ensures.ok (edition_none c.in_ok-row.row c.in-None.ensures) number
