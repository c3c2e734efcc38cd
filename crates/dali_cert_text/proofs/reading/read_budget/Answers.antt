use Rattle.std.proofs.Common.{◌≡◌, Err, refl, ap}
use Rattle.std.proofs.lemmas.Result.{err_from_is_err_and}
use Rattle.dali_cert_text.specs.declared.block.BlockNo.{BlockNo}
use Rattle.dali_cert_text.specs.declared.block.BlockNo.TheVariants.{Form}
use Rattle.dali_cert_text.specs.Stating.{no_lines}
use Rattle.dali_cert_text.specs.Stages.{Opened, Stated}
use Rattle.dali_cert_text.proofs.Going.{goes_start, goes_row, stops_lack, stops_row}
use Rattle.dali_cert_text.proofs.Steps.{no_problem, opened_open, budget_leads, budget_none}
use Rattle.dali_cert_text.proofs.reading.read_budget.Goals as goal

pub returns-in_err-row-clause-form : goal.returns-in_err-row-clause-form
returns-in_err-row-clause-form c = λ wide k told.
    let p = err_from_is_err_and c.from_residual.result c.from_residual.ensures.1 in
    let no : c.in_err-row.field-0.0 ≡ Form k = cc (p.1, p.2, told) in
    stops_lack (Opened wide) (Opened wide) c.args.unread.now c.args.unread.now k 0 0 refl refl (goes_start (Opened wide) c.args.unread.now) no_problem (opened_open wide)
    (c.in_err-row.ensures.form k (ap (λ (e : BlockNo). Err e) no))

pub returns-in-Some-clause-ok : goal.returns-in-Some-clause-ok
returns-in-Some-clause-ok c = λ wide.
    goes_row (Opened wide) (Opened wide) (Stated wide c.in-Some.budget no_lines) c.args.unread.now c.args.unread.now c.next_row.new.unread c.in_ok-row.row 0 0 refl refl
    (goes_start (Opened wide) c.args.unread.now) c.in_ok-row.ensures.ok (budget_leads wide c.in_ok-row.row c.in-Some.budget c.in-Some.ensures)

pub returns-in-None-clause-form : goal.returns-in-None-clause-form
returns-in-None-clause-form c = λ wide k told.
    let number : k ≡ c.next_row.new.unread.taken = cc (c.form.ensures, told) in
    stops_row (Opened wide) (Opened wide) c.args.unread.now c.args.unread.now c.next_row.new.unread k c.in_ok-row.row 0 0 refl refl
    (goes_start (Opened wide) c.args.unread.now) no_problem (opened_open wide) c.in_ok-row.ensures.ok (budget_none wide c.in_ok-row.row c.in-None.ensures) number
