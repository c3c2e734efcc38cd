use Rattle.std.proofs.Common.{◌≡◌, ◌∙◌, ℕ, Option, Some, None, List, [], Err, sym, ap}
use Rattle.std.proofs.lemmas.Result.{err_from_is_err_and}
use Rattle.dali_problem.specs.Clearing.{Clearing}
use Rattle.dali_cert_text.specs.declared.block.BlockNo.{BlockNo}
use Rattle.dali_cert_text.specs.declared.block.BlockNo.TheVariants.{Form}
use Rattle.dali_cert_text.specs.declared.refused.Refused.{Refused}
use Rattle.dali_cert_text.specs.Stating.{no_lines}
use Rattle.dali_cert_text.specs.Stages.{Stated, Parted}
use Rattle.dali_cert_text.proofs.Going.{goes_row, stops_lack, stops_row}
use Rattle.dali_cert_text.proofs.Steps.{stated_open, state_leads, state_none}
use Rattle.dali_cert_text.proofs.reading.read_statement.Goals as goal

pub returns-in_err-row-clause-form : goal.returns-in_err-row-clause-form
returns-in_err-row-clause-form c = λ budget k told.
    let p = err_from_is_err_and c.from_residual.result c.from_residual.ensures.1 in
    let no : c.in_err-row.field-0.0 ≡ Form k = cc (p.1, p.2, told) in
    stops_lack (Stated c.args.wide budget no_lines) (Stated c.args.wide budget c.rows.statement) c.args.unread.now c.rows.unread k c.items-items.result c.lines-lines.result
    c.items-items.ensures.count c.lines-lines.ensures.count (c.rows.invariant budget) c.items-items.ensures.bounds (stated_open c.args.wide budget c.rows.statement)
    (c.in_err-row.ensures.form k (ap (λ (e : BlockNo). Err e) no))

pub rows-preserved : goal.rows-preserved
rows-preserved c = λ budget.
    goes_row (Stated c.args.wide budget no_lines) (Stated c.args.wide budget c.rows.statement) (Stated c.args.wide budget c.take.new.self)
    c.args.unread.now c.rows.unread c.next_row.new.unread c.in_ok-row.row c.items-items.result c.lines-lines.result
    c.items-items.ensures.count c.lines-lines.ensures.count (c.rows.invariant budget) c.in_ok-row.ensures.ok
    (state_leads c.args.wide budget c.rows.statement c.take.new.self None c.in_ok-row.row
    (c.in-Ok-None.ensures.ok ∙ ap (λ (o : Option (List ℕ)). Some (c.take.new.self, o)) c.in-Ok-None.field-0-is))

pub returns-in-Ok-Some-clause-ok : goal.returns-in-Ok-Some-clause-ok
returns-in-Ok-Some-clause-ok c = λ budget.
    goes_row (Stated c.args.wide budget no_lines) (Stated c.args.wide budget c.rows.statement)
    (Parted (record { wide = c.args.wide; budget = budget; problem = c.into_problem.result; places = c.in-Ok-Some.places }) [])
    c.args.unread.now c.rows.unread c.next_row.new.unread c.in_ok-row.row c.items-items.result c.lines-lines.result
    c.items-items.ensures.count c.lines-lines.ensures.count (c.rows.invariant budget) c.in_ok-row.ensures.ok
    (state_leads c.args.wide budget c.rows.statement c.into_problem.result (Some c.in-Ok-Some.places) c.in_ok-row.row
    (c.in-Ok-Some.ensures.ok ∙ ap (λ (o : Option (List ℕ)). Some (c.take.new.self, o)) c.in-Ok-Some.field-0-is
    ∙ ap (λ (p : Clearing). Some (p, Some c.in-Ok-Some.places)) (sym c.into_problem.ensures)))

pub returns-in-Err-Form-clause-form : goal.returns-in-Err-Form-clause-form
returns-in-Err-Form-clause-form c = λ budget k told.
    let number : k ≡ c.next_row.new.unread.taken = cc (c.form.ensures, told) in
    stops_row (Stated c.args.wide budget no_lines) (Stated c.args.wide budget c.rows.statement) c.args.unread.now c.rows.unread c.next_row.new.unread k
    c.in_ok-row.row c.items-items.result c.lines-lines.result c.items-items.ensures.count c.lines-lines.ensures.count (c.rows.invariant budget)
    c.items-items.ensures.bounds (stated_open c.args.wide budget c.rows.statement) c.in_ok-row.ensures.ok
    (state_none c.args.wide budget c.rows.statement c.in_ok-row.row (c.in-Err-Form.ensures.form (ap (λ (r : Refused). Err r) c.in-Err-Form.field-0-is))) number
