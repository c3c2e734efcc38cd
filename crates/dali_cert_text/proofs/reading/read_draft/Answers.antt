use Rattle.std.proofs.Common.{◌≡◌, [], refl, Err, ap}
use Rattle.std.proofs.lemmas.Result.{err_from_is_err_and}
use Rattle.dali_cert_text.specs.declared.block.BlockNo.{BlockNo}
use Rattle.dali_cert_text.specs.declared.block.BlockNo.TheVariants.{Form}
use Rattle.dali_cert_text.specs.Stating.{no_lines}
use Rattle.dali_cert_text.specs.Stages.{Setting, Start, Opened, Stated, Parted, Whole}
use Rattle.dali_cert_text.proofs.Going.{goes_then, stops_then}
use Rattle.dali_cert_text.proofs.reading.read_draft.Goals as goal

pub returns-in_err-wide-clause-form : goal.returns-in_err-wide-clause-form
returns-in_err-wide-clause-form c = λ k told.
    let q = err_from_is_err_and c.from_residual.result c.from_residual.ensures.1 in
    let no : c.in_err-wide.field-0.0 ≡ Form k = cc (q.1, q.2, told) in
    c.in_err-wide.ensures.form k (ap (λ (e : BlockNo). Err e) no)

pub returns-in_err-budget-clause-form : goal.returns-in_err-budget-clause-form
returns-in_err-budget-clause-form c = λ k told.
    let q = err_from_is_err_and c.from_residual-in_err-budget.result c.from_residual-in_err-budget.ensures.1 in
    let no : c.in_err-budget.field-0.0 ≡ Form k = cc (q.1, q.2, told) in
    stops_then Start (Opened c.in_ok-wide.wide) c.args.unread.now c.read_edition.new.unread k c.in_ok-wide.ensures.ok
    (c.in_err-budget.ensures.form c.in_ok-wide.wide k (ap (λ (e : BlockNo). Err e) no))

pub returns-in_err-stated-clause-form : goal.returns-in_err-stated-clause-form
returns-in_err-stated-clause-form c = λ k told.
    let q = err_from_is_err_and c.from_residual-in_err-stated.result c.from_residual-in_err-stated.ensures.1 in
    let no : c.in_err-stated.field-0.0 ≡ Form k = cc (q.1, q.2, told) in
    let two = goes_then Start (Opened c.in_ok-wide.wide) (Stated c.in_ok-wide.wide c.in_ok-budget.budget no_lines)
    c.args.unread.now c.read_edition.new.unread c.read_budget.new.unread c.in_ok-wide.ensures.ok (c.in_ok-budget.ensures.ok c.in_ok-wide.wide) in
    stops_then Start (Stated c.in_ok-wide.wide c.in_ok-budget.budget no_lines) c.args.unread.now c.read_budget.new.unread k two
    (c.in_err-stated.ensures.form c.in_ok-budget.budget k (ap (λ (e : BlockNo). Err e) no))

pub returns-in_err-parts-clause-form : goal.returns-in_err-parts-clause-form
returns-in_err-parts-clause-form c = λ k told.
    let q = err_from_is_err_and c.from_residual-in_err-parts.result c.from_residual-in_err-parts.ensures.1 in
    let no : c.in_err-parts.field-0.0 ≡ Form k = cc (q.1, q.2, told) in
    let s : Setting = record { wide = c.in_ok-wide.wide; budget = c.in_ok-budget.budget; problem = c.in_ok-stated.stated.0; places = c.in_ok-stated.stated.1 } in
    let two = goes_then Start (Opened c.in_ok-wide.wide) (Stated c.in_ok-wide.wide c.in_ok-budget.budget no_lines)
    c.args.unread.now c.read_edition.new.unread c.read_budget.new.unread c.in_ok-wide.ensures.ok (c.in_ok-budget.ensures.ok c.in_ok-wide.wide) in
    let three = goes_then Start (Stated c.in_ok-wide.wide c.in_ok-budget.budget no_lines) (Parted s [])
    c.args.unread.now c.read_budget.new.unread c.read_statement.new.unread two (c.in_ok-stated.ensures.ok c.in_ok-budget.budget) in
    stops_then Start (Parted s []) c.args.unread.now c.read_statement.new.unread k three (c.in_err-parts.ensures.form s k refl refl (ap (λ (e : BlockNo). Err e) no))

pub returns-clause-ok : goal.returns-clause-ok
returns-clause-ok c =
    let s : Setting = record { wide = c.in_ok-wide.wide; budget = c.in_ok-budget.budget; problem = c.in_ok-stated.stated.0; places = c.in_ok-stated.stated.1 } in
    let two = goes_then Start (Opened c.in_ok-wide.wide) (Stated c.in_ok-wide.wide c.in_ok-budget.budget no_lines)
    c.args.unread.now c.read_edition.new.unread c.read_budget.new.unread c.in_ok-wide.ensures.ok (c.in_ok-budget.ensures.ok c.in_ok-wide.wide) in
    let three = goes_then Start (Stated c.in_ok-wide.wide c.in_ok-budget.budget no_lines) (Parted s [])
    c.args.unread.now c.read_budget.new.unread c.read_statement.new.unread two (c.in_ok-stated.ensures.ok c.in_ok-budget.budget) in (
      goes_then Start (Parted s []) (Whole s c.in_ok-parts.parts) c.args.unread.now c.read_statement.new.unread c.read_parts.new.unread three
          (c.in_ok-parts.ensures.ok s refl refl),
      c.in_ok-parts.ensures.bounds,
    )
