use Rattle.std.proofs.Common.{◌≡◌, ◌∙◌, Some, [], ◌∷◌, ◌++◌, Err, sym, ap, subst, arith}
use Rattle.std.proofs.lemmas.Result.{err_from_is_err_and}
use Rattle.dali_cert_text.specs.declared.block.BlockNo.{BlockNo}
use Rattle.dali_cert_text.specs.declared.block.BlockNo.TheVariants.{Form}
use Rattle.dali_cert_text.specs.declared.refused.Refused.{Refused}
use Rattle.dali_cert_text.specs.declared.growth.Growth.{Growth}
use Rattle.dali_cert_text.specs.declared.growth.Growth.TheVariants.{Open, Grown}
use Rattle.dali_cert_text.specs.Growth.{grow}
use Rattle.dali_cert_text.specs.Refusal.{Gives}
use Rattle.dali_cert_text.specs.Stages.{Growing, Parted}
use Rattle.dali_cert_text.proofs.Going.{goes_row, stops_lack, stops_row}
use Rattle.dali_cert_text.proofs.Steps.{growing_open, grow_leads, grow_none}
use Rattle.dali_cert_text.proofs.reading.read_tree.Goals as goal

pub returns-in_err-row-clause-form : goal.returns-in_err-row-clause-form
returns-in_err-row-clause-form c = λ s parts bound members k items lines limits told.
    let p = err_from_is_err_and c.from_residual.result c.from_residual.ensures.1 in
    let no : c.in_err-row.field-0.0 ≡ Form k = cc (p.1, p.2, told) in
    stops_lack (Growing s parts bound members [] []) (Growing s parts bound members c.rows.frames c.rows.fixes) c.args.unread.now c.rows.unread k c.args.items c.args.lines
    (sym items) (sym lines) (c.rows.invariant.led s parts bound members items lines) limits (growing_open s parts bound members c.rows.frames c.rows.fixes)
    (c.in_err-row.ensures.form k (ap (λ (e : BlockNo). Err e) no))

pub rows-preserved : goal.rows-preserved
rows-preserved c = record {
  led = λ s parts bound members items lines.
      goes_row (Growing s parts bound members [] []) (Growing s parts bound members c.rows.frames c.rows.fixes) (Growing s parts bound members c.in-Ok-Open.above c.in-Ok-Open.taken)
      c.args.unread.now c.rows.unread c.next_row.new.unread c.in_ok-row.row c.args.items c.args.lines (sym items) (sym lines)
      (c.rows.invariant.led s parts bound members items lines) c.in_ok-row.ensures.ok
      (grow_leads s parts bound members c.rows.frames c.rows.fixes c.in_ok-row.row (Open c.in-Ok-Open.above c.in-Ok-Open.taken)
      (c.in-Ok-Open.ensures ∙ ap (λ (g : Growth). Some g) c.in-Ok-Open.field-0-is));
  less = omega (arith, c.in_ok-row.ensures.shorter, c.rows.invariant.less);
}

pub returns-in-Ok-Grown-clause-ok : goal.returns-in-Ok-Grown-clause-ok
returns-in-Ok-Grown-clause-ok c = λ s parts bound members items lines.
    goes_row (Growing s parts bound members [] []) (Growing s parts bound members c.rows.frames c.rows.fixes)
    (Parted s (parts ++ record { members = members; bound = bound; tree = c.in-Ok-Grown.tree } ∷ []))
    c.args.unread.now c.rows.unread c.next_row.new.unread c.in_ok-row.row c.args.items c.args.lines (sym items) (sym lines)
    (c.rows.invariant.led s parts bound members items lines) c.in_ok-row.ensures.ok
    (grow_leads s parts bound members c.rows.frames c.rows.fixes c.in_ok-row.row (Grown c.in-Ok-Grown.tree)
    (c.in-Ok-Grown.ensures ∙ ap (λ (g : Growth). Some g) c.in-Ok-Grown.field-0-is))

pub returns-in-Ok-Grown-clause-shorter : goal.returns-in-Ok-Grown-clause-shorter
returns-in-Ok-Grown-clause-shorter c = omega (arith, c.in_ok-row.ensures.shorter, c.rows.invariant.less)

pub returns-in-Err-Form-clause-form : goal.returns-in-Err-Form-clause-form
returns-in-Err-Form-clause-form c = λ s parts bound members k items lines limits told.
    let number : k ≡ c.next_row.new.unread.taken = cc (c.form.ensures, told) in
    stops_row (Growing s parts bound members [] []) (Growing s parts bound members c.rows.frames c.rows.fixes) c.args.unread.now c.rows.unread c.next_row.new.unread k
    c.in_ok-row.row c.args.items c.args.lines (sym items) (sym lines) (c.rows.invariant.led s parts bound members items lines)
    limits (growing_open s parts bound members c.rows.frames c.rows.fixes) c.in_ok-row.ensures.ok
    (grow_none s parts bound members c.rows.frames c.rows.fixes c.in_ok-row.row
    (subst (λ (r : Refused). Gives {A = Growth} (Err r) (grow c.rows.frames c.rows.fixes c.in_ok-row.row)) c.in-Err-Form.field-0-is c.in-Err-Form.ensures)) number
