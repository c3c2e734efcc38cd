use Rattle.std.proofs.Common.{◌≡◌, ◌∙◌, ◌+◌, ◌<◌, ℕ, Option, Some, None, List, [], ◌∷◌, ◌++◌, length, Err, sym, ap, subst, arith}
use Rattle.std.specs.Prelude.{slice_index}
use Rattle.std.proofs.lemmas.Result.{err_from_is_err_and}
use Rattle.dali_problem.specs.Clearing.{Clearing}
use Rattle.dali_problem.specs.Limits.{IsProblem}
use Rattle.dali_tree.specs.declared.choice.Part.{Part}
use Rattle.dali_cert_text.specs.declared.block.BlockNo.{BlockNo}
use Rattle.dali_cert_text.specs.declared.block.BlockNo.TheVariants.{Form}
use Rattle.dali_cert_text.specs.Stating.{least_first}
use Rattle.dali_cert_text.specs.Stages.{Growing, Parted, Whole, Goes}
use Rattle.dali_cert_text.proofs.Going.{goes_then, goes_row, stops_then, stops_lack, stops_row}
use Rattle.dali_cert_text.proofs.Steps.{parted_open, part_leads, part_none, part_first, part_goes, least_push}
use Rattle.dali_cert_text.proofs.reading.read_parts.Goals as goal

pub returns-in_err-row-clause-form : goal.returns-in_err-row-clause-form
returns-in_err-row-clause-form c = λ s k w p told.
    let q = err_from_is_err_and c.from_residual.result c.from_residual.ensures.1 in
    let no : c.in_err-row.field-0.0 ≡ Form k = cc (q.1, q.2, told) in
    stops_lack (Parted s []) (Parted s c.rows.parts) c.args.unread.now c.rows.unread k c.items-items.result c.lines-lines.result
    (c.items-items.ensures.count ∙ ap (λ (x : Clearing). length x.items) (sym p)) (c.lines-lines.ensures.count ∙ ap (λ (x : Clearing). length x.lines) (sym p))
    (c.rows.invariant.led s w p) (subst IsProblem (sym p) c.items-items.ensures.bounds) (parted_open s c.rows.parts)
    (c.in_err-row.ensures.form k (ap (λ (e : BlockNo). Err e) no))

pub overflow_add-least : goal.overflow_add-least
overflow_add-least c =
    let first : slice_index c.in-Some-Some.members 0 < c.items-items.result =
    part_first c.args.wide c.rows.least c.items-items.result c.lines-lines.result c.in-Some-Some.bound c.in-Some-Some.members c.in_ok-row.row
    (ap (λ (x : Option (ℕ × List ℕ)). Some x) (sym c.in-Some-Some.field-0-is) ∙ c.in-Some-Some.ensures) c.in_ok-row.ensures.row in
    omega (arith, first, c.first_member-least.ensures, c.items-items.type_inv)

pub returns-in-Some-None-clause-ok : goal.returns-in-Some-None-clause-ok
returns-in-Some-None-clause-ok c = λ s w p.
    goes_row (Parted s []) (Parted s c.rows.parts) (Whole s c.rows.parts) c.args.unread.now c.rows.unread c.next_row.new.unread c.in_ok-row.row
    c.items-items.result c.lines-lines.result
    (c.items-items.ensures.count ∙ ap (λ (x : Clearing). length x.items) (sym p)) (c.lines-lines.ensures.count ∙ ap (λ (x : Clearing). length x.lines) (sym p))
    (c.rows.invariant.led s w p) c.in_ok-row.ensures.ok
    (part_leads s c.rows.parts c.args.wide c.rows.least c.in_ok-row.row None w c.rows.invariant.least
    (ap (λ (x : Option (ℕ × List ℕ)). Some x) (sym c.in-Some-None.field-0-is) ∙ c.in-Some-None.ensures))

pub rows-preserved : goal.rows-preserved
rows-preserved c =
    let part : Part = record { members = c.in-Some-Some.members; bound = c.in-Some-Some.bound; tree = c.in_ok-tree-in-Some-Some.tree } in
    let pushed : c.push.new.self ≡ c.rows.parts ++ part ∷ [] = c.in_ok-push-in-Some-Some.ensures.ok in
    record {
      led = λ s w p.
          let items : c.items-items.result ≡ length s.problem.items = c.items-items.ensures.count ∙ ap (λ (x : Clearing). length x.items) (sym p) in
          let lines : c.lines-lines.result ≡ length s.problem.lines = c.lines-lines.ensures.count ∙ ap (λ (x : Clearing). length x.lines) (sym p) in
          let one = part_goes s c.rows.parts c.args.wide c.rows.least c.in-Some-Some.bound c.in-Some-Some.members c.args.unread.now c.rows.unread c.next_row.new.unread
          c.in_ok-row.row c.items-items.result c.lines-lines.result c.in-Some-Some.field-0 w c.rows.invariant.least items lines (c.rows.invariant.led s w p)
          c.in_ok-row.ensures.ok c.in-Some-Some.ensures c.in-Some-Some.field-0-is in
          let two = c.in_ok-tree-in-Some-Some.ensures.ok s c.rows.parts c.in-Some-Some.bound c.in-Some-Some.members (sym items) (sym lines) in
          subst (λ (ps : List Part). Goes (Parted s []) c.args.unread.now (Parted s ps) c.read_tree.new.unread) (sym pushed)
          (goes_then (Parted s []) (Growing s c.rows.parts c.in-Some-Some.bound c.in-Some-Some.members [] []) (Parted s (c.rows.parts ++ part ∷ []))
          c.args.unread.now c.next_row.new.unread c.read_tree.new.unread one two);
      least = ap (λ (n : ℕ). n + 1) c.first_member-least.ensures ∙ sym (ap (least_first 0) pushed ∙ least_push 0 c.rows.parts part);
    }

pub returns-in-None-clause-form : goal.returns-in-None-clause-form
returns-in-None-clause-form c = λ s k w p told.
    let number : k ≡ c.next_row.new.unread.taken = cc (c.form.ensures, told) in
    stops_row (Parted s []) (Parted s c.rows.parts) c.args.unread.now c.rows.unread c.next_row.new.unread k c.in_ok-row.row c.items-items.result c.lines-lines.result
    (c.items-items.ensures.count ∙ ap (λ (x : Clearing). length x.items) (sym p)) (c.lines-lines.ensures.count ∙ ap (λ (x : Clearing). length x.lines) (sym p))
    (c.rows.invariant.led s w p) (subst IsProblem (sym p) c.items-items.ensures.bounds) (parted_open s c.rows.parts) c.in_ok-row.ensures.ok
    (part_none s c.rows.parts c.args.wide c.rows.least c.in_ok-row.row w c.rows.invariant.least c.in-None.ensures) number

pub returns-in_err-tree-in-Some-Some-clause-form : goal.returns-in_err-tree-in-Some-Some-clause-form
returns-in_err-tree-in-Some-Some-clause-form c = λ s k w p told.
    let q = err_from_is_err_and c.from_residual-in_err-tree-in-Some-Some.result c.from_residual-in_err-tree-in-Some-Some.ensures.1 in
    let no : c.in_err-tree-in-Some-Some.field-0.0 ≡ Form k = cc (q.1, q.2, told) in
    let items : c.items-items.result ≡ length s.problem.items = c.items-items.ensures.count ∙ ap (λ (x : Clearing). length x.items) (sym p) in
    let lines : c.lines-lines.result ≡ length s.problem.lines = c.lines-lines.ensures.count ∙ ap (λ (x : Clearing). length x.lines) (sym p) in
    let one = part_goes s c.rows.parts c.args.wide c.rows.least c.in-Some-Some.bound c.in-Some-Some.members c.args.unread.now c.rows.unread c.next_row.new.unread
    c.in_ok-row.row c.items-items.result c.lines-lines.result c.in-Some-Some.field-0 w c.rows.invariant.least items lines (c.rows.invariant.led s w p)
    c.in_ok-row.ensures.ok c.in-Some-Some.ensures c.in-Some-Some.field-0-is in
    stops_then (Parted s []) (Growing s c.rows.parts c.in-Some-Some.bound c.in-Some-Some.members [] []) c.args.unread.now c.next_row.new.unread k one
    (c.in_err-tree-in-Some-Some.ensures.form s c.rows.parts c.in-Some-Some.bound c.in-Some-Some.members k (sym items) (sym lines)
    (subst IsProblem (sym p) c.items-items.ensures.bounds) (ap (λ (e : BlockNo). Err e) no))
