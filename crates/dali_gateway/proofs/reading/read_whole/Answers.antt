use Rattle.std.proofs.Common.{◌∙◌, map, sym, ap}
use Rattle.std.proofs.lemmas.Result.{err_from_is_err_and}
use Rattle.dali_gateway.specs.Gateway.{Gateway, whole_of}
use Rattle.dali_gateway.specs.Merge.{merge}
use Rattle.dali_gateway.proofs.Reached.{count_of, merge_left}
use Rattle.dali_gateway.proofs.Unmet.{whole_head, whole_count, whole_inboxes, whole_turns}
use Rattle.dali_gateway.proofs.reading.read_whole.Goals as goal

pub returns-in_err-rest-clause-form : goal.returns-in_err-rest-clause-form
returns-in_err-rest-clause-form c =
    let p = err_from_is_err_and c.from_residual.result c.from_residual.ensures.1 in
    rw (p.1, p.2) (whole_head c.args.bytes.now c.in_err-rest.field-0.0 c.in_err-rest.ensures.form)

pub returns-in_err-count-clause-form : goal.returns-in_err-count-clause-form
returns-in_err-count-clause-form c =
    let p = err_from_is_err_and c.from_residual-in_err-count.result c.from_residual-in_err-count.ensures.1 in
    rw (p.1, p.2) (whole_count c.args.bytes.now c.in_ok-rest.rest.now c.in_err-count.field-0.0 c.in_ok-rest.ensures.ok c.in_err-count.ensures.form)

pub returns-in_err-inboxes-clause-form : goal.returns-in_err-inboxes-clause-form
returns-in_err-inboxes-clause-form c =
    let p = err_from_is_err_and c.from_residual-in_err-inboxes.result c.from_residual-in_err-inboxes.ensures.1 in
    rw (p.1, p.2) (whole_inboxes c.in_ok-count.count c.args.bytes.now c.in_ok-rest.rest.now c.in_ok-count.rest.now c.in_err-inboxes.field-0.0 c.in_ok-count.ensures.least c.in_ok-count.ensures.most
    c.in_ok-rest.ensures.ok c.in_ok-count.ensures.line (c.in_err-inboxes.ensures.form c.in_ok-count.count c.in_ok-count.ensures.least))

pub returns-in_err-turns-clause-form : goal.returns-in_err-turns-clause-form
returns-in_err-turns-clause-form c =
    let p = err_from_is_err_and c.from_residual-in_err-turns.result c.from_residual-in_err-turns.ensures.1 in
    rw (p.1, p.2) (whole_turns c.in_ok-count.count c.args.bytes.now c.in_ok-rest.rest.now c.in_ok-count.rest.now (map whole_of c.in_ok-inboxes.inboxes.items) c.in_ok-inboxes.rest.now c.in_err-turns.field-0.0
    c.in_ok-count.ensures.least c.in_ok-count.ensures.most c.in_ok-rest.ensures.ok c.in_ok-count.ensures.line (count_of c.in_ok-inboxes.inboxes.items c.in_ok-count.count c.in_ok-inboxes.ensures.count)
    c.in_ok-inboxes.ensures.each c.in_ok-inboxes.ensures.text c.in_err-turns.ensures.form)

pub returns-clause-merge : goal.returns-clause-merge
returns-clause-merge c =
    ap (λ (g : Gateway). g.left) c.new.ensures ∙ merge_left c.in_ok-inboxes.inboxes.items c.in_ok-turns.turns c.in_ok-inboxes.ensures.fresh
    ∙ sym (ap (λ (g : Gateway). merge g.inboxes g.turns) c.new.ensures)
