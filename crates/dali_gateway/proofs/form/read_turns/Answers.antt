use Rattle.std.proofs.Common.{length, ap, arith}
use Rattle.std.proofs.lemmas.Bool.Decides.{nat_tests}
use Rattle.std.proofs.lemmas.Result.{err_from_is_err_and}
use Rattle.dali_gateway.specs.declared.refusal.Refused.TheVariants.{Form}
use Rattle.dali_gateway.proofs.Leaving.{leaves_end}
use Rattle.dali_gateway.proofs.Unmet.{turns_head, turns_count, turns_letters, turns_end, turns_over}
use Rattle.dali_gateway.proofs.form.read_turns.Goals as goal

pub returns-in_err-rest-clause-form : goal.returns-in_err-rest-clause-form
returns-in_err-rest-clause-form c =
    let p = err_from_is_err_and c.from_residual.result c.from_residual.ensures.1 in
    rw (p.1, p.2) (turns_head c.args.inboxes c.args.bytes.now c.in_err-rest.field-0.0 c.requires c.in_err-rest.ensures.form)

pub returns-in_err-count-clause-form : goal.returns-in_err-count-clause-form
returns-in_err-count-clause-form c =
    let p = err_from_is_err_and c.from_residual-in_err-count.result c.from_residual-in_err-count.ensures.1 in
    rw (p.1, p.2) (turns_count c.args.inboxes c.args.bytes.now c.in_ok-rest.rest.now c.in_err-count.field-0.0 c.requires c.in_ok-rest.ensures.ok c.in_err-count.ensures.form)

pub returns-in_err-turns-clause-form : goal.returns-in_err-turns-clause-form
returns-in_err-turns-clause-form c =
    let p = err_from_is_err_and c.from_residual-in_err-turns.result c.from_residual-in_err-turns.ensures.1 in
    rw (p.1, p.2) (turns_letters c.args.inboxes c.in_ok-count.count c.args.bytes.now c.in_ok-rest.rest.now c.in_ok-count.rest.now c.in_err-turns.field-0.0 c.in_ok-count.ensures.most
    c.in_ok-rest.ensures.ok c.in_ok-count.ensures.line c.in_err-turns.ensures.form)

pub returns-in_err-rest-2-clause-form : goal.returns-in_err-rest-2-clause-form
returns-in_err-rest-2-clause-form c =
    let p = err_from_is_err_and c.from_residual-in_err-rest-2.result c.from_residual-in_err-rest-2.ensures.1 in
    rw (p.1, p.2) (turns_end c.args.inboxes c.in_ok-count.count c.args.bytes.now c.in_ok-rest.rest.now c.in_ok-count.rest.now c.in_ok-turns.turns c.in_ok-turns.rest.now c.in_err-rest-2.field-0.0
    c.in_ok-count.ensures.most c.in_ok-rest.ensures.ok c.in_ok-count.ensures.line c.in_ok-turns.ensures.known c.in_ok-turns.ensures.count c.in_ok-turns.ensures.text c.in_err-rest-2.ensures.form)

pub returns-then-not-is_empty-clause-form : goal.returns-then-not-is_empty-clause-form
returns-then-not-is_empty-clause-form c =
    turns_over c.args.inboxes c.in_ok-count.count c.args.bytes.now c.in_ok-rest.rest.now c.in_ok-count.rest.now c.in_ok-turns.turns c.in_ok-turns.rest.now c.in_ok-rest-2.rest.now
    (Form (length c.in_ok-rest-2.rest.now)) c.in_ok-count.ensures.most c.in_ok-rest.ensures.ok c.in_ok-count.ensures.line c.in_ok-turns.ensures.known c.in_ok-turns.ensures.count
    c.in_ok-turns.ensures.text c.in_ok-rest-2.ensures.ok
    (leaves_end c.in_ok-rest-2.rest.now (λ none. absurd (grind (arith, nat_tests, c.is_empty.ensures, c.if-not-is_empty.true, ap length none))))
