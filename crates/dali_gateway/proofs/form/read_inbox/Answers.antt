use Rattle.std.proofs.lemmas.Result.{err_from_is_err_and}
use Rattle.dali_gateway.proofs.Unmet.{inbox_head, inbox_size, inbox_body, inbox_end}
use Rattle.dali_gateway.proofs.form.read_inbox.Goals as goal

pub returns-in_err-rest-clause-form : goal.returns-in_err-rest-clause-form
returns-in_err-rest-clause-form c = λ k n some.
    let p = err_from_is_err_and c.from_residual.result c.from_residual.ensures.1 in
    rw (p.1, p.2) (inbox_head k n c.args.bytes.now c.in_err-rest.field-0.0 some c.in_err-rest.ensures.form)

pub returns-in_err-size-clause-form : goal.returns-in_err-size-clause-form
returns-in_err-size-clause-form c = λ k n some.
    let p = err_from_is_err_and c.from_residual-in_err-size.result c.from_residual-in_err-size.ensures.1 in
    rw (p.1, p.2) (inbox_size k n c.args.bytes.now c.in_ok-rest.rest.now c.in_err-size.field-0.0 some c.in_ok-rest.ensures.ok c.in_err-size.ensures.form)

pub returns-in_err-inbox-clause-form : goal.returns-in_err-inbox-clause-form
returns-in_err-inbox-clause-form c = λ k n some.
    let p = err_from_is_err_and c.from_residual-in_err-inbox.result c.from_residual-in_err-inbox.ensures.1 in
    rw (p.1, p.2) (inbox_body k n c.in_ok-size.size c.args.bytes.now c.in_ok-rest.rest.now c.in_ok-size.rest.now c.in_err-inbox.field-0.0 c.in_ok-size.ensures.most
    c.in_ok-rest.ensures.ok c.in_ok-size.ensures.line (c.in_err-inbox.ensures.form k n some))

pub returns-in_err-rest-2-clause-form : goal.returns-in_err-rest-2-clause-form
returns-in_err-rest-2-clause-form c = λ k n some.
    let p = err_from_is_err_and c.from_residual-in_err-rest-2.result c.from_residual-in_err-rest-2.ensures.1 in
    rw (p.1, p.2) (inbox_end k n c.in_ok-size.size c.args.bytes.now c.in_ok-rest.rest.now c.in_ok-size.rest.now c.in_ok-inbox.inbox.now c.in_ok-inbox.rest.now c.in_err-rest-2.field-0.0
    some c.in_ok-size.ensures.most c.in_ok-rest.ensures.ok c.in_ok-size.ensures.line c.in_ok-inbox.ensures.small c.in_ok-inbox.ensures.size c.in_ok-inbox.ensures.text c.in_err-rest-2.ensures.form)
