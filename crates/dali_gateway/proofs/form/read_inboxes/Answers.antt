use Rattle.std.proofs.Common.{◌≡◌, ◌∙◌, ◌+◌, ◌-◌, ◌++◌, ℕ, suc, List, [], ◌∷◌, length, map, ap, arith}
use Rattle.std.proofs.lemmas.Result.{err_from_is_err_and}
use Rattle.dali_gateway.specs.Gateway.{Box, whole_of, unopened}
use Rattle.dali_gateway.proofs.Reached.{count_of, grown_more}
use Rattle.dali_gateway.proofs.Tails.{behind_inboxes}
use Rattle.dali_gateway.proofs.form.read_inboxes.Goals as goal

pub returns-in_err-inbox-clause-form : goal.returns-in_err-inbox-clause-form
returns-in_err-inbox-clause-form c = λ k some.
    let p = err_from_is_err_and c.from_residual.result c.from_residual.ensures.1 in
    let further = c.args.count - c.inboxes.counter - 1 in
    let boxes = c.inboxes.inboxes.items in
    let counted : c.args.count ≡ length (map whole_of boxes) + suc further = omega (arith, c.inboxes-test.true, count_of boxes c.inboxes.counter c.inboxes.invariant.count) in
    rw (p.1, p.2) (behind_inboxes (map whole_of boxes) k (suc further) c.args.count c.args.bytes.now c.inboxes.rest.now c.in_err-inbox.field-0.0 c.inboxes.invariant.each counted
    c.inboxes.invariant.text (c.in_err-inbox.ensures.form k further some))

pub inboxes-preserved : goal.inboxes-preserved
inboxes-preserved c =
    let pushed : c.push.new.self.items ≡ c.inboxes.inboxes.items ++ unopened c.in_ok-inbox.inbox.now ∷ [] =
    c.in_ok-push.ensures.items
    ∙ ap (λ (b : Box). c.inboxes.inboxes.items ++ b ∷ [])
    (c.new.ensures ∙ ap unopened (c.in_ok-add.ensures.ok ∙ ap (λ (t : List ℕ). t ++ c.in_ok-inbox.inbox.now) c.new-text.ensures)) in
    let grown = grown_more c.inboxes.inboxes.items c.push.new.self.items c.in_ok-inbox.inbox.now c.args.bytes.now c.inboxes.rest.now c.in_ok-inbox.behind.now c.inboxes.counter
    (record { long = c.inboxes.invariant.count; fresh = c.inboxes.invariant.fresh; each = c.inboxes.invariant.each; text = c.inboxes.invariant.text })
    pushed c.in_ok-inbox.ensures.inbox c.in_ok-inbox.ensures.text in
    record { count = grown.long; fresh = grown.fresh; each = grown.each; text = grown.text }
