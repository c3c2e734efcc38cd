use Rattle.std.proofs.Common.{◌≡◌, ◌∙◌, ◌+◌, ◌++◌, List, ℕ, true, false, refl, sym, ap, subst}
use Rattle.dali_machine.specs.Machine.{Machine}
use Rattle.dali_machine.specs.Ready.{IsReady}
use Rattle.dali_machine.specs.Step.{step}
use Rattle.dali_reply.specs.Reply.{reply_text, HasText}
use Rattle.dali_reply.proofs.Outcomes.{reported_text}
use Rattle.dali_register.specs.TextOf.{answer_to}
use Rattle.dali_register.proofs.Replies.{repeated_one, repeated_in_part}
use Rattle.dali_register.proofs.repeating.repeat.Goals as goal

pub reply-requires : goal.reply-requires
reply-requires g c = subst HasText (sym c.outcome.ensures.outcome) (reported_text c.in_ok-ready.ready.outcome c.outcome.ensures.reported)

pub returns-in-Ok-clause-repeated : goal.returns-in-Ok-clause-repeated
returns-in-Ok-clause-repeated g c before found done todo tail edition parts state entries repeats =
    let m = c.args.state.now.machine in
    let e = c.args.entry.now in
    let piece : c.bytes.result.now ≡ answer_to m e =
    c.bytes.ensures ∙ c.in_ok-text.ensures
    ∙ ap (λ k. reply_text k c.outcome.result.now) (c.number.ensures ∙ c.in_ok-ready.ensures.ready.number)
    ∙ ap (reply_text (m.commands + 1)) (c.outcome.ensures.outcome ∙ c.in_ok-ready.ensures.ready.outcome)
    ∙ ap (λ choice. reply_text (m.commands + 1) (step e.edition m e.line choice).outcome) c.in_ok-choice.ensures in
    repeated_one g.T.Site.tells before found done todo e tail edition m (g.T.Site.sight c.args.site.now) (g.T.Site.sight c.put.new.self) parts state entries repeats
    c.bytes.result.now piece c.size-size.ensures.told c.in-Ok.ensures.disk c.in-Ok.ensures.goes c.commit-outcome.new.self.machine c.in-Ok.ensures.text
    (subst (λ (x : Machine). IsReady e.edition x e.line c.in_ok-choice.choice c.in_ok-ready.ready → c.commit-outcome.new.self.machine ≡ (step e.edition x e.line c.in_ok-choice.choice).next)
    c.prepare.ensures.machine (c.commit-outcome.ensures.step e.edition e.line c.in_ok-choice.choice) c.in_ok-ready.ensures.ready
    ∙ ap (λ choice. (step e.edition m e.line choice).next) c.in_ok-choice.ensures)

pub returns-clause-repeated : goal.returns-clause-repeated
returns-clause-repeated g c before found done todo tail edition parts state entries repeats =
    let m = c.args.state.now.machine in
    let e = c.args.entry.now in
    let piece : c.bytes.result.now ≡ answer_to m e =
    c.bytes.ensures ∙ c.in_ok-text.ensures
    ∙ ap (λ k. reply_text k c.outcome.result.now) (c.number.ensures ∙ c.in_ok-ready.ensures.ready.number)
    ∙ ap (reply_text (m.commands + 1)) (c.outcome.ensures.outcome ∙ c.in_ok-ready.ensures.ready.outcome)
    ∙ ap (λ choice. reply_text (m.commands + 1) (step e.edition m e.line choice).outcome) c.in_ok-choice.ensures in
    repeated_in_part g.T.Site.tells before found done todo e tail edition m (g.T.Site.sight c.args.site.now) (g.T.Site.sight c.put.new.self) parts state entries repeats
    c.bytes.result.now piece c.size-size.ensures.told c.in-Err.ensures.disk c.in-Err.ensures.goes c.in-Err.ensures.text c.in-Err.ensures.failed
