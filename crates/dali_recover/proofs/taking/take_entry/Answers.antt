use Rattle.std.proofs.Common.{◌≡◌, ◌∙◌, ◌++◌, [], ◌∷◌, ap, Option}
use Rattle.dali_tree.specs.declared.choice.Choice.{Choice}
use Rattle.dali_recover.specs.Taking.{choice_in}
use Rattle.dali_recover.proofs.Choices.{choice_back}
use Rattle.dali_recover.proofs.taking.take_entry.Goals as goal

pub returns-clause-entries : goal.returns-clause-entries
returns-clause-entries c =
    let back : c.choice_in-choice.result ≡ c.args.entry.choice = c.choice_in-choice.ensures ∙ ap choice_in (c.commit.ensures.outcome ∙ c.in_ok-ready.ensures.ready.outcome)
    ∙ choice_back c.args.state.now.machine c.args.entry.edition c.args.entry.line c.args.entry.choice (c.in_ok-has_its_choice.ensures.0 c.if-not-branch.false) in
    c.in_ok-push.ensures.ok ∙ ap (λ (x : Option Choice). c.args.entries.now ++ record { edition = c.args.entry.edition; line = c.args.entry.line; choice = x } ∷ []) back
