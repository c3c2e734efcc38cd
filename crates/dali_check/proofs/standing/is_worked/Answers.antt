use Rattle.std.proofs.Common.{◌&&◌, ap, sym, ◌∙◌}
use Rattle.dali_check.specs.Lean.{is_reduced}
use Rattle.dali_check.proofs.Stands.{stands_settled}
use Rattle.dali_check.proofs.standing.is_worked.Goals as goal

pub returns-then-is_settled : goal.returns-then-is_settled
returns-then-is_settled c lam stands =
    let p = c.args.problem.now in
    let f = c.args.partial.now.marks in
    c.is_reduced.ensures
    ∙ ap (λ b. b && is_reduced p f) (sym c.if-is_settled.true ∙ c.is_settled.ensures ∙ stands_settled p lam f c.args.kept.now stands)

pub returns-else-is_settled : goal.returns-else-is_settled
returns-else-is_settled c lam stands =
    let p = c.args.problem.now in
    let f = c.args.partial.now.marks in
    c.if-is_settled.false
    ∙ ap (λ b. b && is_reduced p f) (sym c.if-is_settled.false ∙ c.is_settled.ensures ∙ stands_settled p lam f c.args.kept.now stands)
