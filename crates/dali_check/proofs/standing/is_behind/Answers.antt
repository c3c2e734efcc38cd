use Rattle.std.proofs.Common.{◌≡◌, true, not, ◌||◌, ltb, leb, if◌then◌else◌, ap, sym, ◌∙◌}
use Rattle.dali_problem.specs.Partial.{mark, is_undecided}
use Rattle.dali_check.specs.Lean.{nearness}
use Rattle.dali_check.proofs.standing.is_behind.Goals as goal

pub returns : goal.returns
returns c lam stands =
    let p = c.args.problem.now in
    let f = c.args.partial.now.marks in
    let first = ltb c.args.other c.args.place in
    let near = nearness p lam c.args.place in
    let far = nearness p lam c.args.other in
    let told : is_undecided (mark f c.args.other) ≡ true = sym (ap is_undecided c.mark.ensures) ∙ sym c.is_undecided.ensures ∙ c.if-not-is_undecided.false in
    c.is_ahead.ensures
    ∙ ap (λ n. if first then ltb n c.nearness-far.result else leb n c.nearness-far.result) (c.nearness-near.ensures p lam f stands)
    ∙ ap (λ n. if first then ltb near n else leb near n) (c.nearness-far.ensures p lam f stands)
    ∙ sym (ap (λ b. not b || (if first then ltb near far else leb near far)) told)
