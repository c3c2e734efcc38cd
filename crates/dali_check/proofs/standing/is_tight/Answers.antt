use Rattle.std.proofs.Common.{◌&&◌, not, ap, sym, ◌∙◌}
use Rattle.dali_check.specs.Lean.{is_tight}
use Rattle.dali_check.specs.Proves.{closes}
use Rattle.dali_check.proofs.Stands.{closes_is}
use Rattle.dali_check.proofs.standing.is_tight.Goals as goal

pub returns-then-reaches : goal.returns-then-reaches
unfolding is_tight
returns-then-reaches c p lam f stands =
    ap not (c.exceeds.ensures p lam f stands) ∙ closes_is p c.args.bound lam f
    ∙ ap (λ b. b && closes p c.args.bound lam f) (sym c.if-reaches.true ∙ c.reaches.ensures p lam f stands)

pub returns-else-reaches : goal.returns-else-reaches
unfolding is_tight
returns-else-reaches c p lam f stands =
    c.if-reaches.false
    ∙ ap (λ b. b && closes p c.args.bound lam f) (sym c.if-reaches.false ∙ c.reaches.ensures p lam f stands)
