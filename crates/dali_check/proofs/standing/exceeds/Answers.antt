use Rattle.std.proofs.Common.{◌≡◌, ◌+◌, ◌*◌, pos, ap, ◌∙◌, arith}
use Rattle.std.specs.Int.Signed.{le_z}
use Rattle.std.proofs.lemmas.Int.{ints}
use mir.Val.{to_z, of_z}
use mir.Syntax.{w128}
use Rattle.dali_check.specs.Lean.{reaches}
use Rattle.dali_check.proofs.Stands.{stands_sum}
use Rattle.dali_check.proofs.standing.exceeds.Goals as goal

pub returns : goal.returns
unfolding reaches
returns c p lam f stands =
    let stored : to_z w128 (of_z w128 c.sum.result) ≡ c.sum.result = omega (arith, ints, c.sum.type_inv) in
    c.is_above.ensures ∙ ap (le_z (pos (4096 * (c.args.value + 1)))) (stored ∙ c.sum.ensures.exact p stands.of ∙ stands_sum p lam f c.args.kept.now stands)
