use Rattle.std.proofs.Common.{◌≡◌, ◌∙◌, ap, List, arith}
use Rattle.std.proofs.Math.ListN.{replicate}
use Rattle.std.proofs.lemmas.Int.{ints}
use mir.Syntax.{w128}
use mir.Val.{to_z, of_z}
use Rattle.dali_problem.specs.declared.mark.Mark.{Mark}
use Rattle.dali_lagrange.specs.Bound.{sum_of}
use Rattle.dali_lagrange.proofs.KeptLaws.{start_is}
use Rattle.dali_lagrange.proofs.kept.Kept.at_zero.Goals as goal

pub returns-clause-of : goal.returns-clause-of
returns-clause-of c =
    let stored : to_z w128 (of_z w128 c.zero_sum-total.result) ≡ c.zero_sum-total.result = omega (arith, ints, c.zero_sum-total.type_inv) in
    start_is c.args.problem.now c.args.marks.items c.in_ok-multipliers.multipliers.items c.in_ok-reduced.reduced.items (to_z w128 (of_z w128 c.zero_sum-total.result)) c.in_ok-columns.columns
    c.requires (c.in_ok-multipliers.ensures.items_if_clones_equal (λ _ e. e) ∙ ap (λ n. replicate n 0) c.lines.ensures.count) c.in_ok-reduced.ensures.size c.in_ok-reduced.ensures.exact
    (stored ∙ c.zero_sum-total.ensures.exact ∙ ap (λ (f : List Mark). sum_of c.args.problem.now f (λ _. 0)) c.as_slice.ensures.value)
    c.in_ok-columns.ensures.lines c.in_ok-columns.ensures.touches
