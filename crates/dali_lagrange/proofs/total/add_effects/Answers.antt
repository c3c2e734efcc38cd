use Rattle.std.proofs.Common.{◌*◌, ◌^◌, ◌<◌, pos, ◌*ℤ◌, length, get_or, ap, arith}
use Rattle.std.proofs.lemmas.Int.{ints}
use Rattle.std.proofs.lemmas.List.Elements.{All-get_or}
use Rattle.dali_problem.specs.declared.row.Effect.{Effect}
use Rattle.dali_problem.specs.Limits.{Within}
use Rattle.dali_problem.proofs.SumLaws.{sum_over_more}
use Rattle.dali_lagrange.proofs.Sizes.{product_small}
use Rattle.dali_lagrange.proofs.total.add_effects.Goals as goal

pub loop-effect-preserved : goal.loop-effect-preserved
loop-effect-preserved c =
    let d : Effect = record { line = 0; amount = pos 0 } in
    let within : c.loop-effect.effect-index < length c.args.effects.now = omega arith in
    let more = sum_over_more (λ (e : Effect). pos (get_or c.args.point.now e.line 0) *ℤ e.amount) c.args.effects.now c.loop-effect.effect-index d within in
    let same = ap (λ m. pos m *ℤ (get_or c.args.effects.now c.loop-effect.effect-index d).amount) c.get.ensures.value in
    let room : Within (8 * 10 ^ 15) (get_or c.args.effects.now c.loop-effect.effect-index d).amount =
    All-get_or (λ (e : Effect). Within (8 * 10 ^ 15) e.amount) c.args.effects.now c.loop-effect.effect-index d within c.requires.effects.bounded in
    let small = product_small c.get.result (8 * 10 ^ 15) (get_or c.args.effects.now c.loop-effect.effect-index d).amount c.get.ensures.bounded room in
    record {
      exact = omega (arith, ints, c.add_weighted.ensures, same, more, c.loop-effect.invariant.exact);
      small = record {
        low = omega (arith, ints, c.add_weighted.ensures, small.low, c.loop-effect.invariant.small.low);
        high = omega (arith, ints, c.add_weighted.ensures, small.high, c.loop-effect.invariant.small.high);
      };
    }
