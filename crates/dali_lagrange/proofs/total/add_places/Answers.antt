use Rattle.std.proofs.Common.{◌≡◌, ◌^◌, ◌∙◌, get_or, ap, arith}
use Rattle.std.proofs.lemmas.Int.{ints}
use mir.Syntax.{w128}
use mir.Val.{to_z, of_z}
use Rattle.dali_problem.specs.Partial.{mark}
use Rattle.dali_problem.specs.Limits.{Within}
use Rattle.dali_problem.specs.declared.mark.Mark.{Mark}
use Rattle.dali_problem.proofs.SumLaws.{sum_below_more}
use Rattle.dali_lagrange.specs.Bound.{reduced, count_of}
use Rattle.dali_lagrange.proofs.Sizes.{counted_small}
use Rattle.dali_lagrange.proofs.total.add_places.Goals as goal

pub loop-place-preserved : goal.loop-place-preserved
loop-place-preserved c =
    let stored : to_z w128 (of_z w128 c.reduced_at-worth.result) ≡ c.reduced_at-worth.result = omega (arith, ints, c.reduced_at-worth.type_inv) in
    let more = sum_below_more (λ j. count_of (mark c.args.partial.now.marks j) (reduced c.args.problem.now (λ k. get_or c.args.point.now k 0) j)) c.loop-place.place in
    let same : count_of c.mark.result (to_z w128 (of_z w128 c.reduced_at-worth.result))
    ≡ count_of (mark c.args.partial.now.marks c.loop-place.place) (reduced c.args.problem.now (λ k. get_or c.args.point.now k 0) c.loop-place.place) =
    ap (λ (m : Mark). count_of m (to_z w128 (of_z w128 c.reduced_at-worth.result))) c.mark.ensures
    ∙ ap (λ z. count_of (mark c.args.partial.now.marks c.loop-place.place) z) (stored ∙ c.reduced_at-worth.ensures.exact) in
    let worth : Within (2 ^ 103) (to_z w128 (of_z w128 c.reduced_at-worth.result)) =
    record { low = omega (arith, ints, stored, c.reduced_at-worth.ensures.bounded.low); high = omega (arith, ints, stored, c.reduced_at-worth.ensures.bounded.high) } in
    let small = counted_small (2 ^ 103) c.mark.result (to_z w128 (of_z w128 c.reduced_at-worth.result)) worth in
    record {
      exact = omega (arith, ints, c.add_counted.ensures, same, more, c.loop-place.invariant.exact);
      small = record {
        low = omega (arith, ints, c.add_counted.ensures, small.low, c.loop-place.invariant.small.low);
        high = omega (arith, ints, c.add_counted.ensures, small.high, c.loop-place.invariant.small.high);
      };
    }
