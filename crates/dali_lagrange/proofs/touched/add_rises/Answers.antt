use Rattle.std.proofs.Common.{◌^◌, ◌<◌, pos, length, get_or, arith}
use Rattle.std.proofs.lemmas.Int.{ints}
use Rattle.std.proofs.lemmas.List.Elements.{All-get_or}
use Rattle.dali_problem.specs.declared.columns.Touch.{Touch}
use Rattle.dali_problem.specs.Limits.{Within}
use Rattle.dali_problem.specs.Partial.{mark}
use Rattle.dali_problem.proofs.SumLaws.{sum_over_more}
use Rattle.dali_lagrange.specs.Touched.{touch_rise, reduced_in}
use Rattle.dali_lagrange.proofs.Shifts.{rise_small}
use Rattle.dali_lagrange.proofs.touched.add_rises.Goals as goal

pub loop-touch-preserved : goal.loop-touch-preserved
loop-touch-preserved c =
    let d : Touch = record { place = 0; amount = pos 0 } in
    let within : c.loop-touch.touch-index < length c.args.touches.now = c.loop-touch-test.true in
    let t : Touch = get_or c.args.touches.now c.loop-touch.touch-index d in
    let more = sum_over_more (touch_rise c.args.marks.now c.args.reduced.now c.args.from.now c.args.to.now) c.args.touches.now c.loop-touch.touch-index d within in
    let amount : Within (2 ^ 58) t.amount = All-get_or (λ (u : Touch). Within (2 ^ 58) u.amount) c.args.touches.now c.loop-touch.touch-index d within c.requires.touches.bounded in
    let place : t.place < length c.args.marks.now = All-get_or (λ (u : Touch). u.place < length c.args.marks.now) c.args.touches.now c.loop-touch.touch-index d within c.requires.touches.in_range in
    let value : Within (2 ^ 103) (reduced_in c.args.reduced.now t.place) =
    All-get_or (Within (2 ^ 103)) c.args.reduced.now t.place (pos 0) (omega (arith, place, c.requires.places)) c.requires.reduced in
    let small = rise_small (mark c.args.marks.now t.place) (reduced_in c.args.reduced.now t.place) c.args.from.now c.args.to.now t.amount value c.requires.from c.requires.to amount in
    record {
      exact = omega (arith, ints, c.add_rise.ensures, more, c.loop-touch.invariant.exact);
      small = record {
        low = omega (arith, ints, c.add_rise.ensures, small.low, c.loop-touch.invariant.small.low);
        high = omega (arith, ints, c.add_rise.ensures, small.high, c.loop-touch.invariant.small.high);
      };
    }
