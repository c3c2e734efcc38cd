use Rattle.std.proofs.Common.{◌≡◌, ◌+◌, ◌*◌, ◌^◌, ◌<◌, ℤ, pos, ◌∙◌, length, get_or, refl, arith, subst, sym}
use Rattle.std.proofs.lemmas.Int.{ints}
use Rattle.std.proofs.lemmas.List.{length-set}
use Rattle.std.proofs.lemmas.List.Elements.{All-get_or, All-set, All-weaker}
use mir.Syntax.{w128}
use mir.Val.{to_z, of_z}
use Rattle.dali_problem.specs.declared.columns.Touch.{Touch}
use Rattle.dali_problem.specs.Limits.{Within}
use Rattle.dali_problem.proofs.Lines.{widen}
use Rattle.dali_lagrange.specs.Touched.{reduced_in, shifted}
use Rattle.dali_lagrange.proofs.Shifts.{shift_step, shifted_small}
use Rattle.dali_lagrange.proofs.touched.shift_touched.Goals as goal

pub loop-touch-preserved : goal.loop-touch-preserved
loop-touch-preserved c =
    let d : Touch = record { place = 0; amount = pos 0 } in
    let within : c.loop-touch.touch-index < length c.args.touches.now = c.loop-touch-test.true in
    let t : Touch = get_or c.args.touches.now c.loop-touch.touch-index d in
    let stored : to_z w128 (of_z w128 c.shift_value.result) ≡ c.shift_value.result = omega (arith, ints, c.shift_value.type_inv) in
    let is : to_z w128 (of_z w128 c.shift_value.result) ≡ shifted (reduced_in c.loop-touch.reduced t.place) c.args.by.now t.amount = stored ∙ c.shift_value.ensures in
    let amount : Within (2 ^ 58) t.amount = All-get_or (λ (u : Touch). Within (2 ^ 58) u.amount) c.args.touches.now c.loop-touch.touch-index d within c.requires.touches.bounded in
    let place : t.place < length c.args.reduced.now = All-get_or (λ (u : Touch). u.place < length c.args.reduced.now) c.args.touches.now c.loop-touch.touch-index d within c.requires.touches.in_range in
    let value : Within (2 ^ 103 + c.loop-touch.touch-index * 2 ^ 102) (reduced_in c.loop-touch.reduced t.place) =
    All-get_or (Within (2 ^ 103 + c.loop-touch.touch-index * 2 ^ 102)) c.loop-touch.reduced t.place (pos 0) (omega (arith, place, c.loop-touch.auto.reduced)) c.loop-touch.invariant.small in
    let small = shifted_small (2 ^ 103 + c.loop-touch.touch-index * 2 ^ 102) (reduced_in c.loop-touch.reduced t.place) c.args.by.now t.amount value c.requires.by amount in
    let new_size : 2 ^ 103 + c.loop-touch.touch-index * 2 ^ 102 + 2 ^ 102 ≡ 2 ^ 103 + (c.loop-touch.touch-index + 1) * 2 ^ 102 = omega arith in
    record {
      exact = λ j below. shift_step c.args.reduced.now c.loop-touch.reduced c.args.touches.now c.loop-touch.touch-index d t (to_z w128 (of_z w128 c.shift_value.result)) c.args.by.now
          within refl is c.loop-touch.invariant.exact j (omega (arith, length-set {A = ℤ}, below));
      small = All-set (Within (2 ^ 103 + (c.loop-touch.touch-index + 1) * 2 ^ 102)) c.loop-touch.reduced t.place (to_z w128 (of_z w128 c.shift_value.result))
          (subst (Within (2 ^ 103 + (c.loop-touch.touch-index + 1) * 2 ^ 102)) (sym is) (subst (λ m. Within m (shifted (reduced_in c.loop-touch.reduced t.place) c.args.by.now t.amount)) new_size small))
          (All-weaker (Within (2 ^ 103 + c.loop-touch.touch-index * 2 ^ 102)) (Within (2 ^ 103 + (c.loop-touch.touch-index + 1) * 2 ^ 102))
          (λ z room. widen _ _ z (omega arith) room) c.loop-touch.reduced c.loop-touch.invariant.small);
    }
