use Rattle.std.proofs.Common.{◌<◌, length, arith}
use Rattle.dali_problem.proofs.Values.{value_within}
use Rattle.dali_plain.specs.Masks.{places_of}
use Rattle.dali_plain.proofs.MaskLaws.{value_take, value_pass, value_none, mask_places}
use Rattle.dali_plain.proofs.masks.value_of_mask.Goals.{then-left-eq1, else-left-eq1}
use Rattle.dali_plain.proofs.masks.value_of_mask.Goals as goal

pub overflow_add-total : goal.overflow_add-total
overflow_add-total c =
    let p = c.args.problem.now in
    let within : c.loop-place.place < length p.items = omega (arith, c.loop-place-test.true, c.items-place-end.ensures.count) in
    let most = value_within p (places_of p c.args.mask) c.items-place-end.ensures.bounds (mask_places p c.args.mask) in
    let come = value_take p (length p.items) c.loop-place.place c.loop-place.left within c.if-left-eq1.true in
    omega (arith, most, come, c.value-total.ensures.value, c.loop-place.invariant.whole)

pub loop-place-preserved : goal.loop-place-preserved
loop-place-preserved c =
    let p = c.args.problem.now in
    let within : c.loop-place.place < length p.items = omega (arith, c.loop-place-test.true, c.items-place-end.ensures.count) in
    elim c.if-left-eq1.branch [
      | then-left-eq1 w ↦
          let come = value_take p (length p.items) c.loop-place.place c.loop-place.left within w.if-left-eq1.true in
          record { whole = omega (arith, come, w.total-is, w.value-total.ensures.value, c.loop-place.invariant.whole) }
      | else-left-eq1 w ↦
          let come = value_pass p (length p.items) c.loop-place.place c.loop-place.left within w.if-left-eq1.false in
          record { whole = omega (arith, come, w.total-is, c.loop-place.invariant.whole) }
    ]

pub returns : goal.returns
returns c =
    let p = c.args.problem.now in
    let none = value_none p (length p.items) c.loop-place.place c.loop-place.left (omega (arith, c.loop-place-test.false, c.items-place-end.ensures.count)) in
    omega (arith, none, c.loop-place.invariant.whole)
