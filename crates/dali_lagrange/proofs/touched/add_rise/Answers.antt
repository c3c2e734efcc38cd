use Rattle.std.proofs.Common.{◌≡◌, ap, ◌∙◌, arith}
use Rattle.std.proofs.lemmas.Int.{ints}
use mir.Syntax.{w128}
use mir.Val.{to_z, of_z}
use Rattle.dali_lagrange.specs.Bound.{count_of}
use Rattle.dali_lagrange.specs.Touched.{shifted}
use Rattle.dali_lagrange.proofs.Shifts.{wide, at_most_shifted}
use Rattle.dali_lagrange.proofs.touched.add_rise.Goals as goal

pub add_counted-requires-clause-worth : goal.add_counted-requires-clause-worth
add_counted-requires-clause-worth c =
    let stored : to_z w128 (of_z w128 c.shift_value.result) ≡ c.shift_value.result = omega (arith, ints, c.shift_value.type_inv) in
    wide _ _ _ _ c.requires.value c.requires.to c.requires.amount (stored ∙ c.shift_value.ensures)

pub take_counted-requires-clause-total : goal.take_counted-requires-clause-total
take_counted-requires-clause-total c =
    let stored : to_z w128 (of_z w128 c.shift_value.result) ≡ c.shift_value.result = omega (arith, ints, c.shift_value.type_inv) in
    at_most_shifted c.args.mark _ _ _ _ _ _ c.requires.total c.requires.value c.requires.to c.requires.amount (stored ∙ c.shift_value.ensures) c.add_counted.ensures

pub take_counted-requires-clause-worth : goal.take_counted-requires-clause-worth
take_counted-requires-clause-worth c =
    let stored : to_z w128 (of_z w128 c.shift_value-in-Chosen.result) ≡ c.shift_value-in-Chosen.result = omega (arith, ints, c.shift_value-in-Chosen.type_inv) in
    wide _ _ _ _ c.requires.value c.requires.from c.requires.amount (stored ∙ c.shift_value-in-Chosen.ensures)

pub returns-in-Chosen : goal.returns-in-Chosen
returns-in-Chosen c =
    let stored : to_z w128 (of_z w128 c.shift_value.result) ≡ c.shift_value.result = omega (arith, ints, c.shift_value.type_inv) in
    let stored_from : to_z w128 (of_z w128 c.shift_value-in-Chosen.result) ≡ c.shift_value-in-Chosen.result = omega (arith, ints, c.shift_value-in-Chosen.type_inv) in
    let up : count_of c.args.mark (to_z w128 (of_z w128 c.shift_value.result)) ≡ count_of c.args.mark (shifted c.args.value.now c.args.to.now c.args.amount.now) =
    ap (count_of c.args.mark) (stored ∙ c.shift_value.ensures) in
    let down : count_of c.args.mark (to_z w128 (of_z w128 c.shift_value-in-Chosen.result)) ≡ count_of c.args.mark (shifted c.args.value.now c.args.from.now c.args.amount.now) =
    ap (count_of c.args.mark) (stored_from ∙ c.shift_value-in-Chosen.ensures) in
    omega (arith, ints, up, down, c.add_counted.ensures, c.take_counted.ensures)
