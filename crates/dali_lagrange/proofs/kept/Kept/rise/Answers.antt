use Rattle.std.proofs.Common.{◌≡◌, ◌<◌, ◌^◌, pos, ◌-ℤ◌, length, get_or, sym, ap, subst, ◌∙◌, arith}
use Rattle.std.proofs.lemmas.Int.{ints}
use Rattle.std.proofs.lemmas.List.{get_or_read}
use mir.Syntax.{w64, w128}
use mir.Val.{to_z, of_z}
use Rattle.dali_problem.specs.declared.row.LineRow.{LineRow}
use Rattle.dali_problem.specs.Clearing.{balance}
use Rattle.dali_problem.specs.Limits.{Within}
use Rattle.dali_lagrange.specs.Best.{sum_with}
use Rattle.dali_lagrange.specs.KeptSum.{KeptSum, IsSumOf}
use Rattle.dali_lagrange.specs.KeptSumLayout.{view_of}
use Rattle.dali_lagrange.proofs.KeptLaws.{touching, rise_is, balance_rise, stored_small}
use Rattle.dali_lagrange.proofs.kept.Kept.rise.Goals as goal

pub add_rises-requires-clause-total : goal.add_rises-requires-clause-total
add_rises-requires-clause-total c =
    let stored_by : to_z w64 (of_z w64 c.offset.result) ≡ c.offset.result = omega (arith, ints, c.offset.type_inv) in
    let row : pos c.line.result.now.balance ≡ balance c.args.problem.now c.args.line = ap (λ (r : LineRow). pos r.balance) c.line.ensures.row in
    let small = balance_rise c.args.problem.now c.args.line _ _ _ c.add_balance.new.total c.line.ensures.bounds row stored_by c.offset.ensures.bounded c.add_balance.ensures in
    subst (Within (2 ^ 105)) (sym (stored_small c.add_balance.new.total small)) small

pub add_rises-requires-clause-touches : goal.add_rises-requires-clause-touches
add_rises-requires-clause-touches c =
    let k : KeptSum = view_of c.self.inside in
    let of : IsSumOf c.args.problem.now k = subst (IsSumOf c.args.problem.now) (sym c.self.view_is) c.requires.of in
    touching c.args.problem.now k c.args.line (length c.as_slice.result.now) c.touching.result.now c.line.ensures.bounds of c.requires.line c.touching.ensures
    (ap length c.as_slice.ensures.value ∙ of.marks)

pub returns-clause-bounded : goal.returns-clause-bounded
returns-clause-bounded c =
    record { low = omega (arith, ints, c.add_rises.ensures.bounded.low, c.add_rises.ensures.bounded.high); high = omega (arith, ints, c.add_rises.ensures.bounded.low, c.add_rises.ensures.bounded.high) }

pub returns-clause-exact : goal.returns-clause-exact
returns-clause-exact c =
    let k : KeptSum = view_of c.self.inside in
    let of : IsSumOf c.args.problem.now k = subst (IsSumOf c.args.problem.now) (sym c.self.view_is) c.requires.of in
    let by : to_z w64 (of_z w64 c.offset.result) ≡ pos c.args.to -ℤ pos c.args.from = omega (arith, ints, c.offset.type_inv, c.offset.ensures.exact) in
    let stored_down : to_z w64 (of_z w64 c.offset-2.result) ≡ c.offset-2.result = omega (arith, ints, c.offset-2.type_inv) in
    let stored_up : to_z w64 (of_z w64 c.offset-3.result) ≡ c.offset-3.result = omega (arith, ints, c.offset-3.type_inv) in
    let inside : c.args.line < length c.self.inside.multipliers.items = omega (arith, of.multipliers, c.requires.line) in
    let now : c.index-now.result.now ≡ get_or k.multipliers c.args.line 0 = get_or_read c.self.inside.multipliers.items c.args.line c.index-now.result.now inside c.index-now.ensures 0 in
    let down : to_z w64 (of_z w64 c.offset-2.result) ≡ pos c.args.from -ℤ pos (get_or k.multipliers c.args.line 0) =
    stored_down ∙ c.offset-2.ensures.exact ∙ ap (λ n. pos c.args.from -ℤ pos n) now in
    let up : to_z w64 (of_z w64 c.offset-3.result) ≡ pos c.args.to -ℤ pos (get_or k.multipliers c.args.line 0) =
    stored_up ∙ c.offset-3.ensures.exact ∙ ap (λ n. pos c.args.to -ℤ pos n) now in
    let row : pos c.line.result.now.balance ≡ balance c.args.problem.now c.args.line = ap (λ (r : LineRow). pos r.balance) c.line.ensures.row in
    let stored_by : to_z w64 (of_z w64 c.offset.result) ≡ c.offset.result = omega (arith, ints, c.offset.type_inv) in
    let stored_start : to_z w128 (of_z w128 c.add_balance.new.total) ≡ c.add_balance.new.total =
    stored_small c.add_balance.new.total (balance_rise c.args.problem.now c.args.line _ _ _ c.add_balance.new.total c.line.ensures.bounds row stored_by c.offset.ensures.bounded c.add_balance.ensures) in
    let stored : to_z w128 (of_z w128 c.add_rises.new.total) ≡ c.add_rises.new.total = omega (arith, ints, c.add_rises.ensures.bounded.low, c.add_rises.ensures.bounded.high) in
    let is = rise_is c.args.problem.now k c.args.line c.args.from c.args.to c.as_slice.result.now c.as_slice-2.result.now c.touching.result.now
    (to_z w64 (of_z w64 c.offset.result)) (to_z w64 (of_z w64 c.offset-2.result)) (to_z w64 (of_z w64 c.offset-3.result)) (pos c.line.result.now.balance)
    (to_z w128 (of_z w128 c.add_balance.new.total)) c.add_rises.new.total of c.requires.line
    c.as_slice.ensures.value c.as_slice-2.ensures.value c.touching.ensures by down up row (stored_start ∙ c.add_balance.ensures) c.add_rises.ensures.exact in
    stored ∙ is ∙ ap (λ (v : KeptSum). sum_with c.args.problem.now v.marks v.multipliers c.args.line c.args.to -ℤ sum_with c.args.problem.now v.marks v.multipliers c.args.line c.args.from) c.self.view_is
