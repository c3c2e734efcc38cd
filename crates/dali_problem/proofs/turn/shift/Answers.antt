use Rattle.std.proofs.Common.{◌≡◌, ℕ, ◌<◌, ◌^◌, pos, refl, sym, subst, length, get_or, arith}
use Rattle.std.proofs.lemmas.List.{length-set}
use Rattle.dali_problem.specs.declared.row.Effect.{Effect}
use Rattle.dali_problem.specs.Kept.{IsSmall, no_sum, sum_at}
use Rattle.dali_problem.proofs.Turned.{untouched, shift_step}
use Rattle.dali_problem.proofs.turn.shift.Goals as goal

pub move_one-requires-clause-small : goal.move_one-requires-clause-small
move_one-requires-clause-small c =
    let none : Effect = record { line = 0; amount = pos 0 } in
    let i : ℕ = c.loop-effect.effect-index in
    let e : Effect = get_or c.args.effects.now i none in
    let inside : e.line < length c.args.sums.now = c.requires.effects.in_range i none c.loop-effect-test.true in
    let there : e.line < length c.loop-effect.sums = omega (arith, c.loop-effect.auto.sums, inside) in
    let same : sum_at c.loop-effect.sums e.line ≡ sum_at c.args.sums.now e.line =
    untouched (length c.args.sums.now) c.args.sums.now c.loop-effect.sums c.args.effects.now i none c.args.from c.args.to
    c.requires.effects c.loop-effect-test.true (c.loop-effect.invariant e.line there) in
    subst (IsSmall (2 ^ 100)) (sym same) (c.requires.small e.line no_sum inside)

pub move_one-requires-clause-amount : goal.move_one-requires-clause-amount
move_one-requires-clause-amount c = c.requires.effects.bounded c.loop-effect.effect-index (record { line = 0; amount = pos 0 }) c.loop-effect-test.true

pub loop-effect-preserved : goal.loop-effect-preserved
loop-effect-preserved c =
    let none : Effect = record { line = 0; amount = pos 0 } in
    let i : ℕ = c.loop-effect.effect-index in
    let e : Effect = get_or c.args.effects.now i none in
    let inside : e.line < length c.args.sums.now = c.requires.effects.in_range i none c.loop-effect-test.true in
    let there : e.line < length c.loop-effect.sums = omega (arith, c.loop-effect.auto.sums, inside) in
    λ k below. shift_step (length c.args.sums.now) c.args.sums.now c.loop-effect.sums c.args.effects.now i none e c.move_one.new.sum
    c.args.from c.args.to c.requires.effects c.loop-effect-test.true refl there c.move_one.ensures c.loop-effect.invariant k
    (omega (arith, length-set c.loop-effect.sums e.line c.move_one.new.sum, below))
