use Rattle.std.proofs.Common.{ℕ, ◌<◌, pos, refl, length, get_or, arith}
use Rattle.std.proofs.lemmas.List.{length-set}
use Rattle.dali_problem.specs.declared.row.Effect.{Effect}
use Rattle.dali_problem.proofs.Lines.{add_room, add_step}
use Rattle.dali_problem.proofs.feasible.add.Goals as goal

pub change-requires : goal.change-requires
change-requires c =
    let none : Effect = record { line = 0; amount = pos 0 } in
    let i : ℕ = c.loop-effect.effect-index in
    let e : Effect = get_or c.args.effects.now i none in
    let inside : e.line < length c.args.at.now = c.requires.effects.in_range i none c.loop-effect-test.true in
    let there : e.line < length c.loop-effect.at = omega (arith, c.loop-effect.auto.at, inside) in
    add_room (length c.args.at.now) e.line i c.args.effects.now (get_or c.args.at.now e.line (pos 0)) (get_or c.loop-effect.at e.line (pos 0))
    c.requires.effects (c.requires.room e.line (pos 0) inside) (c.loop-effect.invariant e.line there)

pub loop-effect-preserved : goal.loop-effect-preserved
loop-effect-preserved c =
    let none : Effect = record { line = 0; amount = pos 0 } in
    let i : ℕ = c.loop-effect.effect-index in
    let e : Effect = get_or c.args.effects.now i none in
    λ k below. add_step c.args.at.now c.loop-effect.at c.args.effects.now i none e c.change.new.sum c.loop-effect-test.true refl
    c.change.ensures c.loop-effect.invariant k (omega (arith, length-set c.loop-effect.at e.line c.change.new.sum, below))
