use Rattle.std.proofs.Common.{ℕ, ◌<◌, pos, refl, length, get_or, arith}
use Rattle.std.proofs.lemmas.List.{length-set}
use Rattle.dali_problem.specs.declared.row.Effect.{Effect}
use Rattle.dali_problem.proofs.Lines.{add_room, add_step}
use Rattle.dali_greedy.proofs.lines.add.Goals as goal

pub raise-requires : goal.raise-requires
raise-requires c =
    let none : Effect = record { line = 0; amount = pos 0 } in
    let i : ℕ = c.loop-effect.effect-index in
    let e : Effect = get_or c.args.effects.now i none in
    let inside : e.line < length c.args.has.now = c.requires.effects.in_range i none c.loop-effect-test.true in
    let there : e.line < length c.loop-effect.has = omega (arith, c.loop-effect.auto.has, inside) in
    add_room (length c.args.has.now) e.line i c.args.effects.now (get_or c.args.has.now e.line (pos 0)) (get_or c.loop-effect.has e.line (pos 0))
    c.requires.effects (c.requires.room e.line (pos 0) inside) (c.loop-effect.invariant e.line there)

pub loop-effect-preserved : goal.loop-effect-preserved
loop-effect-preserved c =
    let none : Effect = record { line = 0; amount = pos 0 } in
    let i : ℕ = c.loop-effect.effect-index in
    let e : Effect = get_or c.args.effects.now i none in
    λ k below. add_step c.args.has.now c.loop-effect.has c.args.effects.now i none e c.raise.new.has c.loop-effect-test.true refl
    c.raise.ensures c.loop-effect.invariant k (omega (arith, length-set c.loop-effect.has e.line c.raise.new.has, below))
