use Rattle.std.proofs.Common.{ℕ, ◌<◌, ◌∙◌, ap, pos, arith, List, [], ◌∷◌, ◌++◌, length, get_or}
use Rattle.std.proofs.lemmas.List.{length-set, get_or_default}
use Rattle.dali_problem.specs.declared.row.Effect.{Effect}
use Rattle.dali_problem.specs.declared.columns.Touch.{Touch}
use Rattle.dali_problem.proofs.Touching.{column_step}
use Rattle.dali_problem.proofs.enter.enter_effects.Goals as goal

pub loop-effect-preserved : goal.loop-effect-preserved
loop-effect-preserved c = λ k below.
    let none : Effect = record { line = 0; amount = pos 0 } in
    let i : ℕ = c.loop-effect.effect-index in
    let e : Effect = get_or c.args.effects.now i none in
    let touch : List Touch = record { place = c.args.place; amount = e.amount } ∷ [] in
    let inside : e.line < length c.args.columns.now = c.requires.in_range i none c.loop-effect-test.true in
    let there : e.line < length c.loop-effect.columns = omega (arith, c.loop-effect.auto.columns, inside) in
    column_step c.args.columns.now c.loop-effect.columns c.args.place i none c.args.effects.now c.push_touch.new.column k c.loop-effect-test.true
    (c.in_ok-push_touch.ensures
    ∙ ap (λ (zs : List Touch). zs ++ touch) (get_or_default c.loop-effect.columns e.line c.index-columns-effect.result [] there))
    c.loop-effect.invariant (omega (arith, below, length-set c.loop-effect.columns e.line c.push_touch.new.column))
