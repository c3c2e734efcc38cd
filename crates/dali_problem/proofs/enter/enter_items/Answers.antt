use Rattle.std.proofs.Common.{◌≡◌, ℕ, ◌∙◌, sym, ap, subst, arith, List, [], length}
use Rattle.std.proofs.lemmas.List.{length-replicate, get_or-replicate}
use Rattle.dali_problem.specs.declared.columns.Touch.{Touch}
use Rattle.dali_problem.specs.Limits.{AreEffects}
use Rattle.dali_problem.specs.Touches.{column_at}
use Rattle.dali_problem.proofs.Lines.{item_limits}
use Rattle.dali_problem.proofs.Touching.{touches_step}
use Rattle.dali_problem.proofs.enter.enter_items.Goals as goal

pub loop-place-init : goal.loop-place-init
loop-place-init c = λ k below.
    let size : length c.args.columns.now ≡ length c.args.problem.now.lines =
    ap length c.requires ∙ length-replicate (length c.args.problem.now.lines) [] in
    ap (λ (columns : List (List Touch)). column_at columns k) c.requires
    ∙ get_or-replicate (length c.args.problem.now.lines) k [] [] (omega arith)

pub enter_effects-requires : goal.enter_effects-requires
enter_effects-requires c =
    let size : length c.loop-place.columns ≡ length c.args.problem.now.lines =
    c.loop-place.auto.columns ∙ ap length c.requires ∙ length-replicate (length c.args.problem.now.lines) [] in
    subst (λ (n : ℕ). AreEffects n c.effects.result.now) (sym size)
    (subst (AreEffects (length c.args.problem.now.lines)) (sym c.effects.ensures.effects)
    (item_limits c.args.problem.now c.loop-place.place c.effects.ensures.bounds (omega arith)).effects)

pub loop-place-preserved : goal.loop-place-preserved
loop-place-preserved c = λ k below.
    let are : AreEffects (length c.args.problem.now.lines) c.effects.result.now =
    subst (AreEffects (length c.args.problem.now.lines)) (sym c.effects.ensures.effects)
    (item_limits c.args.problem.now c.loop-place.place c.effects.ensures.bounds (omega arith)).effects in
    touches_step c.args.problem.now (length c.args.problem.now.lines) k c.loop-place.place c.effects.result.now
    (column_at c.loop-place.columns k) (column_at c.enter_effects.new.columns k) are c.effects.ensures.effects
    (c.loop-place.invariant k (omega (arith, below, c.enter_effects.auto.columns))) (c.in_ok-enter_effects.ensures k below)
