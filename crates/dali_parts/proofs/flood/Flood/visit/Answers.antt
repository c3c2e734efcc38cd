use Rattle.std.proofs.Common.{◌≡◌, ◌≢◌, ℕ, ◌+◌, ◌<◌, ◌∙◌, pos, true, ◌∷◌, List, Bool, length, get_or, take, ap, sym, subst, arith}
use Rattle.std.specs.List.{All}
use Rattle.std.proofs.lemmas.List.{length-set, take_all}
use Rattle.dali_problem.specs.declared.row.Effect.{Effect}
use Rattle.dali_problem.specs.declared.columns.Touch.{Touch}
use Rattle.dali_problem.specs.Clearing.{item_at, effect}
use Rattle.dali_problem.specs.Limits.{AreEffects}
use Rattle.dali_problem.specs.Touches.{touches}
use Rattle.dali_problem.proofs.Lines.{item_limits}
use Rattle.dali_reduce.proofs.Settling.{are_touches}
use Rattle.dali_parts.specs.Flood.{was_seen, IsFlooding}
use Rattle.dali_parts.proofs.Flooding.{looked_more, effect_changes, all_looked, leave_step, grows_both}
use Rattle.dali_parts.proofs.flood.Flood.visit.Goals as goal

pub see-requires-clause-line : goal.see-requires-clause-line
see-requires-clause-line c =
    let d : Effect = record { line = 0; amount = pos 0 } in
    let are : AreEffects (length c.args.problem.now.lines) c.effects-effect-items.result.now =
    subst (AreEffects (length c.args.problem.now.lines)) (sym c.effects-effect-items.ensures.effects)
    (item_limits c.args.problem.now c.args.place c.effects-effect-items.ensures.bounds c.requires.place).effects in
    omega (arith, are.in_range c.loop-effect.effect-index d c.loop-effect-test.true, c.loop-effect.invariant.flooding.lines)

pub see-requires-clause-touches : goal.see-requires-clause-touches
see-requires-clause-touches c =
    let d : Effect = record { line = 0; amount = pos 0 } in
    let line : ℕ = (get_or c.effects-effect-items.result.now c.loop-effect.effect-index d).line in
    let are : AreEffects (length c.args.problem.now.lines) c.effects-effect-items.result.now =
    subst (AreEffects (length c.args.problem.now.lines)) (sym c.effects-effect-items.ensures.effects)
    (item_limits c.args.problem.now c.args.place c.effects-effect-items.ensures.bounds c.requires.place).effects in
    let within : line < length c.args.columns.now = omega (arith, are.in_range c.loop-effect.effect-index d c.loop-effect-test.true, c.requires.columns.lines) in
    let is : c.touching.result.now ≡ touches c.args.problem.now line = c.touching.ensures ∙ c.requires.columns.touches line within in
    subst (λ (ts : List Touch). All (λ (t : Touch). t.place < length c.loop-effect.self.classes.items) ts) (sym is)
    (λ k e below. omega (arith, (are_touches c.args.problem.now line k e below).place, c.loop-effect.invariant.flooding.size))

pub loop-effect-preserved : goal.loop-effect-preserved
loop-effect-preserved c =
    let p = c.args.problem.now in
    let d : Effect = record { line = 0; amount = pos 0 } in
    let es = c.effects-effect-items.result.now in
    let i = c.loop-effect.effect-index in
    let line : ℕ = (get_or es i d).line in
    let are : AreEffects (length p.lines) es =
    subst (AreEffects (length p.lines)) (sym c.effects-effect-items.ensures.effects)
    (item_limits p c.args.place c.effects-effect-items.ensures.bounds c.requires.place).effects in
    let below : line < length p.lines = are.in_range i d c.loop-effect-test.true in
    let within : line < length c.args.columns.now = omega (arith, below, c.requires.columns.lines) in
    let inside : line < length c.loop-effect.self.seen.items = omega (arith, below, c.loop-effect.invariant.flooding.lines) in
    let is : c.touching.result.now ≡ touches p line = c.touching.ensures ∙ c.requires.columns.touches line within in
    let size : length es ≡ length (item_at p c.args.place).effects = ap length c.effects-effect-items.ensures.effects in
    let changed : effect p c.args.place line ≢ pos 0 =
    subst (λ (xs : List Effect). effect p c.args.place (get_or xs i d).line ≢ pos 0) (sym c.effects-effect-items.ensures.effects)
    (effect_changes p c.args.place i d c.effects-effect-items.ensures.bounds c.requires.place (omega (arith, size, c.loop-effect-test.true))) in
    record {
      flooding = c.in_ok-see.ensures.sees.sees p c.args.place c.loop-effect.invariant.flooding changed below is;
      looked = subst (λ (s : List Bool). All (λ (e : Effect). was_seen s e.line ≡ true) (take (i + 1) es)) (sym c.in_ok-see.ensures.seen)
          (looked_more c.loop-effect.self.seen.items es i d c.loop-effect-test.true inside c.loop-effect.invariant.looked);
      grows = grows_both c.args.class c.args.self.now.classes.items c.loop-effect.self.classes.items c.see.new.self.classes.items c.loop-effect.invariant.grows c.in_ok-see.ensures.grows;
      counted = c.in_ok-see.ensures.counted ∙ c.loop-effect.invariant.counted;
    }

pub returns-clause-flooding : goal.returns-clause-flooding
returns-clause-flooding c =
    let looked : All (λ (e : Effect). was_seen c.loop-effect.self.seen.items e.line ≡ true) c.effects-effect-items.result.now =
    subst (λ (es : List Effect). All (λ (e : Effect). was_seen c.loop-effect.self.seen.items e.line ≡ true) es)
    (take_all c.loop-effect.effect-index c.effects-effect-items.result.now c.loop-effect-test.false) c.loop-effect.invariant.looked in
    leave_step c.args.problem.now c.args.class c.loop-effect.self.classes.items c.loop-effect.self.seen.items c.args.place c.loop-effect.self.pending.items
    (all_looked c.args.problem.now c.args.place c.loop-effect.self.seen.items c.effects-effect-items.result.now c.effects-effect-items.ensures.effects looked)
    c.loop-effect.invariant.flooding
