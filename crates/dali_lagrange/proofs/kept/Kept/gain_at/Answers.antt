use Rattle.std.proofs.Common.{◌≡◌, ◌∙◌, ◌+ℤ◌, true, false, sym, subst, arith}
use Rattle.std.proofs.lemmas.Int.{ints}
use mir.Syntax.{w128}
use mir.Val.{to_z, of_z}
use Rattle.dali_lagrange.specs.Still.{IsGain}
use Rattle.dali_lagrange.proofs.Gains.{still_from_best, after_rise}
use Rattle.dali_lagrange.proofs.kept.Kept.gain_at.Goals as goal

pub returns-then-is_gain-clause-gain : goal.returns-then-is_gain-clause-gain
returns-then-is_gain-clause-gain c =
    let stored_sum : to_z w128 (of_z w128 c.sum.result) ≡ c.sum.result = omega (arith, ints, c.sum.type_inv) in
    let stored_rise : to_z w128 (of_z w128 c.rise-rise.result) ≡ c.rise-rise.result = omega (arith, ints, c.rise-rise.type_inv) in
    let old : to_z w128 (of_z w128 c.sum.result) ≡ c.args.self.now.total = stored_sum ∙ c.sum.ensures.kept in
    let after = after_rise c.args.problem.now c.args.self.now c.args.line c.multiplier.result c.best_within-best.result (to_z w128 (of_z w128 c.rise-rise.result)) c.requires.of
    c.multiplier.ensures.value (stored_rise ∙ c.rise-rise.ensures.exact) in
    let gain = c.is_gain.ensures.0 c.if-is_gain.true in
    subst (IsGain c.args.self.now.total) after (subst (λ z. IsGain z (z +ℤ to_z w128 (of_z w128 c.rise-rise.result))) old gain)

pub returns-else-is_gain-clause-none : goal.returns-else-is_gain-clause-none
returns-else-is_gain-clause-none c =
    let stored_sum : to_z w128 (of_z w128 c.sum.result) ≡ c.sum.result = omega (arith, ints, c.sum.type_inv) in
    let stored_rise : to_z w128 (of_z w128 c.rise-rise.result) ≡ c.rise-rise.result = omega (arith, ints, c.rise-rise.type_inv) in
    let old : to_z w128 (of_z w128 c.sum.result) ≡ c.args.self.now.total = stored_sum ∙ c.sum.ensures.kept in
    let after = after_rise c.args.problem.now c.args.self.now c.args.line c.multiplier.result c.best_within-best.result (to_z w128 (of_z w128 c.rise-rise.result)) c.requires.of
    c.multiplier.ensures.value (stored_rise ∙ c.rise-rise.ensures.exact) in
    still_from_best c.args.problem.now c.args.self.now.marks c.args.self.now.multipliers c.args.self.now.total c.args.line c.best_within-best.result c.best_within-best.ensures
    (λ gain.
    let told : c.is_gain.result ≡ true = c.is_gain.ensures.1 (subst (λ z. IsGain z (z +ℤ to_z w128 (of_z w128 c.rise-rise.result))) (sym old)
    (subst (IsGain c.args.self.now.total) (sym after) gain)) in
    let not_told : c.is_gain.result ≡ false = c.if-is_gain.false in
    cc (told, not_told))
