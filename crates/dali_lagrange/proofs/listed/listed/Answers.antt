use Rattle.std.proofs.Common.{◌≡◌, ◌+◌, ◌∙◌, length, subst, arith}
use Rattle.dali_lagrange.specs.Multipliers.{AreMultipliers}
use Rattle.dali_lagrange.proofs.Lists.{Listed, push_listed, skip_listed, fits_of}
use Rattle.dali_lagrange.proofs.listed.listed.Goals.{then-multiplier-gt0+in_ok-push, else-multiplier-gt0}
use Rattle.dali_lagrange.proofs.listed.listed.Goals as goal

pub loop-line-preserved : goal.loop-line-preserved
loop-line-preserved c = elim c.if-multiplier-gt0.branch [
  | then-multiplier-gt0+in_ok-push w ↦
      let more : Listed c.args.kept.now.multipliers c.if-multiplier-gt0.lam (c.loop-line.line + 1) =
      push_listed c.args.kept.now.multipliers c.loop-line.lam c.if-multiplier-gt0.lam c.loop-line.line c.multiplier-multiplier.result
      (c.loop-line.invariant.are, c.loop-line.invariant.not_zero, c.loop-line.invariant.listed) c.multiplier-multiplier.ensures.value w.if-multiplier-gt0.true
      c.multiplier-multiplier.ensures.bounded (w.lam-is ∙ w.in_ok-push.ensures.ok) in
      record { are = more.0; not_zero = more.1; listed = more.2 }
  | else-multiplier-gt0 w ↦
      let more : Listed c.args.kept.now.multipliers c.if-multiplier-gt0.lam (c.loop-line.line + 1) =
      skip_listed c.args.kept.now.multipliers c.loop-line.lam c.if-multiplier-gt0.lam c.loop-line.line
      (c.loop-line.invariant.are, c.loop-line.invariant.not_zero, c.loop-line.invariant.listed)
      (let nothing = w.if-multiplier-gt0.false in omega (arith, c.multiplier-multiplier.ensures.value, nothing)) w.lam-is in
      record { are = more.0; not_zero = more.1; listed = more.2 }
]

pub returns-clause-fits : goal.returns-clause-fits
returns-clause-fits c =
    let all : c.loop-line.line ≡ length c.args.problem.now.lines = omega arith in
    fits_of (length c.args.problem.now.lines) c.loop-line.lam (subst (λ n. AreMultipliers n c.loop-line.lam) all c.loop-line.invariant.are) c.loop-line.invariant.not_zero
