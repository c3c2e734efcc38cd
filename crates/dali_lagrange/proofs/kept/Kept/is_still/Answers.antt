use Rattle.std.proofs.Common.{◌≡◌, inl, inr, sym, subst, arith}
use Rattle.std.proofs.lemmas.Bool.{cases_lt}
use Rattle.dali_lagrange.specs.Still.{IsStillAt}
use Rattle.dali_lagrange.proofs.kept.Kept.is_still.Goals as goal

pub loop-line-preserved : goal.loop-line-preserved
loop-line-preserved c = λ k below. elim (cases_lt k c.loop-line.line) as (λ _. IsStillAt c.args.problem.now c.args.self.now.marks c.args.self.now.multipliers c.args.self.now.total k) [
  | inl before ↦ c.loop-line.invariant k before
  | inr at ↦
      let is : k ≡ c.loop-line.line = omega (arith, below, at) in
      subst (IsStillAt c.args.problem.now c.args.self.now.marks c.args.self.now.multipliers c.args.self.now.total) (sym is) c.in_default.ensures.none
]
