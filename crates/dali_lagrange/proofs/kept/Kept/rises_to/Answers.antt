use Rattle.std.proofs.Common.{◌≡◌, ℕ, ◌+◌, ◌-◌, ℤ, subst, arith}
use Rattle.dali_lagrange.specs.Best.{sum_with, FallsTo}
use Rattle.dali_lagrange.proofs.Narrowing.{falls_told, rises_with, falls_with}
use Rattle.dali_lagrange.proofs.kept.Kept.rises_to.Goals as goal

pub returns-clause-rises : goal.returns-clause-rises
returns-clause-rises c = λ told.
    rises_with c.args.problem.now c.args.self.now.marks c.args.self.now.multipliers c.args.line (c.args.at - 1) (c.is_rising.ensures.0 told)

pub returns-clause-falls : goal.returns-clause-falls
returns-clause-falls c = λ told.
    let h : ℕ → ℤ = sum_with c.args.problem.now c.args.self.now.marks c.args.self.now.multipliers c.args.line in
    let one_less : ℕ = c.args.at - 1 in
    let is : one_less + 1 ≡ c.args.at = omega arith in
    subst (FallsTo c.args.problem.now c.args.self.now.marks c.args.self.now.multipliers c.args.line) is
    (falls_with c.args.problem.now c.args.self.now.marks c.args.self.now.multipliers c.args.line one_less
    (falls_told (h one_less) (h (one_less + 1)) c.is_rising.result c.is_rising.ensures.1 told))
