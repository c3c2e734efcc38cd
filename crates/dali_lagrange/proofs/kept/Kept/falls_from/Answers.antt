use Rattle.std.proofs.Common.{ℕ, ◌+◌, ℤ}
use Rattle.std.proofs.lemmas.Bool.{not-true, not-false}
use Rattle.dali_lagrange.specs.Best.{sum_with}
use Rattle.dali_lagrange.proofs.Narrowing.{falls_told, rises_with, falls_with}
use Rattle.dali_lagrange.proofs.kept.Kept.falls_from.Goals as goal

pub returns-clause-falls : goal.returns-clause-falls
returns-clause-falls c = λ told.
    let h : ℕ → ℤ = sum_with c.args.problem.now c.args.self.now.marks c.args.self.now.multipliers c.args.line in
    falls_with c.args.problem.now c.args.self.now.marks c.args.self.now.multipliers c.args.line c.args.at
    (falls_told (h c.args.at) (h (c.args.at + 1)) c.is_rising.result c.is_rising.ensures.1 (not-true c.is_rising.result told))

pub returns-clause-rises : goal.returns-clause-rises
returns-clause-rises c = λ told.
    rises_with c.args.problem.now c.args.self.now.marks c.args.self.now.multipliers c.args.line c.args.at (c.is_rising.ensures.0 (not-false c.is_rising.result told))
