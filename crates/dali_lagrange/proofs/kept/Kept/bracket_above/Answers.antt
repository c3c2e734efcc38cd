use Rattle.std.proofs.Common.{ℕ, ◌+◌, ℤ, arith}
use Rattle.dali_lagrange.specs.Best.{sum_with}
use Rattle.dali_lagrange.proofs.Narrowing.{falls_told, rises_with, falls_with}
use Rattle.dali_lagrange.proofs.kept.Kept.bracket_above.Goals as goal

pub returns-then-is_rising : goal.returns-then-is_rising
returns-then-is_rising c =
    let end : ℕ = c.widen.low + c.widen.reach in
    record {
      order = omega arith;
      within = omega arith;
      before = c.widen.invariant.falls;
      behind = rises_with c.args.problem.now c.args.self.now.marks c.args.self.now.multipliers c.args.line end (c.is_rising.ensures.0 c.if-is_rising.true);
    }

pub widen-preserved : goal.widen-preserved
widen-preserved c =
    let end : ℕ = c.widen.low + c.widen.reach in
    let h : ℕ → ℤ = sum_with c.args.problem.now c.args.self.now.marks c.args.self.now.multipliers c.args.line in
    record {
      within = omega arith;
      falls = falls_with c.args.problem.now c.args.self.now.marks c.args.self.now.multipliers c.args.line end
          (falls_told (h end) (h (end + 1)) c.is_rising.result c.is_rising.ensures.1 c.if-is_rising.false);
    }
