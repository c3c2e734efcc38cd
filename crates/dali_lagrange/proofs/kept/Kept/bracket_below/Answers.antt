use Rattle.std.proofs.Common.{ℕ, ◌+◌, ◌-◌, ℤ, arith}
use Rattle.dali_lagrange.specs.Best.{sum_with}
use Rattle.dali_lagrange.proofs.Narrowing.{falls_told, rises_with, falls_with}
use Rattle.dali_lagrange.proofs.kept.Kept.bracket_below.Goals as goal

pub returns-then-not-is_rising : goal.returns-then-not-is_rising
returns-then-not-is_rising c =
    let end : ℕ = c.widen.high - c.widen.reach in
    let h : ℕ → ℤ = sum_with c.args.problem.now c.args.self.now.marks c.args.self.now.multipliers c.args.line in
    record {
      order = omega arith;
      within = c.widen.invariant.within;
      before = falls_with c.args.problem.now c.args.self.now.marks c.args.self.now.multipliers c.args.line end
          (falls_told (h end) (h (end + 1)) c.is_rising.result c.is_rising.ensures.1 c.if-not-is_rising.true);
      behind = c.widen.invariant.rises;
    }

pub widen-preserved : goal.widen-preserved
widen-preserved c =
    let end : ℕ = c.widen.high - c.widen.reach in
    record {
      within = omega arith;
      some = omega arith;
      rises = rises_with c.args.problem.now c.args.self.now.marks c.args.self.now.multipliers c.args.line end (c.is_rising.ensures.0 c.if-not-is_rising.false);
    }
