use Rattle.std.proofs.Common.{◌≡◌, ◌+◌, ◌-◌, ◌/◌, ℕ, ℤ, subst, arith}
use Rattle.dali_lagrange.specs.Best.{sum_with, RisesFrom}
use Rattle.dali_lagrange.proofs.Narrowing.{falls_told, rises_with, falls_with, best_of}
use Rattle.dali_lagrange.proofs.kept.Kept.best_within.Goals as goal

pub search-preserved-then-is_rising : goal.search-preserved-then-is_rising
search-preserved-then-is_rising c =
    let was = c.search.invariant.bracket in
    let middle : ℕ = c.search.low + (c.search.high - c.search.low) / 2 in
    record {
      bracket = record {
        order = omega arith;
        within = omega (arith, was.within);
        before = was.before;
        behind = rises_with c.args.problem.now c.args.self.now.marks c.args.self.now.multipliers c.args.line middle
            (c.is_rising.ensures.0 c.if-is_rising.true);
      };
    }

pub search-preserved : goal.search-preserved
search-preserved c =
    let was = c.search.invariant.bracket in
    let middle : ℕ = c.search.low + (c.search.high - c.search.low) / 2 in
    let h : ℕ → ℤ = sum_with c.args.problem.now c.args.self.now.marks c.args.self.now.multipliers c.args.line in
    record {
      bracket = record {
        order = omega arith;
        within = was.within;
        before = falls_with c.args.problem.now c.args.self.now.marks c.args.self.now.multipliers c.args.line middle
            (falls_told (h middle) (h (middle + 1)) c.is_rising.result c.is_rising.ensures.1 c.if-is_rising.false);
        behind = was.behind;
      };
    }

pub returns : goal.returns
returns c =
    let was = c.search.invariant.bracket in
    let met : c.search.high ≡ c.search.low = omega (arith, was.order) in
    best_of c.args.problem.now c.args.self.now.marks c.args.self.now.multipliers c.args.line c.search.low
    (omega (arith, was.order, was.within)) was.before
    (subst (RisesFrom c.args.problem.now c.args.self.now.marks c.args.self.now.multipliers c.args.line) met was.behind)
