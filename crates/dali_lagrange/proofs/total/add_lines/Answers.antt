use Rattle.std.proofs.Common.{◌≡◌, ◌+◌, ◌^◌, ◌≤◌, pos, ◌+ℤ◌, ◌*ℤ◌, get_or, ap, ◌∙◌, arith}
use Rattle.std.proofs.lemmas.Int.{ints}
use Rattle.std.proofs.Math.IntN.{pos-*ℤ-pos}
use Rattle.dali_problem.specs.declared.row.LineRow.{LineRow}
use Rattle.dali_problem.specs.Sums.{sum_below}
use Rattle.dali_problem.specs.Clearing.{balance}
use Rattle.dali_problem.proofs.SumLaws.{sum_below_more}
use Rattle.dali_problem.proofs.Lines.{balance_small}
use Rattle.dali_lagrange.proofs.Sizes.{product_small, natural_small}
use Rattle.dali_lagrange.proofs.total.add_lines.Goals as goal

pub add_scaled-requires-clause-amount : goal.add_scaled-requires-clause-amount
add_scaled-requires-clause-amount c =
    let small = balance_small c.args.problem.now c.loop-line.line c.line.ensures.bounds in
    let row : pos c.line.result.now.balance ≡ balance c.args.problem.now c.loop-line.line =
    ap (λ (row : LineRow). pos row.balance) c.line.ensures.row in
    omega (arith, ints, row, small.1)

pub loop-line-preserved : goal.loop-line-preserved
loop-line-preserved c =
    let more : sum_below (λ k. pos (get_or c.args.point.now k 0) *ℤ balance c.args.problem.now k) (c.loop-line.line + 1)
    ≡ sum_below (λ k. pos (get_or c.args.point.now k 0) *ℤ balance c.args.problem.now k) c.loop-line.line
    +ℤ pos (get_or c.args.point.now c.loop-line.line 0) *ℤ balance c.args.problem.now c.loop-line.line =
    sum_below_more (λ k. pos (get_or c.args.point.now k 0) *ℤ balance c.args.problem.now k) c.loop-line.line in
    let same : pos c.get.result *ℤ pos c.line.result.now.balance
    ≡ pos (get_or c.args.point.now c.loop-line.line 0) *ℤ balance c.args.problem.now c.loop-line.line =
    ap (λ m. pos m *ℤ pos c.line.result.now.balance) c.get.ensures.value
    ∙ ap (λ (row : LineRow). pos (get_or c.args.point.now c.loop-line.line 0) *ℤ pos row.balance) c.line.ensures.row in
    let natural = pos-*ℤ-pos c.get.result c.line.result.now.balance in
    let row : pos c.line.result.now.balance ≡ balance c.args.problem.now c.loop-line.line =
    ap (λ (row : LineRow). pos row.balance) c.line.ensures.row in
    let most = balance_small c.args.problem.now c.loop-line.line c.line.ensures.bounds in
    let balance_most : c.line.result.now.balance ≤ 2 ^ 60 = omega (arith, ints, row, most.1) in
    let small = product_small c.get.result (2 ^ 60) (pos c.line.result.now.balance) c.get.ensures.bounded
    (natural_small (2 ^ 60) c.line.result.now.balance balance_most) in
    record {
      exact = omega (arith, ints, c.add_scaled.ensures, same, more, c.loop-line.invariant.exact);
      low = omega (arith, ints, c.add_scaled.ensures, natural, c.loop-line.invariant.low);
      high = omega (arith, ints, c.add_scaled.ensures, small.high, c.loop-line.invariant.high);
    }
