use Rattle.std.proofs.Common.{◌≡◌, ◌∙◌, ◌+◌, List, [], ap, sym, subst, arith, map, take, length}
use Rattle.std.proofs.lemmas.List.{length-map, length-take-le, take_all}
use Rattle.dali_account.specs.Units.{PairKey}
use Rattle.dali_problem.specs.declared.row.LineRow.{LineRow}
use Rattle.dali_problem.specs.Clearing.{Clearing, line_at}
use Rattle.dali_problem.specs.Limits.{IsBefore}
use Rattle.dali_queue.specs.CycleProblem.{line_row}
use Rattle.dali_queue.proofs.DraftLemmas.{lines_more, line_after}
use Rattle.dali_queue.proofs.draft.add_lines.Goals as goal

pub add_line-requires-clause-no_items : goal.add_line-requires-clause-no_items
add_line-requires-clause-no_items c = ap (λ (p : Clearing). p.items) c.loop-pair.invariant.so_far

pub add_line-requires-clause-few : goal.add_line-requires-clause-few
add_line-requires-clause-few c =
    let lines : length c.loop-pair.problem.lines ≡ length (map (line_row c.args.book.now.book) (take c.loop-pair.pair-index c.args.pairs.now)) = ap (λ (p : Clearing). length p.lines) c.loop-pair.invariant.so_far in
    omega (arith, lines, length-map (take c.loop-pair.pair-index c.args.pairs.now) (line_row c.args.book.now.book), length-take-le c.loop-pair.pair-index c.args.pairs.now (omega (arith, c.loop-pair-test.true)), c.loop-pair-test.true, c.requires.few)

pub add_line-requires-clause-after : goal.add_line-requires-clause-after
add_line-requires-clause-after c k next =
    let lines : length c.loop-pair.problem.lines ≡ length (map (line_row c.args.book.now.book) (take c.loop-pair.pair-index c.args.pairs.now)) = ap (λ (p : Clearing). length p.lines) c.loop-pair.invariant.so_far in
    let at : k + 1 ≡ c.loop-pair.pair-index =
    omega (arith, next, lines, length-map (take c.loop-pair.pair-index c.args.pairs.now) (line_row c.args.book.now.book), length-take-le c.loop-pair.pair-index c.args.pairs.now (omega (arith, c.loop-pair-test.true))) in
    let row : LineRow = record { account = c.pair-item.result.0; asset = c.pair-item.result.1; balance = c.balance.result } in
    subst (λ (r : LineRow). IsBefore r row) (sym (ap (λ (p : Clearing). line_at p k) c.loop-pair.invariant.so_far))
    (line_after c.args.book.now.book c.args.pairs.now c.loop-pair.pair-index k c.pair-item.result row c.requires.rising c.loop-pair-test.true at
    (ap (λ (p : PairKey). p.0) c.pair-item.is) (ap (λ (p : PairKey). p.1) c.pair-item.is))

pub loop-pair-preserved : goal.loop-pair-preserved
loop-pair-preserved c = record {
  so_far = lines_more c.args.book.now.book c.args.pairs.now c.loop-pair.pair-index c.pair-item.result c.loop-pair.problem c.add_line.new.self
      (record { account = c.pair-item.result.0; asset = c.pair-item.result.1; balance = c.balance.result }) c.loop-pair-test.true c.pair-item.is c.loop-pair.invariant.so_far c.in_ok-add_line.ensures.added
      (ap (λ n. record { account = c.pair-item.result.0; asset = c.pair-item.result.1; balance = n }) c.balance.ensures.balance);
}

pub returns : goal.returns
returns c = c.loop-pair.invariant.so_far ∙ ap (λ (ps : List PairKey). record { lines = map (line_row c.args.book.now.book) ps; items = [] }) (take_all c.loop-pair.pair-index c.args.pairs.now c.loop-pair-test.false)
