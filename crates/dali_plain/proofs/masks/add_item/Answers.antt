use Rattle.std.proofs.Common.{◌≡◌, ◌∙◌, ◌+ℤ◌, ◌<◌, pos, List, length, take, get_or, ap, sym, subst, arith}
use Rattle.std.proofs.lemmas.Int.{ints}
use Rattle.std.proofs.lemmas.List.{take_all}
use Rattle.dali_problem.specs.declared.row.Effect.{Effect}
use Rattle.dali_problem.specs.Sums.{sum_over}
use Rattle.dali_problem.specs.Clearing.{item_at, on_line}
use Rattle.dali_problem.proofs.Lines.{item_limits, part_small}
use Rattle.dali_problem.proofs.SumLaws.{sum_over_more}
use Rattle.dali_plain.proofs.masks.add_item.Goals as goal

pub add_effect-requires : goal.add_effect-requires
add_effect-requires c =
    let p = c.args.problem.now in
    let part = part_small (length p.lines) c.args.line c.loop-effect.effect-index (item_at p c.args.place).effects
    (item_limits p c.args.place c.effects-effect-items.ensures.bounds c.requires.place).effects in
    let is = c.loop-effect.invariant.exact in
    record {
      low = omega (arith, ints, part.low, c.requires.room.low, is);
      high = omega (arith, ints, part.high, c.requires.room.high, is);
    }

pub loop-effect-preserved : goal.loop-effect-preserved
loop-effect-preserved c =
    let p = c.args.problem.now in
    let d : Effect = record { line = 0; amount = pos 0 } in
    let es : List Effect = (item_at p c.args.place).effects in
    let same = c.effects-effect-items.ensures.effects in
    let within = subst (λ (xs : List Effect). c.loop-effect.effect-index < length xs) same c.loop-effect-test.true in
    let read : on_line c.args.line (get_or c.effects-effect-items.result.now c.loop-effect.effect-index d) ≡ on_line c.args.line (get_or es c.loop-effect.effect-index d) =
    ap (λ (xs : List Effect). on_line c.args.line (get_or xs c.loop-effect.effect-index d)) same in
    let more = sum_over_more (on_line c.args.line) es c.loop-effect.effect-index d within in
    record { exact = omega (arith, ints, more, read, c.add_effect.ensures, c.loop-effect.invariant.exact) }

pub returns : goal.returns
returns c =
    let p = c.args.problem.now in
    let es : List Effect = (item_at p c.args.place).effects in
    let size : length es ≡ length c.effects-effect-items.result.now = ap (λ (xs : List Effect). length xs) (sym c.effects-effect-items.ensures.effects) in
    let all : take c.loop-effect.effect-index es ≡ es = take_all c.loop-effect.effect-index es (omega (arith, size, c.loop-effect-test.false)) in
    c.loop-effect.invariant.exact ∙ ap (λ (xs : List Effect). c.args.total.now +ℤ sum_over (on_line c.args.line) xs) all
