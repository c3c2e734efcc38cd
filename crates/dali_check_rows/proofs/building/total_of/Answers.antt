use Rattle.std.proofs.Common.{◌≡◌, ℕ, ◌+◌, ◌<◌, take, sum_by, length, ap, sym, ◌∙◌, arith}
use Rattle.std.proofs.lemmas.List.{take_all}
use Rattle.std.proofs.lemmas.List.Sums.{sum_by_more, sum_by-take-le}
use Rattle.dali_problem.specs.Clearing.{Item, no_item}
use Rattle.dali_check_rows.proofs.building.total_of.Goals as goal

abbrev value : Item → ℕ
value item = item.value

pub overflow_add-total : goal.overflow_add-total
overflow_add-total c =
    let items = c.args.problem.now.items in
    let within : c.loop-place.place < length items = omega (arith, c.loop-place-test.true, c.items-place-end.ensures.count) in
    let more = sum_by_more value items c.loop-place.place no_item within in
    let most = sum_by-take-le value items (c.loop-place.place + 1) in
    omega (arith, more, most, c.loop-place.invariant.sum, c.value-total.ensures.value, c.value-total.ensures.bounds.total)

pub loop-place-preserved : goal.loop-place-preserved
loop-place-preserved c =
    let items = c.args.problem.now.items in
    let within : c.loop-place.place < length items = omega (arith, c.loop-place-test.true, c.items-place-end.ensures.count) in
    let more = sum_by_more value items c.loop-place.place no_item within in
    record { sum = omega (arith, more, c.loop-place.invariant.sum, c.value-total.ensures.value) }

pub returns : goal.returns
returns c =
    let items = c.args.problem.now.items in
    c.loop-place.invariant.sum ∙ ap (sum_by value) (take_all c.loop-place.place items (omega (arith, c.loop-place-test.false, c.items-place-end.ensures.count)))
