use Rattle.std.proofs.Common.{ap, arith}
use Rattle.std.proofs.lemmas.Int.{ints}
use Rattle.dali_queue.specs.Instruction.{moved, effect}
use Rattle.dali_queue.proofs.NetLemmas.{moved_within}
use Rattle.dali_queue.proofs.changes.Changes.add.Goals as goal

pub transfer-requires-2-clause-room : goal.transfer-requires-2-clause-room
transfer-requires-2-clause-room c pair =
    let step = c.in_ok-transfer.ensures pair in
    let before = c.requires.room pair in
    let small = moved_within c.args.item.now.quantity c.args.item.now.code c.args.item.now.giver c.args.item.now.taker pair c.requires.item.quantity.to_most in
    record { low = omega (arith, ints, step, before.low, small.low); high = omega (arith, ints, step, before.high, small.high) }

pub returns : goal.returns
unfolding effect
returns c pair =
    let one = c.in_ok-transfer.ensures pair in
    let two = c.in_ok-transfer-2.ensures pair in
    let same = ap (λ asset. moved c.args.item.now.cash asset c.args.item.now.taker c.args.item.now.giver pair) c.cash_name.ensures in
    omega (arith, ints, one, two, same)
