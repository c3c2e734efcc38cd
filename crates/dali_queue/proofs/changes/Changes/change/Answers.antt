use Rattle.std.proofs.Common.{◌+ℤ◌, ap, arith}
use Rattle.std.specs.Int.{w64}
use Rattle.std.proofs.lemmas.Int.{ints, to_z-of_z}
use Rattle.dali_queue.proofs.NetLemmas.{fits, changed_pair}
use Rattle.dali_queue.proofs.changes.Changes.change.Goals as goal

pub overflow_add-before : goal.overflow_add-before
overflow_add-before c =
    let before = c.so_far-before.ensures in
    let one = fits c.so_far-before.result (record { low = omega (arith, ints, before, c.requires.room.low); high = omega (arith, ints, before, c.requires.room.high) }) in
    rw (to_z-of_z w64 c.so_far-before.result one, to_z-of_z w64 c.args.delta c.ranges.delta)
    (fits (c.so_far-before.result +ℤ c.args.delta) (record {
      low = omega (arith, ints, before, c.requires.room.low, c.requires.delta.low);
      high = omega (arith, ints, before, c.requires.room.high, c.requires.delta.high);
    }))

pub returns : goal.returns
returns c =
    let before = c.so_far-before.ensures in
    let one = fits c.so_far-before.result (record { low = omega (arith, ints, before, c.requires.room.low); high = omega (arith, ints, before, c.requires.room.high) }) in
    let two = fits (c.so_far-before.result +ℤ c.args.delta) (record {
      low = omega (arith, ints, before, c.requires.room.low, c.requires.delta.low);
      high = omega (arith, ints, before, c.requires.room.high, c.requires.delta.high);
    }) in
    changed_pair c.args.self.now.deltas c.insert.new.self (c.args.account, c.args.asset) c.args.delta _
    (rw (to_z-of_z w64 c.so_far-before.result one, to_z-of_z w64 c.args.delta c.ranges.delta, to_z-of_z w64 (c.so_far-before.result +ℤ c.args.delta) two) (ap (λ z. z +ℤ c.args.delta) before))
    c.in_ok-insert.ensures.updates.0
