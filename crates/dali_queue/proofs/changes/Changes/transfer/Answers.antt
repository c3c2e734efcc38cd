use Rattle.std.proofs.Common.{◌≡◌, ◌∙◌, ap, ◌+ℤ◌, arith}
use Rattle.std.proofs.lemmas.Int.{ints}
use Rattle.dali_queue.specs.Changed.{change_of}
use Rattle.dali_queue.specs.Instruction.{at_pair, moved}
use Rattle.dali_queue.proofs.NetLemmas.{read_back, moved_from, moved_none}
use Rattle.dali_queue.proofs.changes.Changes.transfer.Goals as goal

pub returns-in_ok-change-2 : goal.returns-in_ok-change-2
returns-in_ok-change-2 c pair =
    let down = c.minus.ensures in
    let up = c.plus.ensures in
    let few = c.requires.units in
    let down_read = read_back c.minus.result (record { low = omega (arith, ints, down, few); high = omega (arith, ints, down, few) }) in
    let up_read = read_back c.plus.result (record { low = omega (arith, ints, up, few); high = omega (arith, ints, up, few) }) in
    moved_from c.args.units c.args.asset c.args.giver c.args.taker pair (change_of c.args.self.now.deltas pair) (change_of c.change.new.self.deltas pair) (change_of c.change-then-units-gt0.new.self.deltas pair)
    (c.in_ok-change.ensures pair ∙ ap (λ z. change_of c.args.self.now.deltas pair +ℤ at_pair c.args.giver c.args.asset z pair) (down_read ∙ down))
    (c.in_ok-change-2.ensures pair ∙ ap (λ z. change_of c.change.new.self.deltas pair +ℤ at_pair c.args.taker c.args.asset z pair) (up_read ∙ up))

pub returns-else-units-gt0 : goal.returns-else-units-gt0
returns-else-units-gt0 c pair =
    let none : c.args.units ≡ 0 = omega arith in
    let same = ap (λ n. moved n c.args.asset c.args.giver c.args.taker pair) none ∙ moved_none c.args.asset c.args.giver c.args.taker pair in
    omega (arith, ints, same)
