use Rattle.std.proofs.Common.{◌<◌, ℕ, length, get_or, arith}
use Rattle.dali_rest.proofs.Marks.{more_chosen}
use Rattle.dali_rest.proofs.room.Room.stand.Goals as goal

pub loop-chosen-preserved : goal.loop-chosen-preserved
loop-chosen-preserved c =
    let place : ℕ = get_or c.args.set.now c.loop-chosen.chosen-index 0 in
    let inside : place < length c.args.problem.now.items = c.requires.set c.loop-chosen.chosen-index 0 c.loop-chosen-test.true in
    record {
      room = c.choose.ensures.room;
      stands = more_chosen (length c.args.problem.now.items) c.args.set.now c.loop-chosen.self.marks c.choose.new.self.marks c.loop-chosen.chosen-index c.loop-chosen-test.true
          (omega (arith, inside, c.loop-chosen.invariant.room.of.marks)) c.choose.ensures.marks c.loop-chosen.invariant.stands;
    }
