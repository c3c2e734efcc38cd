use Rattle.std.proofs.Common.{◌<◌, ℕ, length, get_or, arith}
use Rattle.dali_rest.proofs.Marks.{more_chosen}
use Rattle.dali_greedy.proofs.stand.Stand.become_set.Goals as goal

pub loop-chosen-preserved : goal.loop-chosen-preserved
loop-chosen-preserved c =
    let place : ℕ = get_or c.args.places.now c.loop-chosen.chosen-index 0 in
    let inside : place < length c.args.problem.now.items = c.requires.places c.loop-chosen.chosen-index 0 c.loop-chosen-test.true in
    record {
      of = c.put.ensures.of;
      stands = more_chosen (length c.args.problem.now.items) c.args.places.now c.loop-chosen.self.marks c.put.new.self.marks c.loop-chosen.chosen-index c.loop-chosen-test.true
          (omega (arith, inside, c.loop-chosen.invariant.of.marks)) c.put.ensures.marks c.loop-chosen.invariant.stands;
    }
