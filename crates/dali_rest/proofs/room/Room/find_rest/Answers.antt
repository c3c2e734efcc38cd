use Rattle.std.proofs.Common.{ℕ, length, List, subst}
use Rattle.dali_rest.specs.Room.{AreMarksOf, undecided_below}
use Rattle.dali_rest.specs.Sets.{outside}
use Rattle.dali_rest.specs.Turns.{IsOpened}
use Rattle.dali_rest.proofs.Resting.{turn_both}
use Rattle.dali_rest.proofs.Rests.{rest_set, rest_is}
use Rattle.dali_rest.proofs.Onlys.{one_rest}
use Rattle.dali_rest.proofs.room.Room.find_rest.Goals as goal

pub loop-preserved : goal.loop-preserved
loop-preserved c = record {
  room = c.take_out.ensures.room;
  turn = turn_both c.args.problem.now c.open_members.new.self.marks c.loop.self.marks c.take_out.new.self.marks c.loop.invariant.turn c.take_out.ensures.turn;
}

pub returns-clause-set : goal.returns-clause-set
returns-clause-set c =
    let stands : AreMarksOf (length c.args.problem.now.items) c.args.set.now c.stand.new.self.marks =
    subst (λ (s : List ℕ). AreMarksOf (length c.args.problem.now.items) s c.stand.new.self.marks) c.as_slice.ensures c.stand.ensures.stands in
    λ j. rest_set c.args.problem.now c.args.set.now c.as_slice-2.result.now c.stand.new.self.marks c.open_members.new.self.marks c.take_out.new.self.marks j stands
    c.open_members.ensures.opened (turn_both c.args.problem.now c.open_members.new.self.marks c.loop.self.marks c.take_out.new.self.marks c.loop.invariant.turn c.take_out.ensures.turn)
    c.take_out.ensures.room.of.marks

pub returns-clause-rest : goal.returns-clause-rest
returns-clause-rest c =
    let stands : AreMarksOf (length c.args.problem.now.items) c.args.set.now c.stand.new.self.marks =
    subst (λ (s : List ℕ). AreMarksOf (length c.args.problem.now.items) s c.stand.new.self.marks) c.as_slice.ensures c.stand.ensures.stands in
    let opened : IsOpened c.stand.new.self.marks c.open_members.new.self.marks c.args.members.now =
    subst (λ (s : List ℕ). IsOpened c.stand.new.self.marks c.open_members.new.self.marks s) c.as_slice-2.ensures c.open_members.ensures.opened in
    rest_is c.args.problem.now c.args.set.now c.args.members.now c.stand.new.self.marks c.open_members.new.self.marks c.take_out.new.self.marks c.requires.places stands opened
    (turn_both c.args.problem.now c.open_members.new.self.marks c.loop.self.marks c.take_out.new.self.marks c.loop.invariant.turn c.take_out.ensures.turn)
    (c.take_out.ensures.paid c.loop-test.false)

pub returns-clause-only : goal.returns-clause-only
returns-clause-only c r is =
    let stands : AreMarksOf (length c.args.problem.now.items) c.args.set.now c.stand.new.self.marks =
    subst (λ (s : List ℕ). AreMarksOf (length c.args.problem.now.items) s c.stand.new.self.marks) c.as_slice.ensures c.stand.ensures.stands in
    let opened : IsOpened c.stand.new.self.marks c.open_members.new.self.marks c.args.members.now =
    subst (λ (s : List ℕ). IsOpened c.stand.new.self.marks c.open_members.new.self.marks s) c.as_slice-2.ensures c.open_members.ensures.opened in
    one_rest c.args.problem.now c.args.set.now (outside c.args.members.now c.args.set.now) r
    (undecided_below c.take_out.new.self.marks (length c.args.problem.now.items)) is
    (rest_is c.args.problem.now c.args.set.now c.args.members.now c.stand.new.self.marks c.open_members.new.self.marks c.take_out.new.self.marks c.requires.places stands opened
    (turn_both c.args.problem.now c.open_members.new.self.marks c.loop.self.marks c.take_out.new.self.marks c.loop.invariant.turn c.take_out.ensures.turn)
    (c.take_out.ensures.paid c.loop-test.false))
