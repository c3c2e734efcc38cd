use Rattle.std.proofs.Common.{refl, arith}
use Rattle.dali_rest.proofs.Standing.{stands_covered, adds, added}
use Rattle.dali_rest.proofs.room.Room.can_add_one.Goals as goal

pub fits_with-requires-clause-covered : goal.fits_with-requires-clause-covered
fits_with-requires-clause-covered c = stands_covered c.args.problem.now c.args.set.now c.loop-place.self.marks c.requires.places c.requires.feasible c.loop-place.invariant.stands

pub returns-then-fits_with-clause-answer : goal.returns-then-fits_with-clause-answer
returns-then-fits_with-clause-answer c = (
  λ _. adds c.args.problem.now c.args.set.now c.loop-place.self.marks c.loop-place.place c.requires.places c.loop-place.invariant.stands c.loop-place.invariant.room.of.marks
      (omega (arith, c.loop-place-test.true, c.items-place-end.ensures.count)) (c.is_left.ensures.0 c.if-is_left.true) (c.fits_with.ensures.answer.0 c.if-fits_with.true),
  λ _. refl,
)

pub returns-clause-answer : goal.returns-clause-answer
returns-clause-answer c = (
  λ told. absurd (cc told),
  λ can. absurd (c.loop-place.invariant.none can.place (omega (arith, can.in_range, c.loop-place-test.false, c.items-place-end.ensures.count))
      (c.loop-place.invariant.stands.left can.place can.in_range can.outside)
      (added c.args.problem.now c.args.set.now c.loop-place.self.marks c.requires.places c.loop-place.invariant.stands c.loop-place.invariant.room.of.marks can)),
)
