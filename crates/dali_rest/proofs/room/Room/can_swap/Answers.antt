use Rattle.std.proofs.Common.{◌≡◌, ℕ, ◌<◌, ◌∙◌, length, get_or, ap, sym, subst, refl, List, arith, length-set}
use Rattle.std.specs.List.{All}
use Rattle.dali_problem.specs.declared.mark.Mark.{Mark}
use Rattle.dali_problem.specs.declared.mark.Mark.TheVariants.{Left}
use Rattle.dali_problem.specs.Kept.{Kept}
use Rattle.dali_rest.specs.Room.{IsRoomOf, AreMarksOf}
use Rattle.dali_rest.specs.Swappable.{CanSwap}
use Rattle.dali_rest.proofs.Standing.{stands_covered, swaps, swapped, none_more, none_at, listed_at}
use Rattle.dali_rest.proofs.room.Room.can_swap.Goals.{else-is_chosen-via-then-is_chosen+else-has_better, else-is_chosen-via-else-is_chosen}
use Rattle.dali_rest.proofs.room.Room.can_swap.Goals as goal

pub has_better-requires-clause-covered : goal.has_better-requires-clause-covered
has_better-requires-clause-covered c = stands_covered c.args.problem.now c.args.set.now c.loop-given.self.marks c.requires.places c.requires.feasible c.loop-given.invariant.stands

pub returns-then-has_better-clause-answer : goal.returns-then-has_better-clause-answer
returns-then-has_better-clause-answer c =
    let listed : List ℕ = c.as_slice-listed.result.now in
    let inside : All (λ j. j < length c.args.problem.now.items) listed = subst (All (λ j. j < length c.args.problem.now.items)) (sym c.as_slice-listed.ensures) c.requires.members.in_range in
    let given : ℕ = get_or listed c.loop-given.given-index 0 in (
      λ _. subst (CanSwap c.args.problem.now c.args.set.now) c.as_slice-listed.ensures
          (swaps c.args.problem.now c.args.set.now listed c.loop-given.self.marks given c.requires.places c.loop-given.invariant.stands c.loop-given.invariant.room.of.marks
          (length-set {A = Mark} c.loop-given.self.marks given Left ∙ c.loop-given.invariant.room.of.marks) (inside c.loop-given.given-index 0 c.loop-given-test.true) inside
          (listed_at listed c.loop-given.given-index c.loop-given-test.true) (c.is_chosen.ensures.0 c.if-is_chosen.true) (c.has_better.ensures.answer.0 c.if-has_better.true)),
      λ _. refl,
    )

pub loop-given-preserved : goal.loop-given-preserved
loop-given-preserved c = elim c.else-is_chosen.branch [
  | else-is_chosen-via-then-is_chosen+else-has_better w ↦
      let same : c.else-is_chosen.self.marks ≡ c.loop-given.self.marks = ap (λ (k : Kept). k.marks) w.self-is ∙ w.has_better.ensures.same in
      record {
        room = subst (IsRoomOf c.args.problem.now) (sym w.self-is) w.has_better.ensures.room;
        stands = subst (AreMarksOf (length c.args.problem.now.items) c.args.set.now) (sym same) c.loop-given.invariant.stands;
        none = none_more c.args.problem.now c.loop-given.self.marks c.else-is_chosen.self.marks c.as_slice-listed.result.now c.loop-given.given-index same c.loop-given.invariant.none
            (λ chosen better. (let told = w.has_better.ensures.answer.1 better in let not_told = w.if-has_better.false in cc (told, not_told)));
      }
  | else-is_chosen-via-else-is_chosen w ↦
      let same : c.else-is_chosen.self.marks ≡ c.loop-given.self.marks = ap (λ (k : Kept). k.marks) w.self-is in
      record {
        room = subst (IsRoomOf c.args.problem.now) (sym w.self-is) c.loop-given.invariant.room;
        stands = subst (AreMarksOf (length c.args.problem.now.items) c.args.set.now) (sym same) c.loop-given.invariant.stands;
        none = none_more c.args.problem.now c.loop-given.self.marks c.else-is_chosen.self.marks c.as_slice-listed.result.now c.loop-given.given-index same c.loop-given.invariant.none
            (λ chosen better. (let told = c.is_chosen.ensures.1 chosen in let not_told = w.if-is_chosen.false in cc (told, not_told)));
      }
]

pub returns-clause-answer : goal.returns-clause-answer
returns-clause-answer c =
    let listed : List ℕ = c.as_slice-listed.result.now in
    let all : c.loop-given.given-index ≡ length listed = omega arith in
    let inside : All (λ j. j < length c.args.problem.now.items) listed = subst (All (λ j. j < length c.args.problem.now.items)) (sym c.as_slice-listed.ensures) c.requires.members.in_range in (
      λ told. absurd (cc told),
      λ found. absurd (
          let can : CanSwap c.args.problem.now c.args.set.now listed = subst (CanSwap c.args.problem.now c.args.set.now) (sym c.as_slice-listed.ensures) found in
          none_at c.args.problem.now c.loop-given.self.marks listed can.given (λ k below. c.loop-given.invariant.none k (omega (arith, all, below))) can.given_member
          (c.loop-given.invariant.stands.chosen can.given can.given_in)
          (swapped c.args.problem.now c.args.set.now listed c.loop-given.self.marks c.requires.places c.loop-given.invariant.stands c.loop-given.invariant.room.of.marks inside can
          (length-set {A = Mark} c.loop-given.self.marks can.given Left ∙ c.loop-given.invariant.room.of.marks))),
    )
