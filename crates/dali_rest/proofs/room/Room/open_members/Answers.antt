use Rattle.std.proofs.Common.{◌<◌, ℕ, ◌∙◌, length, get_or, ap, sym, subst, arith}
use Rattle.dali_problem.specs.Kept.{Kept}
use Rattle.dali_rest.specs.Room.{IsRoomOf}
use Rattle.dali_rest.proofs.Rests.{open_more, open_none}
use Rattle.dali_rest.proofs.room.Room.open_members.Goals.{then-is_left, else-is_left}
use Rattle.dali_rest.proofs.room.Room.open_members.Goals as goal

pub loop-place-preserved : goal.loop-place-preserved
loop-place-preserved c =
    let place : ℕ = get_or c.args.members.now c.loop-place.place-index 0 in
    let inside : place < length c.args.problem.now.items = c.requires.members c.loop-place.place-index 0 c.loop-place-test.true in
    elim c.if-is_left.branch [
      | then-is_left w ↦ record {
        room = subst (IsRoomOf c.args.problem.now) (sym w.self-is) w.open.ensures.room;
        opened = open_more c.args.self.now.marks c.loop-place.self.marks c.if-is_left.self.marks c.args.members.now c.loop-place.place-index c.loop-place-test.true
            (omega (arith, inside, c.loop-place.invariant.room.of.marks)) (c.is_left.ensures.0 w.if-is_left.true)
            (ap (λ (k : Kept). k.marks) w.self-is ∙ w.open.ensures.marks) c.loop-place.invariant.opened;
      }
      | else-is_left w ↦ record {
        room = subst (IsRoomOf c.args.problem.now) (sym w.self-is) c.loop-place.invariant.room;
        opened = open_none c.args.self.now.marks c.loop-place.self.marks c.if-is_left.self.marks c.args.members.now c.loop-place.place-index c.loop-place-test.true
            (λ left. (let told = c.is_left.ensures.1 left in let not_told = w.if-is_left.false in cc (told, not_told)))
            (ap (λ (k : Kept). k.marks) w.self-is) c.loop-place.invariant.opened;
      }
    ]
