use Rattle.std.proofs.Common.{◌≡◌, inl, inr, ◌<◌, ◌≤◌, ◌∙◌, length, set, List, ap, sym, subst, arith}
use Rattle.std.proofs.lemmas.Bool.{cases_lt}
use Rattle.dali_problem.specs.declared.mark.Mark.{Mark}
use Rattle.dali_problem.specs.declared.mark.Mark.TheVariants.{Undecided, Left}
use Rattle.dali_problem.specs.Kept.{Kept}
use Rattle.dali_problem.specs.Partial.{mark}
use Rattle.dali_rest.specs.Room.{IsRoomOf}
use Rattle.dali_rest.specs.Turns.{IsTurn, IsPaid, undecided_count}
use Rattle.dali_rest.proofs.Resting.{turn_step, count_fewer}
use Rattle.dali_rest.proofs.room.Room.take_out.Goals.{then-is_open+then-not-is_paid, else-is_open, else-is_open-via-then-is_open+else-not-is_paid, else-is_open-via-else-is_open}
use Rattle.dali_rest.proofs.room.Room.take_out.Goals as goal

pub loop-place-preserved : goal.loop-place-preserved
loop-place-preserved c =
    let within : c.loop-place.place < length c.args.problem.now.items = omega (arith, c.loop-place-test.true, c.items-place-end.ensures.count) in
    let size : length c.loop-place.self.marks ≡ length c.args.problem.now.items = c.loop-place.invariant.room.of.marks in
    elim c.if-is_open.branch [
      | then-is_open+then-not-is_paid w ↦
          let was : mark c.loop-place.self.marks c.loop-place.place ≡ Undecided = c.is_open.ensures.0 w.if-is_open.true in
          let put : c.if-is_open.self.marks ≡ set c.loop-place.self.marks c.loop-place.place Left = ap (λ (k : Kept). k.marks) w.self-is ∙ w.leave.ensures.marks in
          let less = count_fewer c.loop-place.self.marks c.if-is_open.self.marks c.loop-place.place (length c.args.problem.now.items) put (omega (arith, within, size)) within was in
          record {
            room = subst (IsRoomOf c.args.problem.now) (sym w.self-is) w.leave.ensures.room;
            turn = turn_step c.args.problem.now c.args.self.now.marks c.loop-place.self.marks c.if-is_open.self.marks c.loop-place.place size within was
                (λ paid. (let told = w.is_paid.ensures.1 paid in let not_told = w.if-not-is_paid.true in cc (told, not_told))) put c.loop-place.invariant.turn;
            no_more = omega (arith, less, c.loop-place.invariant.no_more);
            fewer = λ _. omega (arith, less, c.loop-place.invariant.no_more);
            same = λ none. absurd (let told = w.taken-is in cc (told, none));
            paid = λ none. absurd (let told = w.taken-is in cc (told, none));
          }
      | else-is_open w ↦
          let kept : c.if-is_open.self.marks ≡ c.loop-place.self.marks = ap (λ (k : Kept). k.marks) w.self-is in
          record {
            room = subst (IsRoomOf c.args.problem.now) (sym w.self-is) c.loop-place.invariant.room;
            turn = subst (λ (f : List Mark). IsTurn c.args.problem.now c.args.self.now.marks f) (sym kept) c.loop-place.invariant.turn;
            no_more = subst (λ (f : List Mark). undecided_count f (length c.args.problem.now.items) ≤ undecided_count c.args.self.now.marks (length c.args.problem.now.items)) (sym kept) c.loop-place.invariant.no_more;
            fewer = λ told. subst (λ (f : List Mark). undecided_count f (length c.args.problem.now.items) < undecided_count c.args.self.now.marks (length c.args.problem.now.items)) (sym kept)
                (c.loop-place.invariant.fewer (sym w.taken-is ∙ told));
            same = λ none. kept ∙ c.loop-place.invariant.same (sym w.taken-is ∙ none);
            paid = λ none j below undec. elim (cases_lt j c.loop-place.place) as (λ _. IsPaid c.args.problem.now c.args.self.now.marks j) [
              | inl before ↦ c.loop-place.invariant.paid (sym w.taken-is ∙ none) j before undec
              | inr at ↦
                  let is : j ≡ c.loop-place.place = omega (arith, below, at) in
                  let old : c.loop-place.self.marks ≡ c.args.self.now.marks = c.loop-place.invariant.same (sym w.taken-is ∙ none) in
                  let still : mark c.loop-place.self.marks c.loop-place.place ≡ Undecided =
                  ap (λ (f : List Mark). mark f c.loop-place.place) old ∙ ap (mark c.args.self.now.marks) (sym is) ∙ undec in
                  elim w.else-is_open.branch [
                    | else-is_open-via-then-is_open+else-not-is_paid v ↦
                        subst (IsPaid c.args.problem.now c.args.self.now.marks) (sym is)
                        (subst (λ (f : List Mark). IsPaid c.args.problem.now f c.loop-place.place) old (v.is_paid.ensures.0 v.if-not-is_paid.false))
                    | else-is_open-via-else-is_open v ↦ absurd (let told = c.is_open.ensures.1 still in let not_told = v.if-is_open.false in cc (told, not_told))
                  ]
            ];
          }
    ]
