use Rattle.std.proofs.Common.{◌∙◌, ◌<◌, ℕ, length, get_or, refl, arith, length-set}
use Rattle.dali_problem.specs.declared.mark.Mark.{Mark}
use Rattle.dali_problem.proofs.Opened.{more_undecided}
use Rattle.dali_lagrange.proofs.start.members_of.Goals as goal

pub loop-place-preserved : goal.loop-place-preserved
loop-place-preserved c =
    let place : ℕ = get_or c.args.members.now c.loop-place.place-index 0 in
    let inside : place < length c.args.problem.now.items = c.requires c.loop-place.place-index 0 c.loop-place-test.true in
    record {
      size = length-set {A = Mark} _ _ _ ∙ c.loop-place.invariant.size;
      undecided = more_undecided c.loop-place.marks.items _ c.args.members.now c.loop-place.place-index c.loop-place-test.true
          (omega (arith, inside, c.loop-place.invariant.size)) refl c.loop-place.invariant.undecided;
    }
