use Rattle.std.proofs.Common.{pos, refl, get_or}
use Rattle.dali_problem.specs.declared.columns.Touch.{Touch}
use Rattle.dali_reduce.proofs.Taken.{goes_both}
use Rattle.dali_reduce.proofs.Settling.{walk_step}
use Rattle.dali_reduce.proofs.line.walk.Goals as goal

pub returns-in_err-take_at-clause-goes : goal.returns-in_err-take_at-clause-goes
returns-in_err-take_at-clause-goes c =
    goes_both c.args.problem.now c.args.partial.now.marks c.loop-touch.partial.marks c.take_at.new.partial.marks
    c.args.fixes.now c.loop-touch.fixes c.take_at.new.fixes c.loop-touch.invariant.goes c.take_at.ensures.goes

pub loop-touch-preserved : goal.loop-touch-preserved
loop-touch-preserved c =
    let d : Touch = record { place = 0; amount = pos 0 } in
    record {
      of = c.take_at.ensures.of;
      goes = goes_both c.args.problem.now c.args.partial.now.marks c.loop-touch.partial.marks c.take_at.new.partial.marks
          c.args.fixes.now c.loop-touch.fixes c.take_at.new.fixes c.loop-touch.invariant.goes c.take_at.ensures.goes;
      stands = walk_step c.args.problem.now c.args.partial.now.marks c.loop-touch.partial.marks c.take_at.new.partial.marks
          c.args.fixes.now c.loop-touch.fixes c.take_at.new.fixes c.args.line c.loop-touch.touch-index c.args.touches.now d
          (get_or c.args.touches.now c.loop-touch.touch-index d) c.in_ok-take_at.field-0 c.loop-touch-test.true refl
          c.loop-touch.invariant.goes c.take_at.ensures.goes c.loop-touch.invariant.stands c.in_ok-take_at.ensures.taken;
    }
