use Rattle.dali.proofs.Fronts.{front_step, front_stays}
use Rattle.dali.proofs.streams.print_all.Goals as goal
use Rattle.dali.proofs.streams.print_all.Goals.{in-Ok, in-Err}

pub loop-preserved : goal.loop-preserved
loop-preserved g c =
    let (within, front) = c.loop.invariant in
    elim c.match-write.branch [
      | in-Ok w ↦ front_step _ _ _ _ _ _ _ w.done-is within w.in-Ok.ensures.bound front w.in-Ok.ensures.bytes
      | in-Err w ↦ front_stays _ _ _ _ _ _ w.done-is within front w.in-Err.ensures.bytes
    ]
