use Rattle.std.proofs.Common.{◌+◌, ◌<◌, ◌^◌, sym, subst, arith, take, get_or, sum_by}
use Rattle.dali_problem.specs.Clearing.{worth}
use Rattle.dali_problem.specs.Feasible.{ArePlaces}
use Rattle.dali_problem.proofs.Values.{value_fits}
use Rattle.dali_problem.proofs.problem.Problem.value_of.Goals as goal

pub overflow_add-total : goal.overflow_add-total
overflow_add-total c =
    let places : ArePlaces c.args.self.now c.as_slice-listed.result.now =
    subst (ArePlaces c.args.self.now) (sym c.as_slice-listed.ensures) c.requires in
    let fits : sum_by (worth c.args.self.now) (take c.loop-place.place-index c.as_slice-listed.result.now)
    + worth c.args.self.now (get_or c.as_slice-listed.result.now c.loop-place.place-index 0) < 2 ^ 64 =
    value_fits c.args.self.now c.as_slice-listed.result.now c.loop-place.place-index 0 c.value-total.ensures.bounds places c.loop-place-test.true in
    omega (arith, fits, c.loop-place.invariant, c.value-total.ensures.value)
