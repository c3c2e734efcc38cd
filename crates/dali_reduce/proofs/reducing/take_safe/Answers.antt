use Rattle.std.proofs.Common.{true, leb, arith}
use Rattle.std.proofs.lemmas.Bool.{lt-leb, le-leb}
use Rattle.dali_reduce.proofs.Taken.{goes_none, goes_both}
use Rattle.dali_reduce.proofs.Settling.{settled_first, settled_goes, safe_step, places_done}
use Rattle.dali_reduce.proofs.reducing.take_safe.Goals as goal

pub returns-in_err-take_if_safe-clause-goes : goal.returns-in_err-take_if_safe-clause-goes
returns-in_err-take_if_safe-clause-goes c =
    goes_both c.args.problem.now c.args.partial.now.marks c.loop-place.partial.marks c.take_if_safe.new.partial.marks
    c.args.fixes.now c.loop-place.fixes c.take_if_safe.new.fixes c.loop-place.invariant.goes c.take_if_safe.ensures.goes

pub loop-place-init : goal.loop-place-init
loop-place-init c = record {
  of = c.requires;
  goes = goes_none c.args.problem.now c.args.partial.now.marks c.args.fixes.now;
  settled = settled_first c.args.problem.now c.args.partial.now.marks c.args.fixes.now (λ j. leb 0 j) (λ j. le-leb 0 j (omega arith));
}

pub loop-place-preserved : goal.loop-place-preserved
loop-place-preserved c = record {
  of = c.take_if_safe.ensures.of;
  goes = goes_both c.args.problem.now c.args.partial.now.marks c.loop-place.partial.marks c.take_if_safe.new.partial.marks
      c.args.fixes.now c.loop-place.fixes c.take_if_safe.new.fixes c.loop-place.invariant.goes c.take_if_safe.ensures.goes;
  settled = safe_step c.args.problem.now c.take_if_safe.new.partial.marks c.take_if_safe.new.fixes (λ _. true) c.loop-place.place c.in_ok-take_if_safe.ensures.not_safe
      (settled_goes c.args.problem.now c.loop-place.partial.marks c.take_if_safe.new.partial.marks c.loop-place.fixes c.take_if_safe.new.fixes 0
      (λ _. true) (λ j. leb c.loop-place.place j) c.loop-place.invariant.of.marks c.take_if_safe.ensures.goes (omega arith) c.loop-place.invariant.settled);
}

pub returns-clause-settled : goal.returns-clause-settled
returns-clause-settled c =
    places_done c.args.problem.now c.loop-place.partial.marks c.loop-place.fixes (λ _. true) (λ j. leb c.loop-place.place j)
    (λ j below. lt-leb c.loop-place.place j (omega (arith, below, c.loop-place-test.false, c.items-place-end.ensures.count))) c.loop-place.invariant.settled
