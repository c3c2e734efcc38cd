use Rattle.std.proofs.Common.{rules, ◌≡◌, ◌<◌, ℕ, length, get_or, arith}
use Rattle.dali_check.proofs.Entering.{all_open}
use Rattle.dali_check.proofs.Stands.{none_strange}
use Rattle.dali_check.proofs.scratch.Scratch.new.Goals as goal

pub leave_all-requires-clause-undecided : goal.leave_all-requires-clause-undecided
leave_all-requires-clause-undecided c =
    all_open c.in_ok-partial.partial.marks c.loop-place.places
    (omega (arith, c.loop-place.invariant.size, c.in_ok-partial.ensures.of.marks, c.items-place-end.ensures.count, c.loop-place-test.false, c.loop-place.auto.place-end))
    (λ k below. c.loop-place.invariant.each k (omega (arith, below, c.in_ok-partial.ensures.of.marks, c.items-place-end.ensures.count, c.loop-place-test.false)))
    c.in_ok-partial.ensures.undecided

pub returns : goal.returns
returns c =
    let kept = c.in_ok-new.field-0 in
    let size : length c.loop-place.places ≡ length kept.marks =
    omega (arith, c.loop-place.invariant.size, c.in_ok-new.ensures.of.marks, c.items-place-end.ensures.count, c.loop-place-test.false, c.loop-place.auto.place-end) in
    let each : (k : ℕ) → k < length kept.marks → get_or c.loop-place.places k 0 ≡ k =
    λ k below. c.loop-place.invariant.each k (omega (arith, below, c.in_ok-new.ensures.of.marks, c.items-place-end.ensures.count, c.loop-place-test.false)) in
    record {
      of = c.leave_all.ensures.of;
      idle = c.leave_all.ensures.left;
      kept = record {
        of = c.in_ok-new.ensures.of;
        members = none_strange kept.marks c.loop-place.places size each (all_open kept.marks c.loop-place.places size each c.in_ok-new.ensures.undecided);
      };
      sums = search rules;
      tests = search rules;
      places = search rules;
      lines = search rules;
    }
