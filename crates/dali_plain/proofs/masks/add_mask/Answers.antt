use Rattle.std.proofs.Common.{ℕ, ℤ, ◌<◌, length, arith}
use Rattle.std.proofs.lemmas.Int.{ints}
use Rattle.dali_problem.specs.Clearing.{effect}
use Rattle.dali_problem.proofs.Lines.{effect_small}
use Rattle.dali_plain.proofs.MaskLaws.{sum_take, sum_pass, sum_none}
use Rattle.dali_plain.proofs.masks.add_mask.Goals.{then-left-eq1, else-left-eq1}
use Rattle.dali_plain.proofs.masks.add_mask.Goals as goal

pub loop-place-preserved : goal.loop-place-preserved
loop-place-preserved c =
    let p = c.args.problem.now in
    let place : ℕ = c.loop-place.place in
    let f : ℕ → ℤ = λ (j : ℕ). effect p j c.args.line in
    let within : place < length p.items = omega (arith, c.loop-place-test.true, c.items-place-end.ensures.count) in
    let size = effect_small p place c.args.line c.items-place-end.ensures.bounds in
    let was = c.loop-place.invariant.small in
    elim c.if-left-eq1.branch [
      | then-left-eq1 w ↦
          let come = sum_take f (length p.items) place c.loop-place.left within w.if-left-eq1.true in
          record {
            whole = omega (arith, ints, come, w.total-is, w.add_item.ensures, c.loop-place.invariant.whole);
            small = record {
              low = omega (arith, ints, size.low, was.low, w.total-is, w.add_item.ensures);
              high = omega (arith, ints, size.high, was.high, w.total-is, w.add_item.ensures);
            };
          }
      | else-left-eq1 w ↦
          let come = sum_pass f (length p.items) place c.loop-place.left within w.if-left-eq1.false in
          record {
            whole = omega (arith, ints, come, w.total-is, c.loop-place.invariant.whole);
            small = record {
              low = omega (arith, ints, was.low, w.total-is);
              high = omega (arith, ints, was.high, w.total-is);
            };
          }
    ]

pub returns-clause-exact : goal.returns-clause-exact
returns-clause-exact c =
    let p = c.args.problem.now in
    let f : ℕ → ℤ = λ (j : ℕ). effect p j c.args.line in
    let none = sum_none f (length p.items) c.loop-place.place c.loop-place.left (omega (arith, c.loop-place-test.false, c.items-place-end.ensures.count)) in
    omega (arith, ints, none, c.loop-place.invariant.whole)
