use Rattle.std.proofs.Common.{◌≡◌, ◌∙◌, ◌<◌, ℕ, true, length, get_or, set, refl, arith}
use Rattle.std.proofs.lemmas.List.{length-set}
use Rattle.dali_restrict.specs.Restriction.{old_of}
use Rattle.dali_parts.proofs.Steps.{chosen_more}
use Rattle.dali_parts.proofs.solving.choose.Goals as goal

pub loop-number-preserved : goal.loop-number-preserved
loop-number-preserved c =
    let i : ℕ = c.loop-number.number-index in
    let n : ℕ = get_or c.args.numbers.now i 0 in
    let inside : old_of c.args.members.now n < length c.loop-number.chosen =
    omega (arith, c.requires.members n 0 (c.requires.numbers i 0 c.loop-number-test.true), c.loop-number.invariant.size) in
    record {
      so_far = chosen_more c.args.members.now c.args.numbers.now i c.args.chosen.now c.loop-number.chosen (set c.loop-number.chosen (old_of c.args.members.now n) true)
          c.loop-number-test.true inside refl c.loop-number.invariant.so_far;
      size = length-set c.loop-number.chosen (old_of c.args.members.now n) true ∙ c.loop-number.invariant.size;
    }
