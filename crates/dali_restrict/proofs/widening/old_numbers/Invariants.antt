use Rattle.std.proofs.Common.{◌≡◌, map, take}
use Rattle.dali_restrict.specs.Restriction.{old_of}
use Rattle.dali_restrict.proofs.widening.old_numbers.Given as goal

abbrev pub invariant-loop-at : goal.invariant-loop-at
invariant-loop-at l = record {
  so_far : l.old ≡ map (old_of l.numbers) (take l.at-index l.these);
}
