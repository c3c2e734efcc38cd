use Rattle.std.proofs.Common.{◌≡◌, ◌≤◌, ◌*◌, ◌^◌, take}
use Rattle.dali_check.specs.Parts.{bound_of}
use Rattle.dali_check.proofs.totals.bound_of.Given as goal

abbrev pub invariant-loop-part : goal.invariant-loop-part
invariant-loop-part l = record {
  total : l.total ≡ bound_of (take l.part-index l.parts);
  most : l.total ≤ l.part-index * 2 ^ 64;
}
