use Rattle.std.proofs.Common.{◌≡◌, map, take}
use Rattle.dali_restrict.specs.Widened.{wide_fix}
use Rattle.dali_restrict.proofs.widening.wide_fixes.Given as goal

abbrev pub invariant-loop-fix : goal.invariant-loop-fix
invariant-loop-fix l = record {
  so_far : l.wide ≡ map (wide_fix l.places l.lines) (take l.fix-index l.fixes);
}
