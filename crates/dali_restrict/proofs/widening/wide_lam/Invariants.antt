use Rattle.std.proofs.Common.{◌≡◌, take}
use Rattle.dali_restrict.specs.Widened.{wide_lam}
use Rattle.dali_restrict.proofs.widening.wide_lam.Given as goal

abbrev pub invariant-loop-line : goal.invariant-loop-line
invariant-loop-line l = record {
  so_far : l.wide ≡ wide_lam l.lines (take l.line-index l.lam);
}
