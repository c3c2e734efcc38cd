use Rattle.std.proofs.Common.{take}
use Rattle.dali_restrict.specs.Restriction.{IsAdding}
use Rattle.dali_restrict.proofs.restriction.add_items.Given as goal

abbrev pub invariant-loop-place : goal.invariant-loop-place
invariant-loop-place l = record {
  adding : IsAdding l.problem l.initial.inner.lines l.lines (take l.place-index l.members) l.inner;
}
