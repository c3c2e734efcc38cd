use Rattle.std.proofs.Common.{◌≡◌, ◌≤◌, drop}
use Rattle.dali_record.specs.Reading.{rises_from}
use Rattle.dali_record.proofs.multipliers.rise.Given as goal

abbrev pub invariant-loop-change : goal.invariant-loop-change
invariant-loop-change l = record {
  rest : rises_from l.from (drop l.change-index l.changes) ≡ rises_from 0 l.changes;
  upto : l.from ≤ 4096;
}
