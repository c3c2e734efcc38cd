use Rattle.std.proofs.Common.{◌≡◌, ◌-◌}
use Rattle.dali_record.specs.Reading.{items_at, multiplier_at}
use Rattle.dali_record.proofs.ReadLoop.{with_front}
use Rattle.dali_record.proofs.reading.many_changes.Given as goal

abbrev pub invariant-loop : goal.invariant-loop
invariant-loop l = with_front l.changes (items_at multiplier_at (l.count - l.counter) l.rest) ≡ items_at multiplier_at l.count l.bytes
