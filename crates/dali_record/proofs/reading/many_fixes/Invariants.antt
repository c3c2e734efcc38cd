use Rattle.std.proofs.Common.{◌≡◌, ◌-◌}
use Rattle.dali_record.specs.Reading.{items_at, fix_at}
use Rattle.dali_record.proofs.ReadLoop.{with_front}
use Rattle.dali_record.proofs.reading.many_fixes.Given as goal

abbrev pub invariant-loop : goal.invariant-loop
invariant-loop l = with_front l.fixes (items_at fix_at (l.count - l.counter) l.rest) ≡ items_at fix_at l.count l.bytes
