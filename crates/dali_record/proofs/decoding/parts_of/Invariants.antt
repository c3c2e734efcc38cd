use Rattle.std.proofs.Common.{◌≡◌, ◌-◌}
use Rattle.dali_record.specs.EntryReading.{parts_at}
use Rattle.dali_record.proofs.ReadLoop.{with_parts}
use Rattle.dali_record.proofs.decoding.parts_of.Given as goal

abbrev pub invariant-loop : goal.invariant-loop
invariant-loop l = with_parts l.parts (parts_at (l.count - l.counter) l.spare l.rest) ≡ parts_at l.count l.left l.bytes
