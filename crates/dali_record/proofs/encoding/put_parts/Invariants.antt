use Rattle.std.proofs.Common.{◌≡◌, ◌++◌, length, take}
use Rattle.std.specs.List.{flat_map}
use Rattle.dali_record.specs.TreeText.{two_bytes}
use Rattle.dali_record.specs.RecordText.{part_text}
use Rattle.dali_record.proofs.encoding.put_parts.Given as goal

abbrev pub invariant-loop-part : goal.invariant-loop-part
invariant-loop-part l = l.out ≡ l.fn.out ++ (two_bytes (length l.parts) ++ flat_map part_text (take l.part-index l.parts))
