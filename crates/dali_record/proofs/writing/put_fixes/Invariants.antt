use Rattle.std.proofs.Common.{◌≡◌, ◌++◌, length, take}
use Rattle.std.specs.List.{flat_map}
use Rattle.dali_record.specs.TreeText.{two_bytes, fix_text}
use Rattle.dali_record.proofs.writing.put_fixes.Given as goal

abbrev pub invariant-loop-fix : goal.invariant-loop-fix
invariant-loop-fix l = l.out ≡ l.fn.out ++ (two_bytes (length l.fixes) ++ flat_map fix_text (take l.fix-index l.fixes))
