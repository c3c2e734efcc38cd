use Rattle.std.proofs.Common.{◌≡◌, ◌++◌, length, take}
use Rattle.std.specs.List.{flat_map}
use Rattle.dali_record.specs.TreeText.{two_bytes, multiplier_text}
use Rattle.dali_record.proofs.writing.put_multipliers.Given as goal

abbrev pub invariant-loop-multiplier : goal.invariant-loop-multiplier
invariant-loop-multiplier l = l.out ≡ l.fn.out ++ (two_bytes (length l.multipliers) ++ flat_map multiplier_text (take l.multiplier-index l.multipliers))
