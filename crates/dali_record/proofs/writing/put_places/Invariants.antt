use Rattle.std.proofs.Common.{◌≡◌, ◌++◌, length, take}
use Rattle.std.specs.List.{flat_map}
use Rattle.dali_record.specs.TreeText.{two_bytes}
use Rattle.dali_record.proofs.writing.put_places.Given as goal

abbrev pub invariant-loop-place : goal.invariant-loop-place
invariant-loop-place l = l.out ≡ l.fn.out ++ (two_bytes (length l.places) ++ flat_map two_bytes (take l.place-index l.places))
