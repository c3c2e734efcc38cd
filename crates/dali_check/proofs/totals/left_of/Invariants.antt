use Rattle.std.proofs.Common.{◌≡◌, ◌+◌, take}
use Rattle.dali_check.specs.Parts.{branchings_of}
use Rattle.dali_check.proofs.totals.left_of.Given as goal

abbrev pub invariant-loop-part : goal.invariant-loop-part
invariant-loop-part l = record { spent : l.left + branchings_of (take l.part-index l.parts) ≡ l.budget }
