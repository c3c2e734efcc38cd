use Rattle.std.proofs.Common.{◌≡◌, ◌+◌, drop}
use Rattle.dali_check.specs.Parts.{branchings_of}
use Rattle.dali_verdict.proofs.judging.branchings_of.Given as goal

abbrev pub invariant-loop-part : goal.invariant-loop-part
invariant-loop-part l = l.all + branchings_of (drop l.part-index l.parts) ≡ branchings_of l.parts
