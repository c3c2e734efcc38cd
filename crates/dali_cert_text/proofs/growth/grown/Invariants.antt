use Rattle.std.proofs.Common.{◌≡◌, length}
use Rattle.dali_cert_text.specs.Growth.{grown}
use Rattle.dali_cert_text.proofs.growth.grown.Given as goal

abbrev pub invariant-loop-frame : goal.invariant-loop-frame
invariant-loop-frame l = grown l.frames l.tree ≡ grown l.fn.frames l.fn.tree

abbrev pub decreases-loop-frame : goal.decreases-loop-frame
decreases-loop-frame l = length l.frames
