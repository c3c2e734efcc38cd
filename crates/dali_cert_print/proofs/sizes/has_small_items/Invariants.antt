use Rattle.std.proofs.Common.{◌≡◌, true, take}
use Rattle.std.specs.List.{list_all}
use Rattle.dali_cert_print.specs.Block.{is_small_item}
use Rattle.dali_cert_print.proofs.sizes.has_small_items.Given as goal

abbrev pub invariant-loop-place : goal.invariant-loop-place
invariant-loop-place l = list_all is_small_item (take l.place l.problem.items) ≡ true
