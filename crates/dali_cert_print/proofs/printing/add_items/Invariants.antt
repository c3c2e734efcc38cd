use Rattle.std.proofs.Common.{◌≡◌, ◌++◌, take}
use Rattle.std.specs.List.{flat_map}
use Rattle.dali_cert_print.specs.Rows.{row_text}
use Rattle.dali_cert_print.specs.Block.{item_row}
use Rattle.dali_cert_print.proofs.printing.add_items.Given as goal

abbrev pub invariant-loop-place : goal.invariant-loop-place
invariant-loop-place l = l.text ≡ l.initial.text ++ flat_map (λ item. row_text (item_row item)) (take l.place l.problem.items)
