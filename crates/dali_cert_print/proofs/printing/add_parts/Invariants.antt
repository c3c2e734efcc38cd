use Rattle.std.proofs.Common.{◌≡◌, ◌++◌, take}
use Rattle.std.specs.List.{flat_map}
use Rattle.dali_cert_print.specs.Rows.{rows_text}
use Rattle.dali_cert_print.specs.Block.{part_rows}
use Rattle.dali_cert_print.proofs.printing.add_parts.Given as goal

abbrev pub invariant-loop-part : goal.invariant-loop-part
invariant-loop-part l = l.text ≡ l.initial.text ++ flat_map (λ part. rows_text (part_rows part)) (take l.part-index l.parts)
