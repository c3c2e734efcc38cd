use Rattle.std.proofs.Common.{◌≡◌, ◌++◌, take}
use Rattle.std.specs.List.{flat_map}
use Rattle.dali_cert_print.specs.declared.row.Row.TheVariants as rows
use Rattle.dali_cert_print.specs.Rows.{row_text}
use Rattle.dali_cert_print.proofs.printing.add_fixes.Given as goal

abbrev pub invariant-loop-fix : goal.invariant-loop-fix
invariant-loop-fix l = l.text ≡ l.initial.text ++ flat_map (λ f. row_text (rows.Fix f)) (take l.fix-index l.fixes)
