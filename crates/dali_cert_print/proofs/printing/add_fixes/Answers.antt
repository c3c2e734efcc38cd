use Rattle.dali_tree.specs.declared.fix.Fix.{Fix}
use Rattle.dali_cert_print.specs.declared.row.Row.TheVariants as rows
use Rattle.dali_cert_print.proofs.Printed.{texts_told}
use Rattle.dali_cert_print.proofs.printing.add_fixes.Goals as goal

pub returns : goal.returns
returns c = texts_told (λ (f : Fix). rows.Fix f) c.args.fixes.now c.loop-fix.fix-index c.loop-fix.text c.args.text.now (c.loop-fix-test.false) c.loop-fix.invariant
