use Rattle.std.proofs.Common.{◌≡◌, ◌<◌, ◌≤◌, length, true, sym, subst, arith}
use Rattle.std.proofs.lemmas.Bool.Decides.{nat_tests}
use Rattle.dali_line.specs.Line.{is_line}
use Rattle.dali_line.proofs.Ends.{raw_is_line}
use Rattle.dali_line.proofs.open_line.OpenLine.last.Goals as goal

pub returns-clause-command : goal.returns-clause-command
returns-clause-command c short =
    let some : 0 < length c.self.inside.kept.items = grind (arith, nat_tests, c.if-is_empty.false, c.is_empty.ensures) in
    subst (λ bytes. is_line bytes ≡ true) (sym c.as_slice.ensures.value)
    (raw_is_line c.self.inside.kept.items c.self.invariant.one c.self.invariant.plain (subst (λ bytes. length bytes ≤ 200) c.as_slice.ensures.value short) some)
