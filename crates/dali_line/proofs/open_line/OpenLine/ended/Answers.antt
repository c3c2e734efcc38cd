use Rattle.std.proofs.Common.{◌≡◌, ◌∙◌, ◌<◌, length, true, sym, ap, subst, arith}
use Rattle.std.proofs.lemmas.Bool.Decides.{nat_tests}
use Rattle.std.specs.Str.Lines.{strip_carriage_return}
use Rattle.dali_line.specs.Line.{is_line}
use Rattle.dali_line.proofs.Ends.{ended_is_line}
use Rattle.dali_line.proofs.open_line.OpenLine.ended.Goals as goal

pub returns-clause-command : goal.returns-clause-command
returns-clause-command c =
    let line : c.without_return-line.result.now ≡ strip_carriage_return c.self.inside.kept.items = c.without_return-line.ensures ∙ ap strip_carriage_return c.as_slice.ensures.value in
    let some : 0 < length c.without_return-line.result.now = grind (arith, nat_tests, c.if-is_empty.false, c.is_empty.ensures) in
    subst (λ bytes. is_line bytes ≡ true) (sym line)
    (ended_is_line c.self.inside.kept.items c.self.invariant.one c.self.invariant.plain c.self.invariant.short (subst (λ bytes. 0 < length bytes) line some))
