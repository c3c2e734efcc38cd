use Rattle.std.proofs.Common.{◌≡◌, ◌∙◌, sym, subst, Ok}
use Rattle.std.specs.Str.{IsUtf8}
use Rattle.std.proofs.lemmas.Fmt.{parse-decimal, IsAscii-decimal}
use Rattle.std.proofs.lemmas.Str.{IsUtf8-from_ascii}
use Rattle.dali_base.proofs.number.parse.Goals as goal

pub returns-in-Ok-parse-clause-some : goal.returns-in-Ok-parse-clause-some
returns-in-Ok-parse-clause-some c n small spelled =
    let read : c.parse.result ≡ Ok n =
    parse-decimal 64 n c.in-Ok.text.now c.parse.result small small (c.in-Ok.ensures.cases.0 ∙ spelled) c.parse.ensures.value.0 in
    cc (read, c.in-Ok-parse.is)

pub returns-in-Err-parse-clause-none : goal.returns-in-Err-parse-clause-none
returns-in-Err-parse-clause-none c n small spelled =
    let read : c.parse.result ≡ Ok n =
    parse-decimal 64 n c.in-Ok.text.now c.parse.result small small (c.in-Ok.ensures.cases.0 ∙ spelled) c.parse.ensures.value.0 in
    cc (read, c.in-Err-parse.is)

pub returns-in-Err-clause-none : goal.returns-in-Err-clause-none
returns-in-Err-clause-none c n small spelled =
    c.in-Err.ensures.cases.0 (subst IsUtf8 (sym spelled) (IsUtf8-from_ascii _ (IsAscii-decimal n small)))
