use Rattle.std.proofs.Common.{◌∙◌, ◌<◌, ℕ, List, [], ◌∷◌, refl, sym, ap, subst, arith}
use Rattle.std.specs.Prelude.{length}
use Rattle.dali_line.specs.Commands.{is_command}
use Rattle.dali_line.proofs.Ends.{commands_last, commands_none, first_long}
use Rattle.dali_line.proofs.scan.last.Goals as goal

pub returns-in_default-clause-ok : goal.returns-in_default-clause-ok
returns-in_default-clause-ok c raw stands = commands_none raw stands.one (c.in_default.ensures.none raw stands)

pub returns-then-bytes-gt-MOST_COMMAND-clause-err : goal.returns-then-bytes-gt-MOST_COMMAND-clause-err
returns-then-bytes-gt-MOST_COMMAND-clause-err c raw stands =
    let is = c.in-Some.ensures.some raw stands in (
      refl,
      first_long _ [] raw (commands_last raw stands.one (ap is_command (sym is) ∙ c.in-Some.ensures.begins))
          (subst (λ (bytes : List ℕ). 200 < length bytes) is c.if-bytes-gt-MOST_COMMAND.true),
    )

pub returns-in-Ok-clause-ok : goal.returns-in-Ok-clause-ok
returns-in-Ok-clause-ok c raw stands =
    let is = c.in-Some.ensures.some raw stands in
    commands_last raw stands.one (ap is_command (sym is) ∙ c.in-Some.ensures.begins) ∙ ap (λ line. line ∷ []) (sym is ∙ sym c.in-Ok.ensures)

pub returns-in-Err-clause-err : goal.returns-in-Err-clause-err
returns-in-Err-clause-err c raw stands =
    let is = c.in-Some.ensures.some raw stands in (
      c.in-Some.bytes.now,
      omega (arith, c.if-bytes-gt-MOST_COMMAND.false),
      commands_last raw stands.one (ap is_command (sym is) ∙ c.in-Some.ensures.begins) ∙ ap (λ line. line ∷ []) (sym is),
    )
