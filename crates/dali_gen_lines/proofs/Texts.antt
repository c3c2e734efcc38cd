use Rattle.std.proofs.Common.{◌≡◌, ◌∙◌, true, List, ℕ, [], ◌∷◌, ◌++◌, refl, ap}
use Rattle.std.specs.List.{list_all}
use Rattle.dali_base.proofs.Spelled.{and_parts}
use Rattle.dali_line.specs.Commands.{commands}
use Rattle.dali_gen.specs.Day.{text_of}
use Rattle.dali_gen_lines.specs.Plain.{is_plain}
use Rattle.dali_gen_lines.proofs.Plain.{commands_plain}

-- the commands of the text of plain lines are these lines
pub commands_text : (lines : List (List ℕ)) → list_all is_plain lines ≡ true → commands (text_of lines) ≡ lines
commands_text [] told = refl
commands_text (line ∷ lines) told =
    let parts = and_parts (is_plain line) (list_all is_plain lines) told in
    commands_plain line (text_of lines) parts.0 ∙ ap (λ ls. line ∷ ls) (commands_text lines parts.1)
