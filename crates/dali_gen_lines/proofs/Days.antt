use Rattle.std.proofs.Common.{◌≡◌, ◌∙◌, ℕ, ◌≤◌, true, List, [], ◌∷◌, ◌++◌, drop, refl, sym, ap, arith}
use Rattle.std.specs.List.{list_all}
use Rattle.std.specs.Prelude.{codes}
use Rattle.dali_line.specs.Commands.{commands}
use Rattle.dali_gen.specs.Day.{IsDayNumber, text_of, part_lines, inst_lines, cash_lines, holding_lines, all_group_lines, day_lines, generated}
use Rattle.dali_gen_lines.specs.Plain.{is_plain}
use Rattle.dali_gen_lines.specs.DayLines.{IsAtLine}
use Rattle.dali_gen_lines.proofs.Pieces.{list_all-append}
use Rattle.dali_gen_lines.proofs.Opening.{parts_plain, insts_plain, all_cash_plain, holdings_plain}
use Rattle.dali_gen_lines.proofs.Groups.{groups_plain}
use Rattle.dali_gen_lines.proofs.Texts.{commands_text}

-- each line of the day is plain
pub day_plain : (n : ℕ) → IsDayNumber n → list_all is_plain (day_lines n) ≡ true
unfolding day_lines
day_plain n number =
    list_all-append is_plain (part_lines ++ inst_lines n ++ cash_lines ++ holding_lines ++ all_group_lines n) (codes "140000,CLOSE" ∷ [])
    (list_all-append is_plain (part_lines ++ inst_lines n ++ cash_lines ++ holding_lines) (all_group_lines n)
    (list_all-append is_plain (part_lines ++ inst_lines n ++ cash_lines) holding_lines
    (list_all-append is_plain (part_lines ++ inst_lines n) cash_lines
    (list_all-append is_plain part_lines (inst_lines n) parts_plain (insts_plain n))
    all_cash_plain)
    holdings_plain)
    (groups_plain n number.most))
    refl

-- so they are the commands of its text
pub day_commands : (n : ℕ) → IsDayNumber n → commands (generated n) ≡ day_lines n
unfolding generated
day_commands n number = commands_text (day_lines n) (day_plain n number)

pub day_text : (n : ℕ) → generated n ≡ text_of (day_lines n)
unfolding generated
day_text n = refl

-- the day at its start
pub day_start : (n : ℕ) (day : List ℕ) → IsDayNumber n → day ≡ generated n → IsAtLine (record { day = day; at = 0 })
unfolding generated
day_start n day number is =
    let left : commands day ≡ day_lines n = ap commands is ∙ day_commands n number in
    record {
      within = omega arith;
      rest = is ∙ ap text_of (sym left);
      plain = ap (list_all is_plain) left ∙ day_plain n number;
    }
