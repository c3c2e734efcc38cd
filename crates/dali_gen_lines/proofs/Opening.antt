use Rattle.std.proofs.Common.{◌≡◌, ℕ, ◌+◌, ◌*◌, ◌%◌, ◌^◌, ◌<◌, true, ◌++◌, length, refl, arith}
use Rattle.std.specs.List.{list_all}
use Rattle.std.specs.Prelude.{decimal, codes}
use Rattle.dali_gen.specs.Instructions.{account_name, code_name}
use Rattle.dali_gen.specs.Day.{price, part_line, inst_line, cash_line, holding_line, part_lines, inst_lines, cash_lines, holding_lines}
use Rattle.dali_gen_lines.specs.Plain.{is_plain}
use Rattle.dali_gen_lines.proofs.Pieces.{Piece, piece_append, piece_text, piece_decimal, piece_account, piece_code, line_plain, some_append, all_in_range}

part_plain : (account : ℕ) → is_plain (part_line account) ≡ true
part_plain account =
    line_plain 15 (part_line account) (omega arith) (some_append (codes "080000,PART,") (account_name account) (omega arith))
    (piece_append 12 3 (codes "080000,PART,") (account_name account) (piece_text (codes "080000,PART,") refl) (piece_account account))

pub parts_plain : list_all is_plain part_lines ≡ true
unfolding part_lines
parts_plain = all_in_range part_line 0 12 (λ k low high. part_plain k)

price_small : (n code : ℕ) → price n code < 10 ^ 16
price_small n code = omega arith

inst_plain : (n code : ℕ) → is_plain (inst_line n code) ≡ true
inst_plain n code =
    let first = piece_append 12 3 (codes "080000,INST,") (code_name code) (piece_text (codes "080000,INST,") refl) (piece_code code) in
    let second = piece_append 15 1 (codes "080000,INST," ++ code_name code) (codes ",") first (piece_text (codes ",") refl) in
    line_plain 32 (inst_line n code) (omega arith)
    (some_append (codes "080000,INST," ++ code_name code ++ codes ",") (decimal (price n code))
    (some_append (codes "080000,INST," ++ code_name code) (codes ",") (some_append (codes "080000,INST,") (code_name code) (omega arith))))
    (piece_append 16 16 (codes "080000,INST," ++ code_name code ++ codes ",") (decimal (price n code)) second (piece_decimal (price n code) (price_small n code)))

pub insts_plain : (n : ℕ) → list_all is_plain (inst_lines n) ≡ true
unfolding inst_lines
insts_plain n = all_in_range (inst_line n) 0 30 (λ k low high. inst_plain n k)

cash_plain : (account : ℕ) → is_plain (cash_line account) ≡ true
cash_plain account =
    line_plain 28 (cash_line account) (omega arith)
    (some_append (codes "080000,ISSUE," ++ account_name account) (codes ",MXN,1000000") (some_append (codes "080000,ISSUE,") (account_name account) (omega arith)))
    (piece_append 16 12 (codes "080000,ISSUE," ++ account_name account) (codes ",MXN,1000000")
    (piece_append 13 3 (codes "080000,ISSUE,") (account_name account) (piece_text (codes "080000,ISSUE,") refl) (piece_account account))
    (piece_text (codes ",MXN,1000000") refl))

pub all_cash_plain : list_all is_plain cash_lines ≡ true
unfolding cash_lines
all_cash_plain = all_in_range cash_line 0 12 (λ k low high. cash_plain k)

holding_plain : (code : ℕ) → is_plain (holding_line code) ≡ true
holding_plain code =
    let account = account_name (code % 12) in
    let first = piece_append 13 3 (codes "080000,ISSUE,") (account_name (code % 12)) (piece_text (codes "080000,ISSUE,") refl) (piece_account (code % 12)) in
    let second = piece_append 16 1 (codes "080000,ISSUE," ++ account_name (code % 12)) (codes ",") first (piece_text (codes ",") refl) in
    let third = piece_append 17 3 (codes "080000,ISSUE," ++ account_name (code % 12) ++ codes ",") (code_name code) second (piece_code code) in
    line_plain 25 (holding_line code) (omega arith)
    (some_append (codes "080000,ISSUE," ++ account_name (code % 12) ++ codes "," ++ code_name code) (codes ",1000")
    (some_append (codes "080000,ISSUE," ++ account_name (code % 12) ++ codes ",") (code_name code)
    (some_append (codes "080000,ISSUE," ++ account_name (code % 12)) (codes ",") (some_append (codes "080000,ISSUE,") (account_name (code % 12)) (omega arith)))))
    (piece_append 20 5 (codes "080000,ISSUE," ++ account_name (code % 12) ++ codes "," ++ code_name code) (codes ",1000") third (piece_text (codes ",1000") refl))

pub holdings_plain : list_all is_plain holding_lines ≡ true
unfolding holding_lines
holdings_plain = all_in_range holding_line 0 30 (λ k low high. holding_plain k)
