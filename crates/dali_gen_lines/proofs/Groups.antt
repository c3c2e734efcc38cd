use Rattle.std.proofs.Common.{◌≡◌, ◌∙◌, ℕ, ◌+◌, ◌*◌, ◌^◌, ◌<◌, ◌≤◌, true, List, [], ◌∷◌, ◌++◌, length, map, refl, ap, subst, sym, arith}
use Rattle.std.proofs.lemmas.List.FromFn.{get_or-map-range_with_len}
use Rattle.std.specs.List.{list_all, flat_map, range_with_len}
use Rattle.std.specs.Prelude.{decimal, codes, slice_index}
use Rattle.dali_base.specs.Spelling.{two_digits}
use Rattle.dali_base.specs.declared.kind.Kind.{Kind}
use Rattle.dali_base.specs.declared.kind.Kind.TheVariants.{Dvp, Fop, Pay}
use Rattle.dali_base.proofs.Spelled.{both}
use Rattle.dali_gen.specs.Draws.{state_after, drawn}
use Rattle.dali_gen.specs.Instructions.{account_name, code_name, drawn_from, id_of, word_of, terms_of, fields_of, after_commas}
use Rattle.dali_gen.specs.Day.{IsDayNumber, price, prices, instruction, instruction_line, cycle_line, hour_of, group_size, group_lines, all_group_lines}
use Rattle.dali_gen.specs.declared.instruction.Instruction.{Instruction}
use Rattle.dali_gen.proofs.Prices.{price_listed}
use Rattle.dali_gen_lines.specs.Plain.{is_plain}
use Rattle.dali_gen_lines.proofs.Pieces.{Piece, piece_more, piece_append, piece_comma, piece_text, piece_decimal, piece_two, piece_account, piece_code, line_plain, some_append, list_all-append, all_in_range}

-- its numbers are short
record IsShort (i : Instruction) : Type 0 where
  number : i.number < 10 ^ 16
  quantity : i.quantity < 10 ^ 16
  amount : i.amount < 10 ^ 16

product_small : (q p : ℕ) → q ≤ 500 → p ≤ 10000 → q * p < 10 ^ 16
product_small q p few low = grind arith

drawn_short : (ps : List ℕ) (s number : ℕ) → number < 10 ^ 16 → slice_index ps (drawn 4 s 30) ≤ 10000 → IsShort (drawn_from ps s number)
unfolding drawn_from
drawn_short ps s number small low = record {
  number = small;
  quantity = omega arith;
  amount = product_small (1 + drawn 5 s 500) (slice_index ps (drawn 4 s 30)) (omega arith) low;
}

price_low : (n code : ℕ) → price n code ≤ 10000
price_low n code = omega arith

listed_low : (n code : ℕ) → code < 30 → slice_index (prices n) code ≤ 10000
listed_low n code few = subst (λ p. p ≤ 10000) (sym (price_listed n code few)) (price_low n code)

short_at : (n place : ℕ) → place < 10 ^ 15 → IsShort (instruction n place)
short_at n place small =
    drawn_short (prices n) (state_after (30 + 5 * place) n) (place + 1) (omega (arith, small)) (listed_low n (drawn 4 (state_after (30 + 5 * place) n) 30) (omega arith))

word_piece : (k : Kind) → Piece 3 (word_of k)
word_piece Dvp = piece_text (codes "DVP") refl
word_piece Fop = piece_text (codes "FOP") refl
word_piece Pay = piece_text (codes "PAY") refl

holding_piece : (i : Instruction) → IsShort i → (rest : List ℕ) → Piece 17 rest → Piece 38 ((44 ∷ code_name i.code) ++ ((44 ∷ decimal i.quantity) ++ rest))
holding_piece i short rest p =
    piece_append 4 34 (44 ∷ code_name i.code) ((44 ∷ decimal i.quantity) ++ rest) (piece_comma 3 (code_name i.code) (piece_code i.code))
    (piece_append 17 17 (44 ∷ decimal i.quantity) rest (piece_comma 16 (decimal i.quantity) (piece_decimal i.quantity short.quantity)) p)

nothing : Piece 17 []
nothing = record { bytes = refl; short = omega arith }

amount_piece : (i : Instruction) → IsShort i → Piece 17 ((44 ∷ decimal i.amount) ++ [])
amount_piece i short = piece_append 17 0 (44 ∷ decimal i.amount) [] (piece_comma 16 (decimal i.amount) (piece_decimal i.amount short.amount)) (record { bytes = refl; short = omega arith })

terms_piece : (k : Kind) (i : Instruction) → IsShort i → Piece 38 (after_commas (terms_of k i))
terms_piece Dvp i short = holding_piece i short ((44 ∷ decimal i.amount) ++ []) (amount_piece i short)
terms_piece Fop i short = holding_piece i short [] nothing
terms_piece Pay i short = piece_more 17 38 ((44 ∷ decimal i.amount) ++ []) (omega arith) (amount_piece i short)

id_piece : (i : Instruction) → IsShort i → Piece 17 (id_of i.number)
id_piece i short = piece_append 1 16 (codes "T") (decimal i.number) (piece_text (codes "T") refl) (piece_decimal i.number short.number)

fields_piece : (i : Instruction) → IsShort i → Piece 68 (after_commas (fields_of i))
fields_piece i short =
    piece_append 4 64 (44 ∷ word_of i.kind) _ (piece_comma 3 (word_of i.kind) (word_piece i.kind))
    (piece_append 18 46 (44 ∷ id_of i.number) _ (piece_comma 17 (id_of i.number) (id_piece i short))
    (piece_append 4 42 (44 ∷ account_name i.giver) _ (piece_comma 3 (account_name i.giver) (piece_account i.giver))
    (piece_append 4 38 (44 ∷ account_name i.taker) (after_commas (terms_of i.kind i)) (piece_comma 3 (account_name i.taker) (piece_account i.taker))
    (terms_piece i.kind i short))))

moment_some : (hour : ℕ) → 0 < length (two_digits hour)
moment_some hour = omega arith

line_of_plain : (hour : ℕ) (i : Instruction) → IsShort i → is_plain (two_digits hour ++ codes "0000" ++ after_commas (fields_of i)) ≡ true
line_of_plain hour i short =
    line_plain 74 (two_digits hour ++ codes "0000" ++ after_commas (fields_of i)) (omega arith)
    (some_append (two_digits hour ++ codes "0000") (after_commas (fields_of i)) (some_append (two_digits hour) (codes "0000") (moment_some hour)))
    (piece_append 6 68 (two_digits hour ++ codes "0000") (after_commas (fields_of i))
    (piece_append 2 4 (two_digits hour) (codes "0000") (piece_two hour) (piece_text (codes "0000") refl))
    (fields_piece i short))

cycle_plain : (hour : ℕ) → is_plain (cycle_line hour) ≡ true
cycle_plain hour =
    line_plain 15 (cycle_line hour) (omega arith) (some_append (two_digits hour) (codes "3000,CYCLE,40") (moment_some hour))
    (piece_append 2 13 (two_digits hour) (codes "3000,CYCLE,40") (piece_two hour) (piece_text (codes "3000,CYCLE,40") refl))

few_places : (n group k : ℕ) → n ≤ 64 → group < 4 → k < group_size n * group + group_size n → k < 10 ^ 15
few_places n group k small few within =
    let most : n * group ≤ 64 * 4 = grind arith in
    omega (arith, most, within, small)

group_plain : (n group : ℕ) → n ≤ 64 → group < 4 → list_all is_plain (group_lines n group) ≡ true
unfolding group_lines
group_plain n group small few =
    list_all-append is_plain (map (instruction_line n (hour_of group)) (range_with_len (group_size n * group) (group_size n))) (cycle_line (hour_of group) ∷ [])
    (all_in_range (instruction_line n (hour_of group)) (group_size n * group) (group_size n)
    (λ k low high. line_of_plain (hour_of group) (instruction n k) (short_at n k (few_places n group k small few high))))
    (both (is_plain (cycle_line (hour_of group))) true (cycle_plain (hour_of group)) refl)

pub groups_plain : (n : ℕ) → n ≤ 64 → list_all is_plain (all_group_lines n) ≡ true
unfolding all_group_lines
groups_plain n small =
    list_all-append is_plain (group_lines n 0) _ (group_plain n 0 small (omega arith))
    (list_all-append is_plain (group_lines n 1) _ (group_plain n 1 small (omega arith))
    (list_all-append is_plain (group_lines n 2) _ (group_plain n 2 small (omega arith))
    (list_all-append is_plain (group_lines n 3) [] (group_plain n 3 small (omega arith)) refl)))
