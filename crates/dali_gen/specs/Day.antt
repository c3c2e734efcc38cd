use Rattle.std.specs.Prelude.{ℕ, ◌+◌, ◌*◌, ◌%◌, ◌≤◌, List, [], ◌∷◌, ◌++◌, map, codes, decimal}
use Rattle.std.specs.List.{flat_map, range_with_len}
use Rattle.dali_base.specs.Spelling.{two_digits}
use Rattle.dali_gen.specs.Limits.{most_number, account_count, code_count, group_count, group_share}
use Rattle.dali_gen.specs.Draws.{state_after, drawn}
use Rattle.dali_gen.specs.Instructions.{account_name, code_name, drawn_from, fields_of, after_commas}
use Rattle.dali_gen.specs.declared.instruction.Instruction.{Instruction}

-- The generated day file of a number n from 1 to 64, by its lines. The state of its draws starts at n: the first thirty
-- draws are those of the prices, and each instruction has five more.

-- n is the number of a day
pub record IsDayNumber (n : ℕ) : Type 0 where
  pub least : 1 ≤ n
  pub most : n ≤ most_number

-- lines as text, each ended by LF
abbrev pub text_of : List (List ℕ) → List ℕ
text_of lines = flat_map (λ line. line ++ 10 ∷ []) lines

-- the price of a code, in centavos
abbrev pub price : ℕ → ℕ → ℕ
price n code = 100 * (1 + drawn (code + 1) n 100)

-- the prices of all codes
unfoldable pub prices : ℕ → List ℕ
prices n = map (price n) (range_with_len 0 code_count)

-- the line that opens an account
abbrev pub part_line : ℕ → List ℕ
part_line account = codes "080000,PART," ++ account_name account

-- the line that lists a code
abbrev pub inst_line : ℕ → ℕ → List ℕ
inst_line n code = codes "080000,INST," ++ code_name code ++ codes "," ++ decimal (price n code)

-- the line that gives an account its cash
abbrev pub cash_line : ℕ → List ℕ
cash_line account = codes "080000,ISSUE," ++ account_name account ++ codes ",MXN,1000000"

-- the line that gives the whole of a code to an account; the accounts take turns
abbrev pub holding_line : ℕ → List ℕ
holding_line code = codes "080000,ISSUE," ++ account_name (code % account_count) ++ codes "," ++ code_name code ++ codes ",1000"

-- the lines of all accounts and codes
unfoldable pub part_lines : List (List ℕ)
part_lines = map part_line (range_with_len 0 account_count)

unfoldable pub inst_lines : ℕ → List (List ℕ)
inst_lines n = map (inst_line n) (range_with_len 0 code_count)

unfoldable pub cash_lines : List (List ℕ)
cash_lines = map cash_line (range_with_len 0 account_count)

unfoldable pub holding_lines : List (List ℕ)
holding_lines = map holding_line (range_with_len 0 code_count)

-- the instruction at a place, counted from 0 over all groups; its number is counted from 1
abbrev pub instruction : ℕ → ℕ → Instruction
instruction n place = drawn_from (prices n) (state_after (code_count + 5 * place) n) (place + 1)

-- the line of the instruction at a place, at the moment of an hour
abbrev pub instruction_line : ℕ → ℕ → ℕ → List ℕ
instruction_line n hour place = two_digits hour ++ codes "0000" ++ after_commas (fields_of (instruction n place))

-- the line of the cycle at half past an hour
abbrev pub cycle_line : ℕ → List ℕ
cycle_line hour = two_digits hour ++ codes "3000,CYCLE,40"

-- the hour of a group, counted from 0: nine o'clock for the first
abbrev pub hour_of : ℕ → ℕ
hour_of group = 9 + group

-- the number of instructions in a group
abbrev pub group_size : ℕ → ℕ
group_size n = group_share * n

-- the lines of a group: its instructions and its cycle
unfoldable pub group_lines : ℕ → ℕ → List (List ℕ)
group_lines n group =
    map (instruction_line n (hour_of group)) (range_with_len (group_size n * group) (group_size n)) ++ cycle_line (hour_of group) ∷ []

unfoldable pub all_group_lines : ℕ → List (List ℕ)
all_group_lines n = flat_map (group_lines n) (range_with_len 0 group_count)

-- the lines of the file
unfoldable pub day_lines : ℕ → List (List ℕ)
day_lines n = part_lines ++ inst_lines n ++ cash_lines ++ holding_lines ++ all_group_lines n ++ codes "140000,CLOSE" ∷ []

-- the file
unfoldable pub generated : ℕ → List ℕ
generated n = text_of (day_lines n)
