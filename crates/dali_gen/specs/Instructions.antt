use Rattle.std.specs.Prelude.{ℕ, ◌+◌, ◌-◌, ◌*◌, ◌%◌, ◌<◌, ◌==◌, if◌then◌else◌, List, [], ◌∷◌, ◌++◌, codes, decimal, slice_index}
use Rattle.std.specs.List.{flat_map}
use Rattle.dali_base.specs.Spelling.{two_digits}
use Rattle.dali_base.specs.declared.kind.Kind.{Kind}
use Rattle.dali_base.specs.declared.kind.Kind.TheVariants.{Dvp, Fop, Pay}
use Rattle.dali_gen.specs.Limits.{account_count, code_count}
use Rattle.dali_gen.specs.Draws.{drawn}
use Rattle.dali_gen.specs.declared.instruction.Instruction.{Instruction}

-- the account of a number from 0 to 11: A01 to A12
abbrev pub account_name : ℕ → List ℕ
account_name account = codes "A" ++ two_digits (account + 1)

-- the code of a number from 0 to 29: I01 to I30
abbrev pub code_name : ℕ → List ℕ
code_name code = codes "I" ++ two_digits (code + 1)

-- the kind of a draw of 3
abbrev pub kind_of : ℕ → Kind
kind_of draw = if draw == 0 then Dvp else (if draw == 1 then Fop else Pay)

-- the taker is one of the eleven accounts behind the giver, which go round
abbrev pub taker_of : ℕ → ℕ → ℕ
taker_of giver step = (giver + 1 + step) % account_count

-- The instruction of a number that is drawn from the state s. Its draws are those of the kind, the giver, the step from
-- there to the taker, the code and the quantity. Its amount is the quantity times the price of its code.
unfoldable pub drawn_from : List ℕ → ℕ → ℕ → Instruction
drawn_from prices s number =
    let giver = drawn 2 s account_count in
    let code = drawn 4 s code_count in
    let quantity = 1 + drawn 5 s 500 in
    record {
      number = number;
      kind = kind_of (drawn 1 s 3);
      giver = giver;
      taker = taker_of giver (drawn 3 s (account_count - 1));
      code = code;
      quantity = quantity;
      amount = quantity * slice_index prices code;
    }

-- the instruction names accounts and a code of the day
pub record IsListed (i : Instruction) : Type 0 where
  pub giver : i.giver < account_count
  pub taker : i.taker < account_count
  pub code : i.code < code_count

-- the id of an instruction: T and its number
abbrev pub id_of : ℕ → List ℕ
id_of number = codes "T" ++ decimal number

-- the word of a kind
abbrev pub word_of : Kind → List ℕ
word_of Dvp = codes "DVP"
word_of Fop = codes "FOP"
word_of Pay = codes "PAY"

-- what an instruction of the kind says behind its giver and its taker
abbrev pub terms_of : Kind → Instruction → List (List ℕ)
terms_of Dvp i = code_name i.code ∷ decimal i.quantity ∷ decimal i.amount ∷ []
terms_of Fop i = code_name i.code ∷ decimal i.quantity ∷ []
terms_of Pay i = decimal i.amount ∷ []

-- the fields of an instruction's line behind its moment
abbrev pub fields_of : Instruction → List (List ℕ)
fields_of i = word_of i.kind ∷ id_of i.number ∷ account_name i.giver ∷ account_name i.taker ∷ terms_of i.kind i

-- each field behind a comma
abbrev pub after_commas : List (List ℕ) → List ℕ
after_commas fields = flat_map (λ field. 44 ∷ field) fields
