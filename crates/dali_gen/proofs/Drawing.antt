use Rattle.std.proofs.Common.{◌≡◌, ℕ, ◌+◌, ◌*◌, List}
use Rattle.std.specs.Prelude.{slice_index}
use Rattle.dali_base.specs.declared.kind.Kind.{Kind}
use Rattle.dali_gen.specs.Draws.{drawn}
use Rattle.dali_gen.specs.Instructions.{kind_of, taker_of, drawn_from}
use Rattle.dali_gen.specs.declared.instruction.Instruction.{Instruction}

-- an instruction of these fields is the drawn one
pub made : (prices : List ℕ) (s number : ℕ) (kind : Kind) (giver taker code quantity amount : ℕ) →
    kind ≡ kind_of (drawn 1 s 3) → giver ≡ drawn 2 s 12 → taker ≡ taker_of (drawn 2 s 12) (drawn 3 s 11) → code ≡ drawn 4 s 30 →
    quantity ≡ 1 + drawn 5 s 500 → amount ≡ (1 + drawn 5 s 500) * slice_index prices (drawn 4 s 30) →
    ◌≡◌ {A = Instruction} (record { number = number; kind = kind; giver = giver; taker = taker; code = code; quantity = quantity; amount = amount })
    (drawn_from prices s number)
unfolding drawn_from
made prices s number kind giver taker code quantity amount one two three four five six = cc
