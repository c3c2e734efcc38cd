use Rattle.std.specs.Prelude.{◌≡◌, ℕ, ◌≤◌, ◌*◌, ◌&&◌, ℤ, pos, ◌+ℤ◌, ◌-ℤ◌, Bool, true, false, List, [], ◌∷◌}
use Rattle.dali_base.specs.Limits.{most_quantity, most_rank}
use Rattle.dali_base.specs.declared.kind.Kind.{Kind}
use Rattle.dali_base.specs.declared.kind.Kind.TheVariants.{Dvp, Fop, Pay}
use Rattle.dali_base.specs.Readers.{same_bytes}
use Rattle.dali_account.specs.Units.{PairKey}
use Rattle.dali_account.specs.Book.{cash}
use Rattle.dali_problem.specs.Sums.{pick}
use Rattle.dali_queue.specs.declared.instruction.Instruction.{Instruction}

-- z at the pair (account, asset), and 0 at every other pair
abbrev pub at_pair : List ℕ → List ℕ → ℤ → PairKey → ℤ
at_pair account asset z pair = pick (same_bytes account pair.0 && same_bytes asset pair.1) z

-- n units of an asset go from a giver to a taker: what the pair receives less what it gives
unfoldable pub moved : ℕ → List ℕ → List ℕ → List ℕ → PairKey → ℤ
moved n asset giver taker pair = at_pair taker asset (pos n) pair -ℤ at_pair giver asset (pos n) pair

-- the effect of an instruction on a pair: its quantity of its code goes from giver to taker, and its cash the other way.
-- Only a delivery against payment has cash beside its quantity; the code of a payment is cash itself
unfoldable pub effect : Instruction → PairKey → ℤ
effect i pair = moved i.quantity i.code i.giver i.taker pair +ℤ moved i.cash cash i.taker i.giver pair

-- the pairs that an instruction may change
abbrev pub changed_pairs : Instruction → List PairKey
changed_pairs i = (i.giver, i.code) ∷ (i.taker, i.code) ∷ (i.giver, cash) ∷ (i.taker, cash) ∷ []

-- what a cycle counts an instruction for: its value times its rank
abbrev pub weight : Instruction → ℕ
weight i = i.value * i.rank

-- a quantity, an amount of cash or a value
pub record IsAmount (n : ℕ) : Type 0 where
  pub from_one : 1 ≤ n
  pub to_most : n ≤ most_quantity

abbrev pub is_payment : Kind → Bool
is_payment Dvp = false
is_payment Fop = false
is_payment Pay = true

-- the cash beside the quantity
abbrev pub IsCash : Kind → ℕ → Type 0
IsCash Dvp n = IsAmount n
IsCash Fop n = n ≡ 0
IsCash Pay n = n ≡ 0

-- the bounds of an instruction
pub record IsInstruction (i : Instruction) : Type 0 where
  pub parties : same_bytes i.giver i.taker ≡ false
  pub code : same_bytes i.code cash ≡ is_payment i.kind
  pub quantity : IsAmount i.quantity
  pub cash : IsCash i.kind i.cash
  pub value : IsAmount i.value
  pub rank_low : 1 ≤ i.rank
  pub rank_high : i.rank ≤ most_rank
