use Rattle.std.specs.Prelude.{◌≡◌, ◌≢◌, ℕ, ℤ, ◌+ℤ◌, Bool, true, false, List, length, slice_index_or}
use Rattle.std.specs.List.{Contains}
use Rattle.dali_problem.specs.declared.mark.Mark.{Mark}
use Rattle.dali_problem.specs.declared.mark.Mark.TheVariants.{Stranger, Undecided, Chosen, Left}
use Rattle.dali_problem.specs.Sums.{sum_below, pick}
use Rattle.dali_problem.specs.Clearing.{Clearing, balance, effect}

-- a partial choice is a mark for each place; past the last one stand strangers
abbrev pub mark : List Mark → ℕ → Mark
mark f j = slice_index_or f j Stranger

abbrev pub is_undecided : Mark → Bool
is_undecided Undecided = true
is_undecided Stranger = false
is_undecided Chosen = false
is_undecided Left = false

abbrev pub is_chosen : Mark → Bool
is_chosen Chosen = true
is_chosen Stranger = false
is_chosen Undecided = false
is_chosen Left = false

-- a set agrees where it consists of members, has each chosen one and has no left one
pub record Agrees (f : List Mark) (t : List ℕ) : Type 0 where
  pub members : (j : ℕ) → Contains t j → mark f j ≢ Stranger
  pub chosen : (j : ℕ) → mark f j ≡ Chosen → Contains t j
  pub left : (j : ℕ) → Contains t j → mark f j ≢ Left

-- line l after the chosen ones
abbrev pub held : Clearing → List Mark → ℕ → ℤ
held p f l = balance p l +ℤ sum_below (λ j. pick (is_chosen (mark f j)) (effect p j l)) (length p.items)

abbrev pub is_decided : Mark → Bool
is_decided Chosen = true
is_decided Left = true
is_decided Stranger = false
is_decided Undecided = false
