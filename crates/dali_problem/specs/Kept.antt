use Rattle.std.specs.Prelude.{◌≡◌, ℕ, ◌<◌, ℤ, pos, ◌+ℤ◌, ◌-ℤ◌, Bool, not, ◌&&◌, ◌||◌, List, length, slice_index_or}
use Rattle.std.specs.List.{Contains}
use Rattle.dali_problem.specs.declared.line_sum.LineSum.{LineSum}
use Rattle.dali_problem.specs.declared.mark.Mark.{Mark}
use Rattle.dali_problem.specs.declared.mark.Mark.TheVariants.{Stranger, Undecided}
use Rattle.dali_problem.specs.Clearing.{Clearing}
use Rattle.dali_problem.specs.Limits.{Within}
use Rattle.std.specs.Int.{int_max, int_min}
use Rattle.dali_problem.specs.Sums.{pick}
use Rattle.dali_problem.specs.Partial.{mark, is_chosen, is_undecided, held}
use Rattle.dali_problem.specs.Rules.{is_negative, credits, debits}
use Rattle.dali_problem.specs.declared.row.Effect.{Effect}

-- a partial choice with three sums kept for each line
pub record Kept : Type 0 where
  pub marks : List Mark
  pub sums : List LineSum

abbrev pub no_sum : LineSum
no_sum = record { held = pos 0; credits = pos 0; debits = pos 0 }

abbrev pub sum_at : List LineSum → ℕ → LineSum
sum_at sums l = slice_index_or sums l no_sum

-- the marks are those of a choice among the items of p, and each sum is what it is from scratch
pub record IsOf (p : Clearing) (k : Kept) : Type 0 where
  pub marks : length k.marks ≡ length p.items
  pub lines : length k.sums ≡ length p.lines
  pub held : (l : ℕ) → l < length p.lines → (sum_at k.sums l).held ≡ held p k.marks l
  pub credits : (l : ℕ) → l < length p.lines → (sum_at k.sums l).credits ≡ credits p k.marks l
  pub debits : (l : ℕ) → l < length p.lines → (sum_at k.sums l).debits ≡ debits p k.marks l

-- all of these places are undecided, and no other is a member
pub record AllUndecided (f : List Mark) (members : List ℕ) : Type 0 where
  pub undecided : (j : ℕ) → Contains members j → mark f j ≡ Undecided
  pub strangers : (j : ℕ) → ¬ (Contains members j) → mark f j ≡ Stranger

-- what follows serves the invariant of `Partial` and the proofs of private functions: no public clause cites it

-- each of the three sums is at most m in size
pub record IsSmall (m : ℕ) (s : LineSum) : Type 0 where
  pub held : Within m s.held
  pub credits : Within m s.credits
  pub debits : Within m s.debits

-- the sums of a line after a place's effect on it goes from one mark to another
abbrev pub moved : LineSum → Mark → Mark → ℤ → LineSum
moved s from to a = record {
  held = s.held +ℤ (pick (is_chosen to) a -ℤ pick (is_chosen from) a);
  credits = s.credits +ℤ (pick (is_undecided to) (int_max (pos 0) a) -ℤ pick (is_undecided from) (int_max (pos 0) a));
  debits = s.debits +ℤ (pick (is_undecided to) (int_min (pos 0) a) -ℤ pick (is_undecided from) (int_min (pos 0) a));
}

-- the line of an effect covers what is undecided, where the effect is a debit
abbrev pub pays : List LineSum → Effect → Bool
pays sums e = not (is_negative e.amount) || not (is_negative ((sum_at sums e.line).held +ℤ (sum_at sums e.line).debits))

-- the line of an effect isn't short with its undecided place chosen, and isn't with it left
abbrev pub bears_chosen : List LineSum → Effect → Bool
bears_chosen sums e =
    not (is_negative ((sum_at sums e.line).held +ℤ (sum_at sums e.line).credits +ℤ int_min (pos 0) e.amount))

abbrev pub bears_left : List LineSum → Effect → Bool
bears_left sums e =
    not (is_negative ((sum_at sums e.line).held +ℤ (sum_at sums e.line).credits -ℤ int_max (pos 0) e.amount))

-- the effect is no debit, or its line bears its undecided place chosen
abbrev pub bears : List LineSum → Effect → Bool
bears sums e = not (is_negative e.amount) || bears_chosen sums e

-- the line of an effect bears its undecided place on either side
abbrev pub is_quiet : List LineSum → Effect → Bool
is_quiet sums e = bears_chosen sums e && bears_left sums e
