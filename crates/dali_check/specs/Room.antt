use Rattle.std.specs.Prelude.{◌≡◌, ◌≢◌, ℕ, ◌<◌, List, length, slice_index}
use Rattle.std.specs.List.{All}
use Rattle.dali_problem.specs.declared.mark.Mark.{Mark}
use Rattle.dali_problem.specs.declared.mark.Mark.TheVariants.{Stranger, Undecided, Chosen, Left}
use Rattle.dali_problem.specs.Clearing.{Clearing}
use Rattle.dali_problem.specs.Partial.{mark, is_undecided, is_chosen}
use Rattle.dali_problem.specs.Kept.{Kept, IsOf}
use Rattle.dali_rest.specs.Room.{IsRoomOf}
use Rattle.dali_lagrange.specs.KeptSum.{KeptSum, IsSumOf}
use Rattle.dali_lagrange.specs.Multipliers.{multiplier}

-- what a scratch has ready between two calls
pub record ScratchState : Type 0 where
  pub partial : Kept
  pub kept : KeptSum
  pub sums : ℕ
  pub tests : Kept
  pub places : ℕ
  pub lines : ℕ

-- kept sums for this problem, in which each place is a member
pub record IsReady (p : Clearing) (kept : KeptSum) : Type 0 where
  pub of : IsSumOf p kept
  pub members : All (λ m. m ≢ Stranger) kept.marks

-- it was made for this problem: nothing is chosen or undecided, and there is one of each for each place or line
pub record IsFor (p : Clearing) (scratch : ScratchState) : Type 0 where
  pub of : IsOf p scratch.partial
  pub idle : All (λ m. m ≡ Left) scratch.partial.marks
  pub kept : IsReady p scratch.kept
  pub sums : scratch.sums ≡ length p.lines
  pub tests : IsRoomOf p scratch.tests
  pub places : scratch.places ≡ length p.items
  pub lines : scratch.lines ≡ length p.lines

-- kept sums stand for a partial choice at multipliers; what is a stranger there may be left here
pub record IsSumFor (p : Clearing) (lam : List (ℕ × ℕ)) (f : List Mark) (kept : KeptSum) : Type 0 where
  pub of : IsSumOf p kept
  pub size : length f ≡ length p.items
  pub undecided : (j : ℕ) → is_undecided (mark f j) ≡ is_undecided (mark kept.marks j)
  pub chosen : (j : ℕ) → is_chosen (mark f j) ≡ is_chosen (mark kept.marks j)
  pub multipliers : (l : ℕ) → l < length p.lines → slice_index kept.multipliers l ≡ multiplier lam l

-- a mark of a member: a stranger is left
abbrev pub as_member : Mark → Mark
as_member Stranger = Left
as_member Undecided = Undecided
as_member Chosen = Chosen
as_member Left = Left
