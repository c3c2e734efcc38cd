use Rattle.std.specs.Prelude.{◌≡◌, ℕ, ◌+◌, ◌==◌, ◌≤◌, ◌⊎◌, Bool, true, false, not, IsTrue, List, [], ◌∷◌, ◌++◌, length}
use Rattle.std.specs.List.{All, AllByRecursion, flat_map, list_all}
use Rattle.dali_base.specs.Limits.{most_budget}
use Rattle.dali_base.specs.Spelling.{is_name}
use Rattle.dali_problem.specs.Limits.{IsProblem}
use Rattle.dali_tree.specs.Fits.{Fits}
use Rattle.dali_cert_text.specs.declared.block.Block.{Block}
use Rattle.dali_cert_print.specs.declared.row.Row.{Row}
use Rattle.dali_cert_print.specs.Rows.{rows_text}
use Rattle.dali_cert_print.specs.Block.{is_wide, block_rows, block_text}

-- a problem, a budget and a choice that have a block
pub record IsBlock (b : Block) : Type 0 where
  pub problem : IsProblem b.problem
  pub names : All (λ line. IsTrue (is_name line.account) × IsTrue (is_name line.asset)) b.problem.lines
  pub ids : All (λ item. IsTrue (is_name item.id)) b.problem.items
  pub budget : b.budget ≤ most_budget
  pub choice : Fits (length b.problem.items) (length b.problem.lines) b.choice

-- the bytes are the block of a problem, a budget and a choice
pub record Spells (bytes : List ℕ) (b : Block) : Type 0 where
  pub block : IsBlock b
  pub text : bytes ≡ block_text b.problem b.budget b.choice

-- a draft is a block, or would be one if it had need of its edition
pub record IsDraft (wide : Bool) (b : Block) : Type 0 where
  pub block : IsBlock b
  pub edition : is_wide b.problem b.choice ≡ true → wide ≡ true

abbrev pub draft_rows : Bool → Block → List Row
draft_rows wide b = block_rows wide b.problem b.budget b.choice

-- the bytes are a draft of edition 2 without need of it, whose last row is row k
pub record IsNeedless (bytes : List ℕ) (k : ℕ) : Type 0 where
  pub draft : Block
  pub block : IsBlock draft
  pub small : is_wide draft.problem draft.choice ≡ false
  pub text : bytes ≡ rows_text (draft_rows true draft)
  pub last : k ≡ length (draft_rows true draft)

-- a line has no LF in it
abbrev pub is_line : List ℕ → Bool
is_line line = list_all (λ b. not (b == 10)) line

abbrev pub IsLine : List ℕ → Type 0
IsLine line = IsTrue (is_line line)

-- lines, each ended by LF
abbrev pub lines_text : List (List ℕ) → List ℕ
lines_text lines = flat_map (λ line. line ++ 10 ∷ []) lines

-- some draft begins with these lines
pub record BeginsDraft (lines : List (List ℕ)) : Type 0 where
  pub wide : Bool
  pub block : Block
  pub draft : IsDraft wide block
  pub more : List ℕ
  pub text : rows_text (draft_rows wide block) ≡ lines_text lines ++ more

-- k is the first number, from 1, such that no draft begins with the first k lines, or there aren't so many
pub record BreaksAt (bytes : List ℕ) (k : ℕ) : Type 0 where
  pub lines : List (List ℕ)
  pub rest : List ℕ
  pub text : bytes ≡ lines_text lines ++ rest
  pub each : AllByRecursion IsLine lines
  pub number : k ≡ length lines + 1
  pub begins : BeginsDraft lines
  pub breaks : (line more : List ℕ) → IsLine line → rest ≡ line ++ 10 ∷ more → BeginsDraft (lines ++ line ∷ []) → ⊥

-- k is the line of FORM of bytes that are no block: of a needless draft the last, else where the bytes break off
abbrev pub IsFormLine : List ℕ → ℕ → Type 0
IsFormLine bytes k =
    IsNeedless bytes k ⊎ (BreaksAt bytes k × ((wide : Bool) (b : Block) → IsDraft wide b → bytes ≡ rows_text (draft_rows wide b) → ⊥))
