use Rattle.std.specs.Prelude.{◌≡◌, ℕ, ◌+◌, Bool, Option, Some, None, option_and_then, List, [], ◌∷◌, ◌++◌, length}
use Rattle.std.specs.List.{AllByRecursion}
use Rattle.dali_problem.specs.Clearing.{Clearing}
use Rattle.dali_problem.specs.Limits.{IsProblem}
use Rattle.dali_tree.specs.declared.fix.Fix.{Fix}
use Rattle.dali_tree.specs.declared.choice.Part.{Part}
use Rattle.dali_cert_text.specs.declared.block.Block.{Block}
use Rattle.dali_cert_print.specs.declared.row.Row.{Row}
use Rattle.dali_cert_text.specs.declared.growth.Frame.{Frame}
use Rattle.dali_cert_text.specs.declared.growth.Growth.{Growth}
use Rattle.dali_cert_text.specs.declared.growth.Growth.TheVariants.{Open, Grown}
use Rattle.dali_cert_text.specs.Form.{IsLine, lines_text}
use Rattle.dali_cert_text.specs.Growth.{grow}
use Rattle.dali_cert_text.specs.Reading.{row_of}
use Rattle.dali_cert_text.specs.Stating.{no_lines, state_row, least_first, part_row, edition_row, budget_row}

-- How far a block was read, for private functions.

-- what stands before the parts
pub record Setting : Type 0 where
  pub wide : Bool
  pub budget : ℕ
  pub problem : Clearing
  pub places : List ℕ

pub data Stage : Type 0 where
  Start : Stage
  Opened : (wide : Bool) → Stage
  Stated : (wide : Bool) (budget : ℕ) (problem : Clearing) → Stage
  Parted : (s : Setting) (parts : List Part) → Stage
  Growing : (s : Setting) (parts : List Part) (bound : ℕ) (members : List ℕ) (above : List Frame) (fixes : List Fix) → Stage
  Whole : (s : Setting) (parts : List Part) → Stage

abbrev pub problem_of : Stage → Clearing
problem_of Start = no_lines
problem_of (Opened wide) = no_lines
problem_of (Stated wide budget problem) = problem
problem_of (Parted s parts) = s.problem
problem_of (Growing s parts bound members above fixes) = s.problem
problem_of (Whole s parts) = s.problem

abbrev pub stated_to : Bool → ℕ → Clearing × Option (List ℕ) → Stage
stated_to wide budget (p, None) = Stated wide budget p
stated_to wide budget (p, Some places) = Parted (record { wide = wide; budget = budget; problem = p; places = places }) []

abbrev pub parted_to : Setting → List Part → Option (ℕ × List ℕ) → Stage
parted_to s parts None = Whole s parts
parted_to s parts (Some x) = Growing s parts x.0 x.1 [] []

abbrev pub grown_to : Setting → List Part → ℕ → List ℕ → Growth → Stage
grown_to s parts bound members (Open above fixes) = Growing s parts bound members above fixes
grown_to s parts bound members (Grown tree) = Parted s (parts ++ record { members = members; bound = bound; tree = tree } ∷ [])

-- the stage behind a row, if the row may come
unfoldable pub step : Stage → Row → Option Stage
step Start row = option_and_then (λ wide. Some (Opened wide)) (edition_row row)
step (Opened wide) row = option_and_then (λ budget. Some (Stated wide budget no_lines)) (budget_row row)
step (Stated wide budget problem) row = option_and_then (λ x. Some (stated_to wide budget x)) (state_row wide problem row)
step (Parted s parts) row = option_and_then (λ x. Some (parted_to s parts x)) (part_row s.wide (least_first 0 parts) row)
step (Growing s parts bound members above fixes) row = option_and_then (λ g. Some (grown_to s parts bound members g)) (grow above fixes row)
step (Whole s parts) row = None

-- the stage behind a line, and behind lines
unfoldable pub next : Stage → List ℕ → Option Stage
next s line = option_and_then (step s) (row_of (length (problem_of s).items) (length (problem_of s).lines) line)

abbrev pub run : Stage → List (List ℕ) → Option Stage
run s [] = Some s
run s (line ∷ lines) = option_and_then (λ t. run t lines) (next s line)

-- a whole block
abbrev pub setting_of : Bool → Block → Setting
setting_of wide b = record { wide = wide; budget = b.budget; problem = b.problem; places = b.choice.places }

abbrev pub whole : Bool → Block → Stage
whole wide b = Whole (setting_of wide b) b.choice.parts

-- the bytes that weren't taken yet, and how many lines were
pub record Unread : Type 0 where
  pub text : List ℕ
  pub taken : ℕ

-- lines were taken that lead from a stage to another
pub record Goes (s : Stage) (old : Unread) (t : Stage) (now : Unread) : Type 0 where
  pub lines : List (List ℕ)
  pub each : AllByRecursion IsLine lines
  pub text : old.text ≡ lines_text lines ++ now.text
  pub led : run s lines ≡ Some t
  pub taken : now.taken ≡ old.taken + length lines

-- line k is the first that doesn't lead on, or the line that isn't there
pub record Stops (s : Stage) (old : Unread) (k : ℕ) : Type 0 where
  pub lines : List (List ℕ)
  pub rest : List ℕ
  pub stage : Stage
  pub each : AllByRecursion IsLine lines
  pub text : old.text ≡ lines_text lines ++ rest
  pub led : run s lines ≡ Some stage
  pub number : k ≡ old.taken + length lines + 1
  pub stuck : (line more : List ℕ) → IsLine line → rest ≡ line ++ 10 ∷ more → next stage line ≡ None
  pub bounds : IsProblem (problem_of stage)
  pub unended : (e : Setting) (parts : List Part) → stage ≡ Whole e parts → rest ≡ [] → ⊥

-- a row was taken
pub record Takes (items lines : ℕ) (row : Row) (old now : Unread) : Type 0 where
  pub line : List ℕ
  pub is : IsLine line
  pub text : old.text ≡ line ++ 10 ∷ now.text
  pub spelt : row_of items lines line ≡ Some row
  pub taken : now.taken ≡ old.taken + 1

-- no row can be taken: there is no line, or it is no row
abbrev pub Lacks : ℕ → ℕ → Unread → Type 0
Lacks items lines old = (line more : List ℕ) → IsLine line → old.text ≡ line ++ 10 ∷ more → row_of items lines line ≡ None
