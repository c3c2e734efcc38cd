use Rattle.std.specs.Prelude.{◌≡◌, ℕ, List, length}
use Rattle.dali_problem.specs.Feasible.{value_of}
use Rattle.dali_cert_text.specs.declared.block.Block.{Block}
use Rattle.dali_cert_text.specs.Form.{Spells, IsFormLine}
use Rattle.dali_check.specs.Parts.{bound_of, branchings_of}
use Rattle.dali_check.specs.Allowed.{Allowed, IsReason}
use Rattle.dali_verdict.specs.declared.verdict.Figures.{Figures}
use Rattle.dali_verdict.specs.declared.verdict.Why.TheVariants as why
use Rattle.dali_verdict.specs.declared.verdict.Verdict.{Verdict}
use Rattle.dali_verdict.specs.declared.verdict.Verdict.TheVariants.{Valid, Invalid}

-- the figures of a block's choice: what its set is worth, how many items it has, the sum of the parts' bounds, and the
-- branchings of all parts
abbrev pub figures_of : Block → Figures
figures_of b = record {
  value = value_of b.problem b.choice.places;
  count = length b.choice.places;
  bound = bound_of b.choice.parts;
  branchings = branchings_of b.choice.parts;
}

-- what is said of a block: it is valid where its choice is allowed, and else the first reason stands
abbrev pub SaysOf : Block → Verdict → Type 0
SaysOf b (Valid figures) = Allowed b.problem b.budget b.choice × (figures ≡ figures_of b)
SaysOf b (Invalid (why.Form line)) = ⊥
SaysOf b (Invalid (why.NotAllowed reason)) = IsReason b.problem b.budget b.choice reason

-- the bytes are a block and no other one, and this is said of it
pub record IsOfBlock (bytes : List ℕ) (verdict : Verdict) : Type 0 where
  pub block : Block
  pub spelled : Spells bytes block
  pub only : (b : Block) → Spells bytes b → block ≡ b
  pub says : SaysOf block verdict

-- the bytes are no block, and this is their line of FORM
pub record IsNoBlock (bytes : List ℕ) (line : ℕ) : Type 0 where
  pub none : (b : Block) → ¬ (Spells bytes b)
  pub line_of_form : IsFormLine bytes line

-- what is to be said of bytes
abbrev pub IsVerdict : List ℕ → Verdict → Type 0
IsVerdict bytes (Valid figures) = IsOfBlock bytes (Valid figures)
IsVerdict bytes (Invalid (why.Form line)) = IsNoBlock bytes line
IsVerdict bytes (Invalid (why.NotAllowed reason)) = IsOfBlock bytes (Invalid (why.NotAllowed reason))
