use Rattle.std.specs.Prelude.{ℕ, List, [], ◌∷◌, ◌++◌, codes, decimal}
use Rattle.dali_waiting.specs.RowText.{row_text}
use Rattle.dali_reply.specs.Reply.{mark_text}
use Rattle.dali_summary.specs.declared.figures.CycleFigures.{CycleFigures}

-- the row of a cycle of which these figures were kept
abbrev pub figures_row : CycleFigures → List ℕ
figures_row f = row_text (codes "CYCLE" ∷ decimal f.command ∷ mark_text f.mark ∷ decimal f.value ∷ decimal f.count ∷ decimal f.bound ∷ decimal f.branchings ∷ [])

-- what it says behind its mark
abbrev pub figures_fields : CycleFigures → List ℕ
figures_fields f = 44 ∷ (decimal f.value ++ 44 ∷ (decimal f.count ++ 44 ∷ (decimal f.bound ++ 44 ∷ decimal f.branchings)))
