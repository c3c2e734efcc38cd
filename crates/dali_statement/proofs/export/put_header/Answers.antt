use Rattle.std.proofs.Common.{[], ◌∷◌, subst}
use Rattle.std.specs.Prelude.{OnOk}
use Rattle.std.specs.Io.KnownBytes.{Appends}
use Rattle.csv.specs.Writing.{text_written}
use Rattle.dali_waiting.specs.RowText.{row_text}
use Rattle.dali_statement.proofs.export.put_header.Goals as goal

pub returns-clause-text : goal.returns-clause-text
returns-clause-text g c =
    subst (λ t. OnOk c.put_row.result (Appends (text_written g.W.Write.contents c.args.writer.now) (text_written g.W.Write.contents c.put_row.new.writer) t))
    (λ i. row_text (c.as_slice.ensures i ∷ c.as_slice-2.ensures i ∷ c.as_slice-3.ensures i ∷ c.as_slice-4.ensures i ∷ c.as_slice-5.ensures i ∷ c.as_slice-6.ensures i ∷ []))
    c.put_row.ensures.text
