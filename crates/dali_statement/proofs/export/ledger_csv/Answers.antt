use Rattle.std.proofs.Common.{◌∙◌, ◌++◌, List, ℕ, Some, take, ap, sym, append_assoc}
use Rattle.std.specs.List.{flat_map}
use Rattle.csv.specs.Writing.{text_written}
use Rattle.dali_ledger.specs.declared.posting.Posting.{Posting}
use Rattle.dali_statement.specs.Export.{header, fields_of}
use Rattle.dali_waiting.specs.RowText.{row_text}
use Rattle.dali_waiting.proofs.StepLemmas.{flat_map_next}
use Rattle.dali_statement.proofs.RowLemmas.{appended}
use Rattle.dali_statement.proofs.export.ledger_csv.Goals as goal

pub loop-place-preserved : goal.loop-place-preserved
loop-place-preserved c =
    let rows : Posting → List ℕ = λ p. row_text (fields_of p) in
    let before = take c.loop-place.place c.args.ledger.now.postings in
    record {
      ready = c.in_ok-put_posting.ensures.ready;
      text = appended (text_written (λ v. Some v.items) c.loop-place.writer) (text_written (λ v. Some v.items) c.put_posting.new.writer) (row_text header ++ flat_map rows before) (rows c.posting_at.result.now)
          c.loop-place.invariant.text c.in_ok-put_posting.ensures.text
          ∙ ap Some (append_assoc (row_text header) (flat_map rows before) (rows c.posting_at.result.now)
          ∙ ap (λ t. row_text header ++ t) (sym (flat_map_next rows c.args.ledger.now.postings c.loop-place.place c.posting_at.result.now c.posting_at.ensures)));
    }
