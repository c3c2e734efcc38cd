use Rattle.std.proofs.Common.{◌≡◌, ◌++◌, Some, take}
use Rattle.std.specs.List.{flat_map}
use Rattle.csv.specs.Writing.{text_written}
use Rattle.dali_statement.specs.Export.{header, fields_of}
use Rattle.dali_waiting.specs.RowText.{row_text}
use Rattle.dali_statement.specs.Ready.{IsReady}
use Rattle.dali_statement.proofs.export.ledger_csv.Given as goal

abbrev pub invariant-loop-place : goal.invariant-loop-place
invariant-loop-place l = record {
  ready : IsReady l.writer;
  text : text_written (λ v. Some v.items) l.writer ≡ Some (row_text header ++ flat_map (λ p. row_text (fields_of p)) (take l.place l.ledger.postings));
}
