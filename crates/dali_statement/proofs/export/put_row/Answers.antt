use Rattle.std.proofs.Common.{◌≢◌, ◌<◌, ◌∙◌, ℕ, List, length, map, ap, sym, subst, arith}
use Rattle.std.specs.Io.KnownBytes.{Appends}
use Rattle.std.specs.Borrow.{Bor}
use Rattle.std.proofs.lemmas.List.{length-map}
use Rattle.std.proofs.lemmas.List.Elements.{All-map, recursion_from_All}
use Rattle.csv.specs.Writing as csv
use Rattle.csv.specs.Writing.{default_writer, needs_quotes, text_written}
use Rattle.csv.specs.declared.writer.QuoteStyle.TheVariants as style
use Rattle.dali_statement.proofs.RowLemmas.{IsPlain, plain_row}
use Rattle.dali_statement.proofs.export.put_row.Goals as goal

pub returns-clause-text : goal.returns-clause-text
returns-clause-text g c =
    let fields : List (List ℕ) = map (λ (field : Bor (List ℕ)). field.now) c.args.fields.now in
    let several : 1 < length fields = omega (arith, length-map c.args.fields.now (λ (field : Bor (List ℕ)). field.now), c.requires.several) in
    let plain = recursion_from_All IsPlain fields (All-map IsPlain (λ (field : Bor (List ℕ)). field.now) c.args.fields.now c.requires.plain) in
    subst (λ t. Appends (text_written g.W.Write.contents c.args.writer.now) (text_written g.W.Write.contents c.write_fields.new.self) t)
    (ap (λ s. csv.row_text s fields) c.requires.ready.setup ∙ plain_row fields several plain)
    (c.in-Ok.ensures.bytes c.requires.ready.fields c.requires.ready.wrote (subst (λ s. s.style ≢ style.NonNumeric) (sym c.requires.ready.setup) (λ e. absurd (cc))))
