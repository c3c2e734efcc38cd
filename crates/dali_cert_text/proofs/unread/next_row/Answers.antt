use Rattle.std.proofs.Common.{◌≡◌, ◌∙◌, sym, ap, arith}
use Rattle.dali_cert_text.specs.Reading.{row_of}
use Rattle.dali_cert_text.proofs.Going.{cut_same}
use Rattle.dali_cert_text.proofs.TextLaws.{row_is}
use Rattle.dali_cert_text.proofs.unread.next_row.Goals as goal

pub overflow_add-result : goal.overflow_add-result
overflow_add-result c = omega (arith, c.unread.invariant.fits)

pub returns-in-Some-read-clause-row : goal.returns-in-Some-read-clause-row
returns-in-Some-read-clause-row c = (row_is c.args.items c.args.lines c.in-Some.line.now c.in-Some-read.row (sym c.in_ok-read.ensures ∙ c.in-Some-read.is)).1

pub returns-in-None-clause-form : goal.returns-in-None-clause-form
returns-in-None-clause-form c = λ k told.
    let number : k ≡ c.next.new.self.taken = cc (c.form.ensures, told) in (
      number ∙ c.in-Some.ensures.counted,
      λ line more is text.
          let same = cut_same c.in-Some.line.now line c.next.new.self.text more c.in-Some.ensures.line.0 is (sym c.in-Some.ensures.line.1 ∙ text) in
          ap (row_of c.args.items c.args.lines) (sym same.0) ∙ sym c.in_ok-read.ensures ∙ c.in-None.is,
    )
