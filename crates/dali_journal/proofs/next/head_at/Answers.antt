use Rattle.std.proofs.Common.{◌∙◌, ◌+◌, ◌≤◌, length, drop, slice_index, sym, ap, arith}
use Rattle.std.specs.Int.{w32, from_be_bytes}
use Rattle.dali_journal.proofs.RecordLemmas.{part_gate, part_rest, too_long}
use Rattle.dali_journal.proofs.next.head_at.Goals as goal

pub returns-clause-payload : goal.returns-clause-payload
returns-clause-payload g c = λ tells len is.
    let bytes = (g.T.Site.sight c.args.site.now).bytes in
    let given = c.in_ok-read-2.ensures.given tells in
    let fits : c.args.tail + 5 ≤ length bytes = omega (arith, c.requires.at_site, (c.size-size.ensures.told tells).bytes, c.if-left-lt6.false) in
    let heads = c.head_of.ensures.payload len is in
    let rest = ap (λ bs. drop 1 bs) given ∙ part_rest bytes c.args.tail fits in
    record {
      is_open = λ shut. heads.0 (ap (λ bs. slice_index bs 0) given ∙ part_gate bytes c.args.tail fits ∙ shut);
      length_is = sym rest ∙ heads.1;
      value = ap (λ bs. from_be_bytes w32 bs) (sym rest) ∙ heads.2;
    }

pub returns-clause-too_long : goal.returns-clause-too_long
returns-clause-too_long g c = λ tells is.
    let bytes = (g.T.Site.sight c.args.site.now).bytes in
    let fits : c.args.tail + 5 ≤ length bytes = omega (arith, c.requires.at_site, (c.size-size.ensures.told tells).bytes, c.if-left-lt6.false) in
    let heads = c.head_of.ensures.too_long is in
    too_long _ c.args.tail c.args.left bytes _ c.requires.at_site fits (c.in_ok-read-2.ensures.given tells) heads.0 heads.1
