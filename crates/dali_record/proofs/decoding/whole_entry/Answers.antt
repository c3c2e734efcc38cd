use Rattle.std.proofs.Common.{arith}
use Rattle.std.proofs.lemmas.Bool.{both_ways}
use Rattle.std.proofs.lemmas.Result.{err_from_is_err_and}
use Rattle.dali_record.proofs.DecodeLemmas.{decode_found, decode_other, decode_fails}
use Rattle.dali_record.proofs.decoding.whole_entry.Goals as goal

pub returns-in_err-entry : goal.returns-in_err-entry
returns-in_err-entry c =
    let p = err_from_is_err_and c.from_residual.result c.from_residual.ensures.1 in
    rw (p.1, p.2) (decode_fails c.args.bytes.now c.in_err-entry.field-0.0 c.in_err-entry.ensures)

pub returns-then-not-is_whole : goal.returns-then-not-is_whole
returns-then-not-is_whole c =
    decode_other c.args.bytes.now c.in_ok-entry.entry c.in_ok-entry.rest.now c.in_ok-entry.ensures
    (λ whole. both_ways c.is_whole.result c.if-not-is_whole.true (c.is_whole.ensures.1 whole))

pub returns : goal.returns
returns c =
    decode_found c.args.bytes.now c.in_ok-entry.entry c.in_ok-entry.rest.now (λ i. omega (arith, c.type_inv.bytes i)) c.in_ok-entry.ensures
    (c.is_whole.ensures.0 c.if-not-is_whole.false)
