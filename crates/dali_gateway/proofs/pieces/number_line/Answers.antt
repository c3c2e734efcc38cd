use Rattle.std.proofs.Common.{◌≡◌, arith}
use Rattle.std.specs.Prelude.{slice_index}
use Rattle.dali_gateway.proofs.Readers.{number_left, number_left_all}
use Rattle.dali_gateway.proofs.pieces.number_line.Goals as goal
use Rattle.dali_gateway.proofs.pieces.number_line.Goals.{else-bytes-digits-eq10-via-then-bytes-digits-eq10+else-digits-gt0, else-bytes-digits-eq10-via-else-bytes-digits-eq10}

pub returns-in-None-clause-form : goal.returns-in-None-clause-form
returns-in-None-clause-form c =
    let first : slice_index c.args.bytes.now c.digits.digits ≡ 10 → c.digits.digits ≡ 0 = λ ten. elim c.else-bytes-digits-eq10.branch [
      | else-bytes-digits-eq10-via-then-bytes-digits-eq10+else-digits-gt0 w ↦ omega arith
      | else-bytes-digits-eq10-via-else-bytes-digits-eq10 w ↦ absurd (omega arith)
    ] in
    number_left c.args.low c.args.high c.args.bytes.now c.digits.digits c.digits.number c.digits.invariant.within c.digits.invariant.begun
    (λ inside. (c.in-None.ensures.none, first))

pub returns-clause-form : goal.returns-clause-form
returns-clause-form c =
    number_left_all c.args.low c.args.high c.args.bytes.now c.digits.digits c.digits.number c.digits.invariant.within (omega arith) c.digits.invariant.begun
