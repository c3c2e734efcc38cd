use Rattle.std.proofs.Common.{◌≡◌, ◌+◌, ◌-◌, ◌≤◌, length, sym, subst, arith}
use Rattle.dali_record.specs.IsRecord.{IsRecord}
use Rattle.dali_replica.proofs.Judges.{numbered_at, past_end}
use Rattle.dali_replica.proofs.judging.judge_number.Goals as goal

pub returns-then-branch : goal.returns-then-branch
returns-then-branch c =
    let number = c.args.frame.now.number in
    let behind : number ≡ (number - 1) + 1 = omega (arith, c.if-frame-eq0.false) in (
      c.in-Some.entry.now,
      numbered_at number (number - 1) c.in-Some.entry.now c.args.found.now behind c.in-Some.ensures.value,
      subst (λ bs. IsRecord bs c.in-Some.entry.now) c.bytes-bytes.ensures (c.in_ok-is_record_of-in-Some.ensures.0 c.if-branch.true),
    )

pub returns-else-branch : goal.returns-else-branch
returns-else-branch c =
    let number = c.args.frame.now.number in
    let behind : number ≡ (number - 1) + 1 = omega (arith, c.if-frame-eq0.false) in (
      c.in-Some.entry.now,
      numbered_at number (number - 1) c.in-Some.entry.now c.args.found.now behind c.in-Some.ensures.value,
      (λ is. absurd (cc (c.in_ok-is_record_of-in-Some.ensures.1 (subst (λ bs. IsRecord bs c.in-Some.entry.now) (sym c.bytes-bytes.ensures) is), c.if-branch.false))),
    )

pub returns-else-place-len : goal.returns-else-place-len
returns-else-place-len c =
    let number = c.args.frame.now.number in
    let past : length c.args.found.now ≤ number - 1 = past_end (number - 1) c.args.found.now c.in-None.ensures.value in
    omega (arith, past, c.if-frame-eq0.false, c.if-place-len.false, c.len.ensures)
