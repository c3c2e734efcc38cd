use Rattle.std.proofs.Common.{◌≡◌, ◌∙◌, ◌≤◌, sym, arith}
use Rattle.std.proofs.lemmas.Fmt.{decimal_injective}
use Rattle.dali_desk.proofs.job.init.Goals as goal

pub returns-then-size-lt-LEAST_SIZE-clause-usage : goal.returns-then-size-lt-LEAST_SIZE-clause-usage
returns-then-size-lt-LEAST_SIZE-clause-usage c n low high is =
    let number = c.in-Some.ensures.some in
    let same : c.in-Some.size ≡ n =
    decimal_injective c.in-Some.size n (omega (arith, number.within)) (omega (arith, high)) (sym number.digits ∙ c.bytes.ensures ∙ is) in
    absurd (omega (arith, same, low, c.if-size-lt-LEAST_SIZE.true))
