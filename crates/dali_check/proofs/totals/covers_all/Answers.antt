use Rattle.std.proofs.Common.{◌≡◌, ◌≤◌, ◌^◌, true, false, arith}
use Rattle.std.proofs.Math.Pow.{pow_mono}
use Rattle.dali_check.proofs.totals.covers_all.Goals as goal

false_true : false ≡ true → ⊥
false_true is = cc

pub returns-then-sets-from : goal.returns-then-sets-from
returns-then-sets-from c =
    let more : 2 ^ c.loop-place.place ≤ 2 ^ c.args.items = pow_mono (omega (arith, c.loop-place-test.true)) in (
      λ t. absurd (false_true t),
      λ enough. absurd (omega (arith, enough, more, c.loop-place.invariant.sets, c.from.ensures, c.if-sets-from.true)),
    )
