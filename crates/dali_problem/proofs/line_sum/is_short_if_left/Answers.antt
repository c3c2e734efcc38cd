use Rattle.std.proofs.Common.{◌≡◌, ap, arith, ℤ, pos, ◌+ℤ◌, ◌-ℤ◌}
use Rattle.std.specs.Int.{int_max}
use Rattle.std.proofs.lemmas.Int.{ints, clamps}
use mir.Syntax.{w128}
use mir.Val.{to_z, of_z}
use Rattle.dali_problem.specs.Rules.{is_negative}
use Rattle.dali_problem.proofs.line_sum.is_short_if_left.Goals as goal

-- a number as it is stored
abbrev stored : ℤ → ℤ
stored z = to_z w128 (of_z w128 z)

pub returns-else-amount-lt0 : goal.returns-else-amount-lt0
returns-else-amount-lt0 c =
    let whole : stored (stored (stored c.args.sum.now.held +ℤ stored c.args.sum.now.credits) -ℤ stored c.from.result)
    ≡ c.args.sum.now.held +ℤ c.args.sum.now.credits -ℤ int_max (pos 0) c.args.amount.now =
    omega (
      arith,
      ints,
      clamps,
      c.requires.held.low,
      c.requires.held.high,
      c.requires.credits.low,
      c.requires.credits.high,
      c.from.ensures,
      c.if-amount-lt0.false,
    ) in
    ap is_negative whole
