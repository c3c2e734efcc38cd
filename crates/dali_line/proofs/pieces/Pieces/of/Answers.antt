use Rattle.std.proofs.Common.{length, ap, arith, length-append}
use Rattle.dali_line.proofs.Cuts.{is_cut}
use Rattle.dali_line.specs.Reading.{pieces}
use Rattle.std.specs.Prelude.{◌==◌}
use Rattle.dali_line.proofs.pieces.Pieces.of.Goals as goal

pub returns-clause-none : goal.returns-clause-none
returns-clause-none c =
    omega (arith, c.loop.invariant.1, c.loop-test.false, is_cut (λ b. b == 44) c.loop.rest.now, length-append c.loop.found (pieces c.loop.rest.now), ap length c.loop.invariant.0)
