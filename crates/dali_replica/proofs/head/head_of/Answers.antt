use Rattle.std.proofs.Common.{arith}
use Rattle.dali_replica.proofs.Fronts.{head_again}
use Rattle.dali_replica.proofs.head.head_of.Goals as goal

pub returns : goal.returns
returns c =
    let again = head_again c.args.head.now (omega (arith, c.told-head)) (λ i. omega (arith, c.fits-head i)) in
    cc again
