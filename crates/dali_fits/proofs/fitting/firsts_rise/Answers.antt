use Rattle.std.proofs.Common.{refl}
use Rattle.dali_tree.specs.Fits.{first_member}
use Rattle.dali_fits.proofs.Rising.{pairs_up}
use Rattle.dali_fits.proofs.fitting.firsts_rise.Goals as goal

pub returns : goal.returns
returns c = (λ _. pairs_up first_member c.args.parts.now c.loop-at.at c.loop-at-test.false c.loop-at.invariant.rises, λ _. refl)
