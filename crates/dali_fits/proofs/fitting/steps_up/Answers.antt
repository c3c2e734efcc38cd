use Rattle.std.proofs.Common.{ℕ, refl}
use Rattle.dali_fits.proofs.Rising.{pairs_up}
use Rattle.dali_fits.proofs.fitting.steps_up.Goals as goal

pub returns : goal.returns
returns c = (λ _. pairs_up (λ (k : ℕ). k) c.args.numbers.now c.loop-at.at c.loop-at-test.false c.loop-at.invariant.rises, λ _. refl)
