use Rattle.std.proofs.Common.{ℕ, refl}
use Rattle.dali_fits.proofs.Rising.{pairs_up}
use Rattle.dali_fits.proofs.fitting.lines_step_up.Goals as goal

pub returns : goal.returns
returns c = (λ _. pairs_up (λ (m : ℕ × ℕ). m.0) c.args.lam.now c.loop-at.at c.loop-at-test.false c.loop-at.invariant.rises, λ _. refl)
