use Rattle.std.proofs.Common.{ℕ, map}
use Rattle.std.proofs.lemmas.Bool.Decides.{same_from_decides}
use Rattle.dali_tree.specs.Fits.{is_rising}
use Rattle.dali_fits.proofs.Rising.{rising_lines}
use Rattle.dali_fits.proofs.fitting.lines_rise.Goals as goal

pub returns : goal.returns
returns c = same_from_decides c.lines_step_up.result (is_rising (map (λ (m : ℕ × ℕ). m.0) c.args.lam.now))
    c.lines_step_up.ensures (rising_lines c.args.lam.now)
