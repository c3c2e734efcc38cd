use Rattle.std.proofs.Common.{ℕ, length, subst}
use Rattle.dali_tree.specs.Range.{IsInRange}
use Rattle.dali_tree.proofs.Ranges.{choice_ranges}
use Rattle.dali_fits.proofs.fitting.fits.Goals as goal

pub returns-clause-in_range : goal.returns-clause-in_range
returns-clause-in_range c = λ told.
    subst (λ (n : ℕ). IsInRange (length c.args.problem.now.items) n c.args.choice.now) c.lines.ensures.count
    (subst (λ (n : ℕ). IsInRange n c.lines.result c.args.choice.now) c.items.ensures.count
    (choice_ranges c.items.result c.lines.result c.args.choice.now (c.choice_fits.ensures.0 told)))
