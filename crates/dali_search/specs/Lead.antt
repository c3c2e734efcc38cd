use Rattle.std.specs.Prelude.{◌≡◌, ℕ, true, List, length}
use Rattle.dali_problem.specs.declared.mark.Mark.{Mark}
use Rattle.dali_problem.specs.Clearing.{Clearing}
use Rattle.dali_tree.specs.Fits.{lam_fits}
use Rattle.dali_check.specs.Lean.{reaches, is_worked}

-- multipliers by which a branch at f may go in place of others: they reach each bound that those reach, and are worked where
-- those are
pub record IsLead (p : Clearing) (f : List Mark) (lam lead : List (ℕ × ℕ)) : Type 0 where
  pub listed : lam_fits (length p.lines) lead ≡ true
  pub reached : (u : ℕ) → reaches p u lam f ≡ true → reaches p u lead f ≡ true
  pub worked : is_worked p lam f ≡ true → is_worked p lead f ≡ true
