use Rattle.std.proofs.Common.{◌≡◌, ℕ, true, List, length, arith}
use Rattle.std.proofs.lemmas.Bool.{and_parts, and_from}
use Rattle.std.proofs.lemmas.Int.{ints}
use Rattle.std.specs.Prelude.{◌≤ℤ◌}
use Rattle.dali_problem.specs.declared.mark.Mark.{Mark}
use Rattle.dali_problem.specs.Clearing.{Clearing}
use Rattle.dali_tree.specs.Fits.{lam_fits}
use Rattle.dali_lagrange.specs.Bound.{sum_of}
use Rattle.dali_lagrange.specs.Multipliers.{multiplier}
use Rattle.dali_lagrange.specs.Settled.{is_settled}
use Rattle.dali_check.specs.Lean.{is_reduced}
use Rattle.dali_search.specs.Lead.{IsLead}
use Rattle.dali_search.proofs.Falling.{reaches_from, reaches_tells}

-- settled multipliers whose Sum isn't smaller
pub lead_of : (p : Clearing) (f : List Mark) (lam lead : List (ℕ × ℕ)) → lam_fits (length p.lines) lead ≡ true → is_settled p f (multiplier lead) ≡ true →
    sum_of p f (multiplier lam) ≤ℤ sum_of p f (multiplier lead) → IsLead p f lam lead
lead_of p f lam lead fits settled more = record {
  listed = fits;
  reached = (λ u told. reaches_from p u lead f (omega (arith, ints, more, reaches_tells p u lam f told)));
  worked = (λ told. and_from (is_settled p f (multiplier lead)) (is_reduced p f) settled (and_parts (is_settled p f (multiplier lam)) (is_reduced p f) told).1);
}
