use Rattle.std.proofs.Common.{◌≡◌, ℕ, ◌<◌, ◌≤◌, get_or}
use Rattle.std.specs.List.{All}
use Rattle.dali_lagrange.specs.Multipliers.{AreMultipliers, multiplier}
use Rattle.dali_lagrange.proofs.listed.listed.Given as goal

abbrev pub invariant-loop-line : goal.invariant-loop-line
invariant-loop-line l = record {
  are : AreMultipliers l.line l.lam;
  not_zero : All (λ (m : ℕ × ℕ). 1 ≤ m.1) l.lam;
  listed : (k : ℕ) → k < l.line → multiplier l.lam k ≡ get_or l.kept.multipliers k 0;
}
