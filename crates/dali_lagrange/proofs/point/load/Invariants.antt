use Rattle.std.proofs.Common.{◌≡◌, ℕ, ◌<◌, ◌≤◌, ◌^◌, length, drop, get_or}
use Rattle.std.specs.List.{All}
use Rattle.dali_lagrange.specs.Multipliers.{multiplier}
use Rattle.dali_lagrange.proofs.point.load.Given as goal

abbrev pub invariant-loop-left : goal.invariant-loop-left
invariant-loop-left l = record {
  within : l.left ≤ length l.lam;
  loaded : (k : ℕ) → k < length l.multipliers → get_or l.multipliers k 0 ≡ multiplier (drop l.left l.lam) k;
  bounded : All (λ m. m ≤ 2 ^ 44) l.multipliers;
}

abbrev pub decreases-loop-left : goal.decreases-loop-left
decreases-loop-left l = l.left
