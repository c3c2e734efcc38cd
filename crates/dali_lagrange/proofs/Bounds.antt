use Rattle.std.proofs.Common.{ℕ, ◌*◌, ℤ, pos, negsuc, ◌≤ℤ◌, arith}
use Rattle.std.proofs.lemmas.Int.{ints}
use Rattle.dali_lagrange.specs.Bound.{bound_of}

-- a bound is reached exactly where the Sum reaches it on the scale
pub reaches : (u : ℕ) (s : ℤ) → pos (4096 * u) ≤ℤ s → pos u ≤ℤ bound_of s
reaches u (pos a) reached = omega (arith, ints, reached)
reaches u (negsuc a) reached = absurd (omega (arith, ints, reached))

pub reached_by : (u : ℕ) (s : ℤ) → pos u ≤ℤ bound_of s → pos (4096 * u) ≤ℤ s
reached_by u (pos a) reached = omega (arith, ints, reached)
reached_by u (negsuc a) reached = absurd (omega (arith, ints, reached))
