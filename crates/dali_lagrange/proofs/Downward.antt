use Rattle.std.proofs.Common.{ℕ, ℤ, pos, negsuc, ◌<◌, ◌≤ℤ◌, ◌<ℤ◌, arith}
use Rattle.std.proofs.lemmas.Int.{ints}

-- a Sum as a measure
abbrev pub height : ℤ → ℕ
height (pos n) = n
height (negsuc n) = 0

pub height_falls : (a b : ℤ) → pos 4096 ≤ℤ b → a <ℤ b → height a < height b
height_falls (pos m) (pos n) most less = omega (arith, ints, less)
height_falls (negsuc m) (pos n) most less = omega (arith, ints, most)
height_falls (pos m) (negsuc n) most less = absurd (omega (arith, ints, most))
height_falls (negsuc m) (negsuc n) most less = absurd (omega (arith, ints, most))
