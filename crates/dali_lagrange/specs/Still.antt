use Rattle.std.specs.Prelude.{ℕ, ◌<◌, ◌≤◌, ℤ, pos, ◌-ℤ◌, ◌*ℤ◌, ◌≤ℤ◌, ◌<ℤ◌, List, length}
use Rattle.dali_base.specs.Limits.{most_multiplier}
use Rattle.dali_problem.specs.declared.mark.Mark.{Mark}
use Rattle.dali_problem.specs.Clearing.{Clearing}
use Rattle.dali_lagrange.specs.Best.{sum_with}
use Rattle.dali_lagrange.specs.Limits.{gain_parts}

-- the tests of Settled as relations, for the proofs: the Sum falls by a 1,024th part of old at least
pub record IsGain (old new : ℤ) : Type 0 where
  pub smaller : new <ℤ old
  pub enough : old ≤ℤ (pos gain_parts *ℤ (old -ℤ new))

-- with the Sum at old, no number on line l gives a gain
pub record IsStillAt (p : Clearing) (f : List Mark) (point : List ℕ) (old : ℤ) (l : ℕ) : Type 0 where
  pub no_gain : (x : ℕ) → x ≤ most_multiplier → ¬ (IsGain old (sum_with p f point l x))

-- with the Sum at old, no number on any line gives a gain
pub record IsStill (p : Clearing) (f : List Mark) (point : List ℕ) (old : ℤ) : Type 0 where
  pub each : (l : ℕ) → l < length p.lines → IsStillAt p f point old l
