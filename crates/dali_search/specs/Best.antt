use Rattle.std.specs.Prelude.{◌≡◌, ℕ, ◌*◌, ◌<◌, pos, ◌≤ℤ◌, false, List, length}
use Rattle.dali_problem.specs.declared.mark.Mark.{Mark}
use Rattle.dali_problem.specs.Clearing.{Clearing}
use Rattle.dali_problem.specs.Feasible.{value_of}
use Rattle.dali_problem.specs.Rules.{is_short}
use Rattle.dali_lagrange.specs.Bound.{sum_of}
use Rattle.dali_lagrange.specs.Limits.{scale}
use Rattle.dali_greedy.specs.Grown.{IsGrown}
use Rattle.dali_check.specs.Lean.{is_open}
use Rattle.dali_search.specs.declared.best.Best.{Best}
use Rattle.dali_search.specs.Start.{start_of}

-- the set is grown with all places undecided, and the value is what it is worth
pub record IsBest (p : Clearing) (best : Best) : Type 0 where
  pub grown : IsGrown p (start_of p) best.places
  pub value : best.value ≡ value_of p best.places

-- where a partial choice decides all and leaves no line short, what is chosen is worth at most v
pub record IsOffered (p : Clearing) (f : List Mark) (v : ℕ) : Type 0 where
  pub offered : is_open p f ≡ false → ((l : ℕ) → l < length p.lines → is_short p f l ≡ false) → sum_of p f (λ _. 0) ≤ℤ pos (scale * v)
