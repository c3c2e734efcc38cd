use Rattle.std.proofs.Common.{◌≡◌, ℕ, ◌<◌, false}
use Rattle.dali_problem.specs.Rules.{is_short}
use Rattle.dali_search.proofs.bound.first_short.Given as goal

abbrev pub invariant-loop-line : goal.invariant-loop-line
invariant-loop-line l = record { none : (k : ℕ) → k < l.line → is_short l.problem l.partial.marks k ≡ false }
