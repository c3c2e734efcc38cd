use Rattle.std.proofs.Common.{◌≡◌, true, not}
use Rattle.dali_problem.specs.Partial.{mark, is_undecided}
use Rattle.dali_problem.specs.Rules.{all_below}
use Rattle.dali_check.proofs.reduced.is_open.Given as goal

abbrev pub invariant-loop-place : goal.invariant-loop-place
invariant-loop-place l = record { none : all_below (λ j. not (is_undecided (mark l.partial.marks j))) l.place ≡ true }
