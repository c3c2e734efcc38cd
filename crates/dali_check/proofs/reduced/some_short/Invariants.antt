use Rattle.std.proofs.Common.{◌≡◌, true, not}
use Rattle.dali_problem.specs.Rules.{is_short, all_below}
use Rattle.dali_check.proofs.reduced.some_short.Given as goal

abbrev pub invariant-loop-line : goal.invariant-loop-line
invariant-loop-line l = record { none : all_below (λ k. not (is_short l.problem l.partial.marks k)) l.line ≡ true }
