use Rattle.std.proofs.Common.{◌≡◌, ◌+◌, ◌-◌, ◌≤◌, true, false, length}
use Rattle.std.specs.List.{list_all}
use Rattle.dali_problem.specs.Kept.{IsOf}
use Rattle.dali_tree.specs.Fits.{fix_fits}
use Rattle.dali_reduce.specs.Reduced.{undecided_count}
use Rattle.dali_reduce.specs.Run.{GoesOn, IsSettledBut}
use Rattle.dali_reduce.proofs.reducing.go_on.Given as goal

abbrev pub invariant-loop-next : goal.invariant-loop-next
invariant-loop-next l = record {
  of : IsOf l.problem l.partial;
  goes : GoesOn l.problem l.initial.partial.marks l.partial.marks l.initial.fixes l.fixes;
  within : l.next ≤ length l.fixes;
  fit : list_all (fix_fits (length l.problem.items) (length l.problem.lines)) l.fixes ≡ true;
  settled : IsSettledBut l.problem l.partial.marks l.fixes l.next (λ _. false) (λ _. false);
}

abbrev pub decreases-loop-next : goal.decreases-loop-next
decreases-loop-next l = undecided_count l.partial.marks + length l.fixes - l.next
