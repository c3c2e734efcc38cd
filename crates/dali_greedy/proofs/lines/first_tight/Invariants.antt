use Rattle.std.proofs.Common.{◌≡◌, pos, ◌+ℤ◌, false, slice_index_or, take}
use Rattle.std.specs.List.{All}
use Rattle.dali_problem.specs.Rules.{is_negative}
use Rattle.dali_greedy.proofs.lines.first_tight.Given as goal

abbrev pub invariant-loop-effect : goal.invariant-loop-effect
invariant-loop-effect l = All (λ e. is_negative (slice_index_or l.has e.line (pos 0) +ℤ e.amount) ≡ false) (take l.effect-index l.effects)
