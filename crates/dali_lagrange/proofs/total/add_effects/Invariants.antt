use Rattle.std.proofs.Common.{◌≡◌, ◌+◌, ◌*◌, ◌^◌, pos, ◌+ℤ◌, ◌*ℤ◌, get_or, take}
use Rattle.dali_problem.specs.Sums.{sum_over}
use Rattle.dali_problem.specs.Limits.{Within}
use Rattle.dali_problem.specs.declared.row.Effect.{Effect}
use Rattle.dali_lagrange.proofs.total.add_effects.Given as goal

abbrev pub invariant-loop-effect : goal.invariant-loop-effect
invariant-loop-effect l = record {
  exact : l.total ≡ l.initial.total +ℤ sum_over (λ (e : Effect). pos (get_or l.point e.line 0) *ℤ e.amount) (take l.effect-index l.effects);
  small : Within (2 ^ 102 + l.effect-index * 2 ^ 97) l.total;
}
