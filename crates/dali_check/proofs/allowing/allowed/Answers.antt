use Rattle.std.proofs.Common.{◌≤◌, ℕ, sym, subst}
use Rattle.dali_problem.specs.Feasible.{value_of}
use Rattle.dali_check.proofs.Ceiling.{whole_most}
use Rattle.dali_check.proofs.Certified.{certified}
use Rattle.dali_check.proofs.Summing.{whole_bounds}
use Rattle.dali_check.proofs.allowing.allowed.Goals as goal

pub returns-in-Err-clause-err : goal.returns-in-Err-clause-err
returns-in-Err-clause-err c = c.in-Err.ensures.err c.args.budget

pub returns-in-Err-check_parts-clause-err : goal.returns-in-Err-check_parts-clause-err
returns-in-Err-check_parts-clause-err c = c.in-Err-check_parts.ensures.err c.args.budget

pub returns-in-Ok-check_budget-clause-bound : goal.returns-in-Ok-check_budget-clause-bound
returns-in-Ok-check_budget-clause-bound c t places feasible =
    whole_bounds c.args.problem.now c.args.choice.now t c.items-items.ensures.bounds c.requires.in_range c.in-Ok.ensures.whole
    c.in-Ok-check_parts.ensures.proved places feasible

pub returns-in-Ok-check_budget-clause-small : goal.returns-in-Ok-check_budget-clause-small
returns-in-Ok-check_budget-clause-small c =
    whole_most c.args.problem.now c.args.choice.now c.requires.in_range c.in-Ok.ensures.whole c.in-Ok-check_parts.ensures.lean

pub returns-in-Ok-check_budget-clause-best : goal.returns-in-Ok-check_budget-clause-best
returns-in-Ok-check_budget-clause-best c same = record {
  places = record { rising = c.requires.in_range.set.rising; in_range = c.requires.in_range.set.in_range };
  feasible = c.in-Ok.ensures.whole.feasible;
  most = (λ t places feasible. subst (λ (n : ℕ). value_of c.args.problem.now t ≤ n) (sym same)
      (whole_bounds c.args.problem.now c.args.choice.now t c.items-items.ensures.bounds c.requires.in_range c.in-Ok.ensures.whole
      c.in-Ok-check_parts.ensures.proved places feasible));
}

pub returns-in-Ok-check_budget-clause-certified : goal.returns-in-Ok-check_budget-clause-certified
returns-in-Ok-check_budget-clause-certified c = certified c.args.problem.now c.args.budget c.args.choice.now c.in-Ok-check_budget.ensures.ok
