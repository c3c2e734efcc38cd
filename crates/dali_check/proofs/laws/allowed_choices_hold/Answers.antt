use Rattle.std.proofs.Common.{◌≤◌, ℕ, sym, subst}
use Rattle.dali_problem.specs.Feasible.{value_of}
use Rattle.dali_check.proofs.Certified.{certified}
use Rattle.dali_check.proofs.Summing.{whole_bounds}
use Rattle.dali_check.proofs.laws.allowed_choices_hold.Goals as goal

pub returns-clause-certified : goal.returns-clause-certified
returns-clause-certified c budget choice allowed = certified c.args.problem.now budget choice allowed

pub returns-clause-bound : goal.returns-clause-bound
returns-clause-bound c budget choice in_range allowed t places feasible =
    let is = certified c.args.problem.now budget choice allowed in
    whole_bounds c.args.problem.now choice t c.items-items.ensures.bounds in_range is.whole is.proved places feasible

pub returns-clause-best : goal.returns-clause-best
returns-clause-best c budget choice in_range allowed same =
    let is = certified c.args.problem.now budget choice allowed in
    record {
      places = record { rising = in_range.set.rising; in_range = in_range.set.in_range };
      feasible = is.whole.feasible;
      most = (λ t places feasible. subst (λ (n : ℕ). value_of c.args.problem.now t ≤ n) (sym same)
          (whole_bounds c.args.problem.now choice t c.items-items.ensures.bounds in_range is.whole is.proved places feasible));
    }
