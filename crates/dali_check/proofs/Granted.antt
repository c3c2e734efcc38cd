use Rattle.std.proofs.Common.{◌≡◌, ℕ, ◌+◌, ◌^◌, ◌<◌, ◌≤◌, List, length, sym, subst}
use Rattle.std.specs.Prelude.{sum_by}
use Rattle.dali_problem.specs.Clearing.{Item, Clearing}
use Rattle.dali_problem.specs.Feasible.{ArePlaces, IsFeasible, value_of}
use Rattle.dali_problem.specs.Limits.{IsProblem}
use Rattle.dali_tree.specs.declared.choice.Choice.{Choice}
use Rattle.dali_tree.specs.Range.{IsInRange}
use Rattle.dali_check.specs.Allowed.{Allowed, IsCertified}
use Rattle.dali_check.specs.Best.{Best}
use Rattle.dali_check.specs.Parts.{bound_of}
use Rattle.dali_check.proofs.Ceiling.{whole_most}
use Rattle.dali_check.proofs.Certified.{certified}
use Rattle.dali_check.proofs.Summing.{whole_bounds}

-- What an allowed choice says of every feasible set.
module _ (p : Clearing) (budget : ℕ) (choice : Choice) (limits : IsProblem p) (ranges : IsInRange (length p.items) (length p.lines) choice) (allowed : Allowed p budget choice) where
  is : IsCertified p budget choice
  is = certified p budget choice allowed

  -- the bounds are at most the values of all items
  pub granted_small : bound_of choice.parts ≤ sum_by (λ (item : Item). item.value) p.items
  granted_small = whole_most p choice ranges is.whole is.lean

  -- no feasible set is worth more than the bounds
  pub granted_most : (t : List ℕ) → ArePlaces p t → IsFeasible p t → value_of p t ≤ bound_of choice.parts
  granted_most t places feasible = whole_bounds p choice t limits ranges is.whole is.proved places feasible

  -- a set that is worth the bounds is best
  pub granted_best : value_of p choice.places ≡ bound_of choice.parts → Best p choice.places
  granted_best same = record {
    places = record { rising = ranges.set.rising; in_range = ranges.set.in_range };
    feasible = is.whole.feasible;
    most = λ t places feasible. subst (λ n. value_of p t ≤ n) (sym same) (granted_most t places feasible);
  }
