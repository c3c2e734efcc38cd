use Rattle.std.proofs.Common.{◌≡◌, ℕ, ◌+◌, ◌^◌, ◌<◌, ◌≤◌, Bool, true, false, cond, List, length, eqb, refl, sym, subst, arith}
use Rattle.std.proofs.lemmas.Bool.Decides.{nat_tests}
use Rattle.dali_base.specs.Limits.{most_budget}
use Rattle.dali_problem.specs.Clearing.{Clearing}
use Rattle.dali_problem.specs.Feasible.{ArePlaces, IsFeasible, value_of}
use Rattle.dali_tree.specs.declared.choice.Choice.{Choice}
use Rattle.dali_tree.specs.Range.{IsInRange}
use Rattle.dali_tree.proofs.Ranges.{choice_ranges}
use Rattle.dali_check.specs.Allowed.{IsCertified}
use Rattle.dali_check.specs.Best.{Best}
use Rattle.dali_check.specs.Parts.{bound_of}
use Rattle.dali_check.proofs.Certified.{certified}
use Rattle.dali_machine.specs.Machine.{Machine}
use Rattle.dali_machine.specs.Cycles.{IsChoiceFor, IsTrueMark, IsTrueReport, ids_at, places_in, problem_at, report_on, report_of}
use Rattle.dali_machine.specs.declared.report.CycleMark.TheVariants.{Optimal, Unfinished}
use Rattle.dali_marks.specs.OwnLines.{ChangesOwnLines}
use Rattle.dali_marks.proofs.CycleLines.{problem_own}
use Rattle.dali_marks.proofs.Summing.{whole_bounds}

-- what an allowed choice says of a problem that changes only its own lines
module _ (p : Clearing) (budget : ℕ) (choice : Choice) (own : ChangesOwnLines p) (chosen : IsChoiceFor p budget choice) where
  is : IsCertified p budget choice
  is = certified p budget choice chosen.allowed

  ranges : IsInRange (length p.items) (length p.lines) choice
  ranges = choice_ranges (length p.items) (length p.lines) choice chosen.fits

  are_places : ArePlaces p choice.places
  are_places = record { rising = chosen.fits.set.rising; in_range = chosen.fits.set.in_range }

  -- no feasible set is worth more than the bounds
  pub bound_most : (t : List ℕ) → ArePlaces p t → IsFeasible p t → value_of p t ≤ bound_of choice.parts
  bound_most t places feasible = whole_bounds p choice t own ranges is.whole is.proved places feasible

  best : value_of p choice.places ≡ bound_of choice.parts → Best p choice.places
  best same = record {
    places = are_places;
    feasible = is.whole.feasible;
    most = λ t places feasible. subst (λ n. value_of p t ≤ n) (sym same) (bound_most t places feasible);
  }

  value_most : value_of p choice.places ≤ bound_of choice.parts
  value_most = bound_most choice.places are_places is.whole.feasible

  same : (b : Bool) → eqb (value_of p choice.places) (bound_of choice.parts) ≡ b → cond b Optimal Unfinished ≡ Optimal → value_of p choice.places ≡ bound_of choice.parts
  same true told h = grind (arith, nat_tests, told)
  same false told h = absurd (cc)

  below : (b : Bool) → eqb (value_of p choice.places) (bound_of choice.parts) ≡ b → cond b Optimal Unfinished ≡ Unfinished → value_of p choice.places < bound_of choice.parts
  below true told h = absurd (cc)
  below false told h = let most = value_most in grind (arith, nat_tests, told, most)

  -- the mark of what is reported of it is true
  pub true_mark : (ids : List (List ℕ)) → IsTrueMark p (report_on p ids budget choice)
  true_mark ids = record {
    optimal = λ e. best (same (eqb (value_of p choice.places) (bound_of choice.parts)) refl e);
    spent = λ e. (is.spent (below (eqb (value_of p choice.places) (bound_of choice.parts)) refl e)).0;
    few = λ e. (is.spent (below (eqb (value_of p choice.places) (bound_of choice.parts)) refl e)).1;
  }

  -- with a budget for every set of places it is OPTIMAL
  pub optimal_mark : (ids : List (List ℕ)) → 2 ^ length p.items ≤ budget + 1 → (report_on p ids budget choice).mark ≡ Optimal
  optimal_mark ids enough = by (eqb (value_of p choice.places) (bound_of choice.parts)) refl
    where
      by : (b : Bool) → eqb (value_of p choice.places) (bound_of choice.parts) ≡ b → cond b Optimal Unfinished ≡ Optimal
      by true told = refl
      by false told =
          let few : budget + 1 < 2 ^ length p.items = (is.spent (below false told refl)).1 in
          absurd (omega (arith, few, enough))

-- so is each cycle's report, whatever the state is
pub true_report : (m : Machine) (t budget : ℕ) (choice : Choice) → budget ≤ most_budget → IsChoiceFor (problem_at m t) budget choice → IsTrueReport (report_of m t budget choice)
unfolding report_of
true_report m t budget choice small chosen = record {
  chosen = chosen;
  budget = small;
  mark = true_mark (problem_at m t) budget choice (problem_own m.book m.queue t) chosen (ids_at m (places_in m t choice.places));
}

pub optimal_report : (m : Machine) (t budget : ℕ) (choice : Choice) → IsChoiceFor (problem_at m t) budget choice → 2 ^ length (problem_at m t).items ≤ budget + 1 →
    (report_of m t budget choice).mark ≡ Optimal
unfolding report_of
optimal_report m t budget choice chosen enough =
    optimal_mark (problem_at m t) budget choice (problem_own m.book m.queue t) chosen (ids_at m (places_in m t choice.places)) enough
