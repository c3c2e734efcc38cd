use Rattle.std.proofs.Common.{◌≡◌, ◌≢◌, ℕ, ◌+◌, ◌*◌, ◌^◌, ◌<◌, ◌≤◌, ℤ, pos, ◌+ℤ◌, ◌≤ℤ◌, Bool, true, false, cond, true≢false, List, [], ◌∷◌, map, length, eqb, Option, Some, None, refl, sym, ap, ◌∙◌, subst, arith}
use Rattle.std.specs.Prelude.{flat_map, sum_by}
use Rattle.std.specs.List.{All, AllPairs, AllByRecursion}
use Rattle.std.proofs.lemmas.Bool.Decides.{nat_tests}
use Rattle.dali_account.specs.declared.net.Move.{Move}
use Rattle.dali_account.specs.Net.{pair_of}
use Rattle.dali_account.specs.Units.{PairKey, units_of}
use Rattle.dali_check.specs.Parts.{bound_of, branchings_of}
use Rattle.dali_check.proofs.Certified.{certified}
use Rattle.dali_check.proofs.Granted.{granted_small, granted_most, granted_best}
use Rattle.dali_problem.specs.Clearing.{Item, Clearing}
use Rattle.dali_problem.specs.Feasible.{ArePlaces, IsFeasible, value_of}
use Rattle.dali_problem.specs.Limits.{IsProblem}
use Rattle.dali_queue.specs.declared.instruction.Instruction.{Instruction}
use Rattle.dali_queue.specs.CycleProblem.{groups_at, input_of, problem_of}
use Rattle.dali_queue.specs.Instruction.{changed_pairs}
use Rattle.dali_queue.specs.NetOf.{items_at, net_of}
use Rattle.dali_queue.proofs.Bridging.{settled, none_negative, items_are}
use Rattle.dali_queue.proofs.NetItems.{total, net_of_all}
use Rattle.dali_tree.specs.declared.choice.Choice.{Choice}
use Rattle.dali_tree.specs.Range.{IsInRange}
use Rattle.dali_tree.proofs.Ranges.{choice_ranges}
use Rattle.dali_machine.specs.Machine.{Machine}
use Rattle.dali_machine.specs.Cycles.{IsChoiceFor, IsTrueMark, net_of_set, places_in, problem_at, report_on}
use Rattle.dali_machine.specs.declared.report.CycleMark.TheVariants.{Optimal, Unfinished}

everywhere : {X : Type 0} (P : X → Type 0) → ((x : X) → P x) → (xs : List X) → AllByRecursion P xs
everywhere P h [] = tt
everywhere P h (x ∷ xs) = (h x, everywhere P h xs)

-- the net of an allowed choice leaves no balance negative
module _ (m : Machine) (t budget : ℕ) (choice : Choice) (chosen : IsChoiceFor (problem_at m t) budget choice) where
  fits : All (λ j. j < length (groups_at m.queue t)) choice.places
  fits = subst (λ n. All (λ j. j < n) choice.places) (items_are m.book m.queue t) chosen.fits.set.in_range

  set_is : items_at m.queue.waiting (places_in m t choice.places) ≡ settled m.book m.queue t choice.places chosen.fits.set.rising fits
  unfolding input_of
  set_is = refl

  enough : (pair : PairKey) → pos 0 ≤ℤ (pos (units_of m.book.balances pair) +ℤ total (items_at m.queue.waiting (places_in m t choice.places)) pair)
  enough pair = subst (λ items. pos 0 ≤ℤ (pos (units_of m.book.balances pair) +ℤ total items pair)) (sym set_is)
      (none_negative m.book m.queue t choice.places chosen.fits.set.rising fits (certified (problem_at m t) budget choice chosen.allowed).whole.feasible pair)

  pub choice_covered : All (λ (x : Move). pos 0 ≤ℤ (pos (units_of m.book.balances (pair_of x)) +ℤ x.delta)) (net_of_set m t choice.places)
  choice_covered = net_of_all (λ (x : Move). pos 0 ≤ℤ (pos (units_of m.book.balances (pair_of x)) +ℤ x.delta)) (items_at m.queue.waiting (places_in m t choice.places))
      (everywhere (λ (q : PairKey). pos 0 ≤ℤ (pos (units_of m.book.balances q) +ℤ total (items_at m.queue.waiting (places_in m t choice.places)) q)) enough
      (flat_map changed_pairs (items_at m.queue.waiting (places_in m t choice.places))))

-- what a report of an allowed choice may rely on, and its mark is true
module _ (p : Clearing) (budget : ℕ) (choice : Choice) (limits : IsProblem p) (chosen : IsChoiceFor p budget choice) where
  ranges : IsInRange (length p.items) (length p.lines) choice
  ranges = choice_ranges (length p.items) (length p.lines) choice chosen.fits

  pub choice_places : ArePlaces p choice.places
  choice_places = record { rising = chosen.fits.set.rising; in_range = chosen.fits.set.in_range }

  pub choice_bound : bound_of choice.parts < 2 ^ 64
  choice_bound =
      let small = granted_small p budget choice limits ranges chosen.allowed in
      let total = limits.total in
      omega (arith, small, total)

  pub choice_branches : branchings_of choice.parts ≤ budget
  choice_branches = (certified p budget choice chosen.allowed).within

  value_most : value_of p choice.places ≤ bound_of choice.parts
  value_most = granted_most p budget choice limits ranges chosen.allowed choice.places choice_places (certified p budget choice chosen.allowed).whole.feasible

  below : cond (eqb (value_of p choice.places) (bound_of choice.parts)) Optimal Unfinished ≡ Unfinished → value_of p choice.places < bound_of choice.parts
  below e = by (eqb (value_of p choice.places) (bound_of choice.parts)) refl e
    where
      by : (b : Bool) → eqb (value_of p choice.places) (bound_of choice.parts) ≡ b → cond b Optimal Unfinished ≡ Unfinished → value_of p choice.places < bound_of choice.parts
      by true told h = absurd (cc)
      by false told h = let most = value_most in grind (arith, nat_tests, told, most)

  pub true_mark : (ids : List (List ℕ)) → IsTrueMark p (report_on p ids budget choice)
  true_mark ids = record {
    optimal = λ e. granted_best p budget choice limits ranges chosen.allowed (same (eqb (value_of p choice.places) (bound_of choice.parts)) refl e);
    spent = λ e. ((certified p budget choice chosen.allowed).spent (below e)).0;
    few = λ e. ((certified p budget choice chosen.allowed).spent (below e)).1;
  }
    where
      same : (b : Bool) → eqb (value_of p choice.places) (bound_of choice.parts) ≡ b → cond b Optimal Unfinished ≡ Optimal → value_of p choice.places ≡ bound_of choice.parts
      same true told h = grind (arith, nat_tests, told)
      same false told h = absurd (cc)
