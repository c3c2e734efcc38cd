use Rattle.std.proofs.Common.{◌≡◌, inl, inr, ◌⊎◌, ℕ, ◌<◌, pos, Bool, true, not, ◌||◌, List, length, set, refl, ap, ◌∙◌, sym, subst, arith}
use Rattle.std.specs.List.{Contains}
use Rattle.std.proofs.lemmas.Bool.{cases_eq, and_parts, false_from_ne_true}
use Rattle.std.proofs.lemmas.Int.{ints}
use Rattle.std.proofs.lemmas.List.{length-set}
use Rattle.dali_problem.specs.declared.mark.Mark.{Mark}
use Rattle.dali_problem.specs.declared.mark.Mark.TheVariants.{Undecided, Chosen}
use Rattle.dali_problem.specs.Clearing.{Clearing, worth, effect}
use Rattle.dali_problem.specs.Limits.{IsProblem}
use Rattle.dali_problem.specs.Feasible.{ArePlaces, IsFeasible, value_of}
use Rattle.dali_problem.specs.Partial.{mark, is_undecided, Agrees}
use Rattle.dali_problem.specs.Rules.{is_negative, is_covered, all_below, is_safe}
use Rattle.dali_problem.proofs.SetLaws.{is_in, is_in_of, contains_of, value_in}
use Rattle.dali_problem.proofs.RuleTests.{undecided_is}
use Rattle.dali_problem.proofs.Opened.{within_undecided}
use Rattle.dali_problem.proofs.Lines.{item_limits}
use Rattle.dali_fixes.specs.Worth.{TakesMore}
use Rattle.dali_fixes.proofs.Sets.{Covers, Goes, covers_of, goes_of}
use Rattle.dali_fixes.proofs.Exchange.{with, with_here, with_there, with_goes, with_value, goes_chosen, safe_covers}
use Rattle.dali_fixes.proofs.Worths.{listed, listed_feasible, listed_agrees}

-- the exchange of Safe: beside any feasible set that agrees and leaves the place stands the one with it
pub safe_takes : (p : Clearing) (f : List Mark) (j : ℕ) (t : List ℕ) → IsProblem p → length f ≡ length p.items → is_safe p f j ≡ true →
    ArePlaces p t → IsFeasible p t → Agrees f t → ¬ (Contains t j) → TakesMore p f j t
safe_takes p f j t limits size safe places feasible agrees out =
    let w : ℕ → Bool = λ i. is_in i t in
    let parts = and_parts (is_undecided (mark f j)) (all_below (λ l. not (is_negative (effect p j l)) || is_covered p f l) (length p.lines)) safe in
    let undecided : mark f j ≡ Undecided = undecided_is (mark f j) parts.0 in
    let inside : j < length f = within_undecided f j undecided in
    let within : j < length p.items = omega (arith, inside, size) in
    let gone = false_from_ne_true (is_in j t) (λ told. out (contains_of t j told)) in
    let goes : Goes f w = goes_of f t agrees in
    let covers : Covers p (with j w) = safe_covers p f w j limits size safe gone (covers_of p t limits places feasible) goes in
    let more = listed p (with j w) in
    let value = more.value in
    let old = value_in p t places in
    let step = with_value p w j within gone in
    let least = (item_limits p j limits within).value_low in
    record {
      set = more.set;
      places = more.places;
      feasible = listed_feasible p (with j w) covers;
      agrees = listed_agrees p (set f j Chosen) (with j w) (length-set f j Chosen ∙ size) (goes_chosen f (with j w) j inside (with_here w j j refl) (with_goes f w j undecided goes));
      old = (λ i there. elim (cases_eq i j) as (λ _. Contains more.set i) [
        | inl same ↦ subst (Contains more.set) (sym same) (more.inside j within (with_here w j j refl))
        | inr other ↦ more.inside i (in_range i there) (with_there w j i other ∙ is_in_of t i there)
      ]);
      has = more.inside j within (with_here w j j refl);
      only = (λ i there. elim (cases_eq i j) as (λ _. Contains t i ⊎ (i ≡ j)) [
        | inl same ↦ inr same
        | inr other ↦ inl (contains_of t i (sym (with_there w j i other) ∙ more.member i there))
      ]);
      gains = omega (arith, ints, value, old, step);
      more = omega (arith, ints, value, old, step, least);
    }
  where
    in_range : (i : ℕ) → Contains t i → i < length p.items
    in_range i there = subst (λ k. k < length p.items) there.2 (places.in_range there.0 i there.1)
