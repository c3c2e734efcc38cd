use Rattle.std.proofs.Common.{◌≡◌, inl, inr, ℕ, ◌≤◌, pos, ◌≤ℤ◌, Bool, true, false, List, length, refl, ap, sym, ◌∙◌, subst, arith}
use Rattle.std.proofs.lemmas.Bool.{cases_lt}
use Rattle.std.proofs.lemmas.Int.{ints}
use Rattle.std.proofs.lemmas.List.{get_or_past}
use Rattle.dali_problem.specs.declared.row.LineRow.{LineRow}
use Rattle.dali_problem.specs.Sums.{sum_below, pick}
use Rattle.dali_problem.specs.Clearing.{Clearing, no_line, balance, effect}
use Rattle.dali_problem.specs.Feasible.{ArePlaces, IsFeasible}
use Rattle.dali_problem.proofs.SumLaws.{sum_below_zero, sum_below_same}
use Rattle.dali_problem.proofs.SetLaws.{is_in, booked_in}
use Rattle.dali_fixes.proofs.Sets.{total, Covers}
use Rattle.dali_marks.specs.OwnLines.{ChangesOwnLines}

-- past the last line nothing stands
past_total : (p : Clearing) (w : ℕ → Bool) (l : ℕ) → ChangesOwnLines p → length p.lines ≤ l → total p w l ≡ pos 0
past_total p w l own past =
    let bal : balance p l ≡ pos 0 = ap (λ (row : LineRow). pos row.balance) (get_or_past p.lines l no_line past) in
    let none : sum_below (λ j. pick (w j) (effect p j l)) (length p.items) ≡ sum_below (λ _. pos 0) (length p.items) =
    sum_below_same (λ j. pick (w j) (effect p j l)) (λ _. pos 0) (length p.items)
    (λ j below. ap (pick (w j)) (own.past j l past) ∙ nothing (w j)) in
    omega (arith, ints, bal, none, sum_below_zero (length p.items))
  where
    nothing : (b : Bool) → pick b (pos 0) ≡ pos 0
    nothing true = refl
    nothing false = refl

-- a feasible set, as a test
pub covers_of : (p : Clearing) (t : List ℕ) → ChangesOwnLines p → ArePlaces p t → IsFeasible p t → Covers p (λ j. is_in j t)
covers_of p t own places feasible = record {
  covered = (λ l. elim (cases_lt l (length p.lines)) as (λ _. pos 0 ≤ℤ total p (λ j. is_in j t) l) [
    | inl within ↦ subst (λ z. pos 0 ≤ℤ z) (booked_in p t l places) (feasible.covered l within)
    | inr past ↦ subst (λ z. pos 0 ≤ℤ z) (sym (past_total p (λ j. is_in j t) l own past)) (omega (arith, ints))
  ]);
}
