use Rattle.std.proofs.Common.{◌≡◌, inl, inr, ℕ, set, ◌<◌, ◌≤◌, pos, ◌≤ℤ◌, true, false, ◌&&◌, ◌||◌, not, List, length, Some, ap, sym, ◌∙◌, subst, arith}
use Rattle.std.specs.Int.Signed.{lt_z, le_z}
use Rattle.std.proofs.lemmas.Bool.{cases_Bool, and_from, and_parts, lt-ltb}
use Rattle.std.proofs.lemmas.Int.{ints}
use Rattle.dali_base.specs.Limits.{most_bound}
use Rattle.dali_problem.specs.declared.mark.Mark.{Mark}
use Rattle.dali_problem.specs.declared.mark.Mark.TheVariants.{Undecided}
use Rattle.dali_problem.specs.Clearing.{Clearing}
use Rattle.dali_problem.specs.Partial.{mark}
use Rattle.dali_problem.specs.Rules.{is_short, is_barred, is_needed, is_safe, all_below}
use Rattle.dali_tree.specs.declared.fix.Fix.{Fix}
use Rattle.dali_tree.specs.declared.fix.Fix.TheVariants.{Barred, Needed, Safe}
use Rattle.dali_tree.specs.Fits.{lam_fits}
use Rattle.dali_lagrange.specs.Bound.{sum_of}
use Rattle.dali_lagrange.specs.Multipliers.{multiplier}
use Rattle.dali_lagrange.specs.Settled.{is_still_at, is_settled}
use Rattle.dali_lagrange.proofs.SettledLaws.{le_decides}
use Rattle.dali_fixes.specs.Fixed.{holds, after}
use Rattle.dali_reduce.specs.Reduced.{IsReduced, IsDone}
use Rattle.dali_check.specs.Proves.{closes}
use Rattle.dali_check.specs.Lean.{reaches, is_reduced, is_open}
use Rattle.dali_check.proofs.Reducing.{all_below_of}
use Rattle.dali_search.specs.Best.{IsOffered}
use Rattle.dali_search.specs.Arena.{IsOpenAt}
use Rattle.dali_search.specs.Sides.{IsBelow}
use Rattle.dali_search.proofs.Falling.{closes_tells, closes_from, reaches_tells, closes_after, closes_set, bound_at_most}

false_true : false ≡ true → ⊥
false_true is = cc

-- a settled Sum isn't above that of all multipliers 0
pub settled_under : (p : Clearing) (f : List Mark) (lam : ℕ → ℕ) → is_settled p f lam ≡ true → sum_of p f lam ≤ℤ sum_of p f (λ _. 0)
unfolding is_settled
settled_under p f lam told = (le_decides (sum_of p f lam) (sum_of p f (λ _. 0))).0
    (and_parts (le_z (sum_of p f lam) (sum_of p f (λ _. 0)))
    (lt_z (sum_of p f lam) (pos 4096) || all_below (is_still_at p f lam) (length p.lines)) told).0

-- where no line is short and nothing is left to fix, no rule is left
safe_none : (p : Clearing) (f : List Mark) (j : ℕ) → IsReduced p f → j < length p.items → is_safe p f j ≡ false
unfolding holds
safe_none p f j reduced below = reduced.none (Safe j) (lt-ltb j (length p.items) below)

barred_none : (p : Clearing) (f : List Mark) (j l : ℕ) → IsReduced p f → j < length p.items → l < length p.lines → is_barred p f j l ≡ false
unfolding holds
barred_none p f j l reduced below within = reduced.none (Barred j l)
    (and_from _ _ (lt-ltb j (length p.items) below) (lt-ltb l (length p.lines) within))

needed_none : (p : Clearing) (f : List Mark) (j l : ℕ) → IsReduced p f → j < length p.items → l < length p.lines → is_needed p f j l ≡ false
unfolding holds
needed_none p f j l reduced below within = reduced.none (Needed j l)
    (and_from _ _ (lt-ltb j (length p.items) below) (lt-ltb l (length p.lines) within))

all_reduced : (p : Clearing) (f : List Mark) → IsReduced p f → is_reduced p f ≡ true
unfolding is_reduced
all_reduced p f reduced =
    all_below_of (λ j. not (is_safe p f j) && all_below (λ l. not (is_barred p f j l) && not (is_needed p f j l)) (length p.lines)) (length p.items) (λ j below.
    and_from (not (is_safe p f j)) (all_below (λ l. not (is_barred p f j l) && not (is_needed p f j l)) (length p.lines))
    (ap not (safe_none p f j reduced below))
    (all_below_of (λ l. not (is_barred p f j l) && not (is_needed p f j l)) (length p.lines) (λ l within.
    and_from (not (is_barred p f j l)) (not (is_needed p f j l)) (ap not (barred_none p f j l reduced below within)) (ap not (needed_none p f j l reduced below within)))))

pub reduced_of : (p : Clearing) (f : List Mark) → IsDone p f → ((l : ℕ) → l < length p.lines → is_short p f l ≡ false) → is_reduced p f ≡ true
reduced_of p f (inl reduced) long = all_reduced p f reduced
reduced_of p f (inr short) long = absurd (false_true (sym (long short.line short.within) ∙ short.short))

-- what an end has that may be branched
pub open_holds : (p : Clearing) (v : ℕ) (f : List Mark) (lam : List (ℕ × ℕ)) (bound : ℕ) → lam_fits (length p.lines) lam ≡ true → bound ≤ most_bound →
    closes p bound lam f ≡ true → (0 < bound → reaches p bound lam f ≡ true) → is_settled p f (multiplier lam) ≡ true → IsDone p f →
    ((l : ℕ) → l < length p.lines → is_short p f l ≡ false) → IsOffered p f v → IsOpenAt p v f lam bound
open_holds p v f lam bound listed small above least settled done long offered = record {
  listed = listed;
  small = small;
  above = above;
  least = least;
  worked = and_from (is_settled p f (multiplier lam)) (is_reduced p f) settled (reduced_of p f done long);
  unfinished = (λ over. elim (cases_Bool (is_open p f)) as (λ _. is_open p f ≡ true) [
    | inl told ↦ told
    | inr closed ↦
        let under = settled_under p f (multiplier lam) settled in
        let most = offered.offered closed long in
        let reached = reaches_tells p bound lam f (least (omega (arith, over))) in
        absurd (omega (arith, ints, under, most, reached, over))
  ]);
}

pub open_below : (p : Clearing) (f : List Mark) (lam start : List (ℕ × ℕ)) (bound : ℕ) → (0 < bound → reaches p bound lam f ≡ true) →
    sum_of p f (multiplier lam) ≤ℤ sum_of p f (multiplier start) → IsBelow p start f bound
open_below p f lam start bound least under = record {
  below = (λ w told. bound_at_most p bound w lam f least
      (closes_from p w lam f (omega (arith, ints, under, closes_tells p w start f told))));
}

-- bounds that stay below from where fixes lead, or from a side
pub below_after : (p : Clearing) (fixes : List Fix) (f g : List Mark) (start : List (ℕ × ℕ)) (bound : ℕ) → after p fixes f ≡ Some g → IsBelow p start g bound → IsBelow p start f bound
below_after p fixes f g start bound leads is = record { below = (λ w told. is.below w (closes_after p w start fixes f g leads told)) }

pub below_side : (p : Clearing) (f g : List Mark) (j : ℕ) (m : Mark) (start : List (ℕ × ℕ)) (bound : ℕ) → mark f j ≡ Undecided → g ≡ set f j m →
    IsBelow p start g bound → IsBelow p start f bound
below_side p f g j m start bound was put is = record {
  below = (λ w told. is.below w (subst (λ (h : List Mark). closes p w start h ≡ true) (sym put) (closes_set p w start f j m was told)));
}
