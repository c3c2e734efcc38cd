use Rattle.std.proofs.Common.{◌≡◌, ◌≢◌, inl, inr, ℕ, ◌<◌, ℤ, pos, ◌+ℤ◌, ◌-ℤ◌, ◌≤ℤ◌, false, List, length, get_or, set, refl, ap, sym, ◌∙◌, subst, arith}
use Rattle.std.specs.List.{All}
use Rattle.std.specs.Int.{int_max}
use Rattle.std.proofs.lemmas.Bool.{cases_eq}
use Rattle.std.proofs.lemmas.Int.{ints}
use Rattle.dali_problem.specs.declared.mark.Mark.{Mark}
use Rattle.dali_problem.specs.declared.mark.Mark.TheVariants.{Stranger, Undecided, Chosen, Left}
use Rattle.dali_problem.specs.Sums.{pick}
use Rattle.dali_problem.specs.Clearing.{Clearing, item_at, effect}
use Rattle.dali_problem.specs.Limits.{IsProblem}
use Rattle.dali_problem.specs.Partial.{mark, is_chosen, is_undecided, held}
use Rattle.dali_problem.specs.Rules.{is_negative, credits, is_short}
use Rattle.dali_problem.proofs.SumLaws.{sum_below_same, sum_below_zero}
use Rattle.dali_problem.proofs.Lines.{item_limits}
use Rattle.dali_problem.proofs.RuleTests.{present}
use Rattle.dali_problem.proofs.Turned.{held_turned}
use Rattle.dali_rest.specs.Room.{IsCovered}
use Rattle.dali_rest.specs.Swaps.{AreDecided, IsCoveredBut}
use Rattle.dali_rest.proofs.Marks.{mark_same, mark_other}

pub not_undecided : (m : Mark) → m ≢ Undecided → is_undecided m ≡ false
not_undecided Undecided other = absurd (other refl)
not_undecided Stranger other = refl
not_undecided Chosen other = refl
not_undecided Left other = refl

pub chosen_or : (m : Mark) → m ≡ Chosen → m ≢ Undecided
chosen_or m is other = absurd (cc (is, other))

pub left_or : (m : Mark) → m ≡ Left → m ≢ Undecided
left_or m is other = absurd (cc (is, other))

pub nonneg : (z : ℤ) → pos 0 ≤ℤ z → is_negative z ≡ false
nonneg z up = grind (arith, ints)

pub nonneg_of : (z : ℤ) → is_negative z ≡ false → pos 0 ≤ℤ z
nonneg_of z told = grind (arith, ints)

-- where each place is decided, a line is short exactly where it is negative
decided_credits : (p : Clearing) (f : List Mark) (l : ℕ) → AreDecided p f → credits p f l ≡ pos 0
decided_credits p f l all =
    sum_below_same (λ j. pick (is_undecided (mark f j)) (int_max (pos 0) (effect p j l))) (λ _. pos 0) (length p.items)
    (λ j below. ap (λ b. pick b (int_max (pos 0) (effect p j l))) (not_undecided (mark f j) (all.decided j below)))
    ∙ sum_below_zero (length p.items)

pub short_decided : (p : Clearing) (f : List Mark) (l : ℕ) → AreDecided p f → is_short p f l ≡ is_negative (held p f l)
short_decided p f l all =
    let none = decided_credits p f l all in
    let sum : held p f l +ℤ credits p f l ≡ held p f l = omega (arith, ints, none) in
    ap is_negative sum

pub held_chosen : (p : Clearing) (f : List Mark) (j l : ℕ) → length f ≡ length p.items → j < length p.items → mark f j ≡ Left →
    held p (set f j Chosen) l ≡ held p f l +ℤ effect p j l
held_chosen p f j l size within left =
    let turned = held_turned p f j l Chosen size within in
    let was : pick (is_chosen (mark f j)) (effect p j l) ≡ pos 0 = ap (λ m. pick (is_chosen m) (effect p j l)) left in
    omega (arith, ints, turned, was)

pub held_left : (p : Clearing) (f : List Mark) (j l : ℕ) → length f ≡ length p.items → j < length p.items → mark f j ≡ Chosen →
    held p (set f j Left) l ≡ held p f l -ℤ effect p j l
held_left p f j l size within chosen =
    let turned = held_turned p f j l Left size within in
    let was : pick (is_chosen (mark f j)) (effect p j l) ≡ effect p j l = ap (λ m. pick (is_chosen m) (effect p j l)) chosen in
    omega (arith, ints, turned, was)

pub decided_set : (p : Clearing) (f : List Mark) (j : ℕ) (m : Mark) → length f ≡ length p.items → m ≢ Undecided → AreDecided p f → AreDecided p (set f j m)
decided_set p f j m size other all = record {
  decided = (λ k below. elim (cases_eq k j) as (λ _. mark (set f j m) k ≢ Undecided) [
    | inl same ↦ subst (λ n. mark (set f j m) n ≢ Undecided) (sym same)
        (subst (λ n. n ≢ Undecided) (sym (mark_same f j m (omega (arith, size, below, same)))) other)
    | inr off ↦ subst (λ n. n ≢ Undecided) (sym (mark_other f j k m off)) (all.decided k below)
  ]);
}

-- no line is short, where none is that a place changes, nor any other
pub covered_by : (p : Clearing) (g : List Mark) (j : ℕ) →
    ((l : ℕ) → l < length p.lines → effect p j l ≡ pos 0 → is_short p g l ≡ false) →
    All (λ e. is_short p g e.line ≡ false) (item_at p j).effects → IsCovered p g
covered_by p g j others own = record {
  covered = (λ l below. elim (present l (record { line = 0; amount = pos 0 }) (item_at p j).effects) as (λ _. is_short p g l ≡ false) [
    | inl none ↦ others l below none
    | inr found ↦ subst (λ k. is_short p g k ≡ false) found.2 (own found.0 (record { line = 0; amount = pos 0 }) found.1)
  ]);
}

pub covers_own : (p : Clearing) (g : List Mark) (j : ℕ) → IsProblem p → j < length p.items → IsCovered p g →
    All (λ e. is_short p g e.line ≡ false) (item_at p j).effects
covers_own p g j limits within all k d below =
    all.covered (get_or (item_at p j).effects k d).line ((item_limits p j limits within).effects.in_range k d below)

-- a line that a place doesn't change is short with it chosen exactly where it is without it
pub same_short : (p : Clearing) (f g : List Mark) (l : ℕ) → AreDecided p f → AreDecided p g → held p g l ≡ held p f l → is_short p f l ≡ false → is_short p g l ≡ false
same_short p f g l of_f of_g same told =
    short_decided p g l of_g ∙ ap is_negative same ∙ sym (short_decided p f l of_f) ∙ told

pub chosen_apart : (p : Clearing) (f : List Mark) (j l : ℕ) → length f ≡ length p.items → j < length p.items → AreDecided p f → mark f j ≡ Left →
    effect p j l ≡ pos 0 → is_short p f l ≡ false → is_short p (set f j Chosen) l ≡ false
chosen_apart p f j l size within all left none told =
    let is = held_chosen p f j l size within left in
    same_short p f (set f j Chosen) l all (decided_set p f j Chosen size (chosen_or Chosen refl) all) (omega (arith, ints, is, none)) told

pub fits_is : (p : Clearing) (f : List Mark) (j : ℕ) → length f ≡ length p.items → j < length p.items → AreDecided p f → IsCovered p f → mark f j ≡ Left →
    All (λ e. is_short p (set f j Chosen) e.line ≡ false) (item_at p j).effects → IsCovered p (set f j Chosen)
fits_is p f j size within all covered left own =
    covered_by p (set f j Chosen) j (λ l below none. chosen_apart p f j l size within all left none (covered.covered l below)) own

pub mends_is : (p : Clearing) (f : List Mark) (j i : ℕ) → length f ≡ length p.items → j < length p.items → AreDecided p f → IsCoveredBut p f i → mark f j ≡ Left →
    All (λ e. is_short p (set f j Chosen) e.line ≡ false) (item_at p j).effects →
    All (λ e. is_short p (set f j Chosen) e.line ≡ false) (item_at p i).effects → IsCovered p (set f j Chosen)
mends_is p f j i size within all covered left own other =
    covered_by p (set f j Chosen) j (λ l below none. elim (present l (record { line = 0; amount = pos 0 }) (item_at p i).effects) as (λ _. is_short p (set f j Chosen) l ≡ false) [
      | inl apart ↦ chosen_apart p f j l size within all left none (covered.covered l below apart)
      | inr found ↦ subst (λ k. is_short p (set f j Chosen) k ≡ false) found.2 (other found.0 (record { line = 0; amount = pos 0 }) found.1)
    ]) own

pub covered_but : (p : Clearing) (f : List Mark) (i : ℕ) → length f ≡ length p.items → i < length p.items → AreDecided p f → IsCovered p f → mark f i ≡ Chosen →
    IsCoveredBut p (set f i Left) i
covered_but p f i size within all covered chosen = record {
  covered = (λ l below none.
      let is = held_left p f i l size within chosen in
      same_short p f (set f i Left) l all (decided_set p f i Left size (left_or Left refl) all) (omega (arith, ints, is, none)) (covered.covered l below));
}
