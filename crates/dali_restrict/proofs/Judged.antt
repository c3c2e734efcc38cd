use Rattle.std.proofs.Common.{◌≡◌, ℕ, zero, suc, ◌+◌, ◌*◌, ◌<◌, pos, Bool, true, false, ◌&&◌, ◌||◌, not, ltb, leb, List, length, set, if◌then◌else◌, refl, ap, sym, ◌∙◌}
use Rattle.std.specs.List.{All}
use Rattle.std.specs.Int.RustNames.{unsigned_abs}
use Rattle.std.specs.Int.Signed.{lt_z, le_z}
use Rattle.dali_problem.specs.declared.mark.Mark.{Mark}
use Rattle.dali_problem.specs.declared.mark.Mark.TheVariants.{Stranger, Chosen, Left}
use Rattle.dali_problem.specs.Clearing.{Clearing, effect}
use Rattle.dali_problem.specs.Partial.{mark, is_undecided}
use Rattle.dali_problem.specs.Rules.{is_negative, is_short, is_barred, is_needed, is_covered, is_safe, all_below}
use Rattle.dali_lagrange.specs.Multipliers.{multiplier}
use Rattle.dali_lagrange.specs.Settled.{is_settled}
use Rattle.dali_check.specs.Proves.{closes}
use Rattle.dali_check.specs.Lean.{reaches, is_reduced, is_open, nearness, is_nearest, is_worked, is_finished, is_led, is_tight}
use Rattle.dali_restrict.specs.Restriction.{old_of}
use Rattle.dali_restrict.specs.Widened.{wide_lam}
use Rattle.dali_restrict.proofs.Spread.{old_order, all_spread}
use Rattle.dali_restrict.proofs.Renumber.{IsPart}
use Rattle.dali_restrict.proofs.Wide.{IsWide, both, undecided_wide, barred_wide, needed_wide, barred_outside, needed_outside, safe_wide}
use Rattle.dali_restrict.proofs.Weighed.{reduced_wide, sum_wide, settled_wide, lam_wide}

-- multipliers on lines of the inner problem
pub record AreInner (lines : List ℕ) (lam : List (ℕ × ℕ)) : Type 0 where
  pub within : All (λ (m : ℕ × ℕ). m.0 < length lines) lam

-- each test that makes a tree proved or lean tells the same of the old numbers and of the new
pub closes_wide : (p q : Clearing) (places lines : List ℕ) (f g : List Mark) (u : ℕ) (lam : List (ℕ × ℕ)) → IsPart p q places lines → IsWide (length p.items) places f g →
    AreInner lines lam → closes p u (wide_lam lines lam) g ≡ closes q u lam f
unfolding closes
closes_wide p q places lines f g u lam part wide inner = ap (λ z. lt_z z (pos (4096 * (u + 1))))
    (sum_wide p q places lines f g (multiplier lam) (multiplier (wide_lam lines lam)) part wide (lam_wide (length p.lines) lines lam part.changed inner.within))

reaches_wide : (p q : Clearing) (places lines : List ℕ) (f g : List Mark) (u : ℕ) (lam : List (ℕ × ℕ)) → IsPart p q places lines → IsWide (length p.items) places f g →
    AreInner lines lam → reaches p u (wide_lam lines lam) g ≡ reaches q u lam f
unfolding reaches
reaches_wide p q places lines f g u lam part wide inner = ap (le_z (pos (4096 * u)))
    (sum_wide p q places lines f g (multiplier lam) (multiplier (wide_lam lines lam)) part wide (lam_wide (length p.lines) lines lam part.changed inner.within))

not_safe : (p : Clearing) (g : List Mark) (j : ℕ) → mark g j ≡ Stranger → is_safe p g j ≡ false
not_safe p g j is = ap (λ m. is_undecided m && all_below (λ l. not (is_negative (effect p j l)) || is_covered p g l) (length p.lines)) is

reduced_same : (p q : Clearing) (places lines : List ℕ) (f g : List Mark) → IsPart p q places lines → IsWide (length p.items) places f g → is_reduced p g ≡ is_reduced q f
unfolding is_reduced
reduced_same p q places lines f g part wide =
    all_spread (λ j. not (is_safe p g j) && all_below (λ l. not (is_barred p g j l) && not (is_needed p g j l)) (length p.lines))
    (λ i. not (is_safe q f i) && all_below (λ k. not (is_barred q f i k) && not (is_needed q f i k)) (length q.lines))
    (length p.items) places part.members
    (λ i within. both (not (is_safe p g (old_of places i))) (not (is_safe q f i))
    (all_below (λ l. not (is_barred p g (old_of places i) l) && not (is_needed p g (old_of places i) l)) (length p.lines))
    (all_below (λ k. not (is_barred q f i k) && not (is_needed q f i k)) (length q.lines))
    (ap not (safe_wide p q places lines f g i part wide within))
    (all_spread (λ l. not (is_barred p g (old_of places i) l) && not (is_needed p g (old_of places i) l)) (λ k. not (is_barred q f i k) && not (is_needed q f i k))
    (length p.lines) lines part.changed
    (λ k below. both (not (is_barred p g (old_of places i) (old_of lines k))) (not (is_barred q f i k))
    (not (is_needed p g (old_of places i) (old_of lines k))) (not (is_needed q f i k))
    (ap not (barred_wide p q places lines f g i k part wide within below)) (ap not (needed_wide p q places lines f g i k part wide within below)))
    (λ l below out. both (not (is_barred p g (old_of places i) l)) true (not (is_needed p g (old_of places i) l)) true
    (ap not (barred_outside p q places lines f g i l part wide within out)) (ap not (needed_outside p q places lines f g i l part wide within out)))
    ∙ ap (all_below (λ k. not (is_barred q f i k) && not (is_needed q f i k))) (sym part.lines_size)))
    (λ j below out. stranger_reduced j (wide.outside j out))
    ∙ ap (all_below (λ i. not (is_safe q f i) && all_below (λ k. not (is_barred q f i k) && not (is_needed q f i k)) (length q.lines))) (sym part.items_size)
  where
    all_true : (t : ℕ → Bool) (n : ℕ) → ((k : ℕ) → t k ≡ true) → all_below t n ≡ true
    all_true t zero each = refl
    all_true t (suc n) each = ap (λ b. b && all_below t n) (each n) ∙ all_true t n each

    barred_off : (j l : ℕ) → mark g j ≡ Stranger → is_barred p g j l ≡ false
    barred_off j l is = ap (λ m. is_undecided m && is_short p (set g j Chosen) l) is

    needed_off : (j l : ℕ) → mark g j ≡ Stranger → is_needed p g j l ≡ false
    needed_off j l is = ap (λ m. is_undecided m && is_short p (set g j Left) l) is

    stranger_reduced : (j : ℕ) → mark g j ≡ Stranger →
        (not (is_safe p g j) && all_below (λ l. not (is_barred p g j l) && not (is_needed p g j l)) (length p.lines)) ≡ true
    stranger_reduced j is =
        both (not (is_safe p g j)) true (all_below (λ l. not (is_barred p g j l) && not (is_needed p g j l)) (length p.lines)) true
        (ap not (not_safe p g j is))
        (all_true (λ l. not (is_barred p g j l) && not (is_needed p g j l)) (length p.lines)
        (λ l. both (not (is_barred p g j l)) true (not (is_needed p g j l)) true (ap not (barred_off j l is)) (ap not (needed_off j l is))))

open_same : (p q : Clearing) (places lines : List ℕ) (f g : List Mark) → IsPart p q places lines → IsWide (length p.items) places f g → is_open p g ≡ is_open q f
unfolding is_open
open_same p q places lines f g part wide = ap not
    (all_spread (λ j. not (is_undecided (mark g j))) (λ i. not (is_undecided (mark f i))) (length p.items) places part.members
    (λ i within. ap not (undecided_wide (length p.items) places f g i wide within))
    (λ j below out. ap (λ m. not (is_undecided m)) (wide.outside j out))
    ∙ ap (all_below (λ i. not (is_undecided (mark f i)))) (sym part.items_size))

near_wide : (p q : Clearing) (places lines : List ℕ) (lam : List (ℕ × ℕ)) (i : ℕ) → IsPart p q places lines → AreInner lines lam → i < length places →
    nearness p (wide_lam lines lam) (old_of places i) ≡ nearness q lam i
near_wide p q places lines lam i part inner within = ap unsigned_abs
    (reduced_wide p q places lines (multiplier lam) (multiplier (wide_lam lines lam)) i part (lam_wide (length p.lines) lines lam part.changed inner.within).inside within)

nearest_wide : (p q : Clearing) (places lines : List ℕ) (f g : List Mark) (lam : List (ℕ × ℕ)) (place : ℕ) → IsPart p q places lines → IsWide (length p.items) places f g →
    AreInner lines lam → place < length places → is_nearest p (wide_lam lines lam) g (old_of places place) ≡ is_nearest q lam f place
unfolding is_nearest
nearest_wide p q places lines f g lam place part wide inner within =
    both (is_undecided (mark g (old_of places place))) (is_undecided (mark f place)) (all_below outer_test (length p.items)) (all_below inner_test (length q.items))
    (undecided_wide (length p.items) places f g place wide within)
    (all_spread outer_test inner_test (length p.items) places part.members
    (λ i below.
    ap (λ b. not b || outer_than (old_of places i)) (undecided_wide (length p.items) places f g i wide below)
    ∙ ap (λ b. not (is_undecided (mark f i)) || b) (than_same i below))
    (λ j below out. ap (λ m. not (is_undecided m) || outer_than j) (wide.outside j out))
    ∙ ap (all_below inner_test) (sym part.items_size))
  where
    outer_than : ℕ → Bool
    outer_than j = if ltb j (old_of places place) then ltb (nearness p (wide_lam lines lam) (old_of places place)) (nearness p (wide_lam lines lam) j) else leb (nearness p (wide_lam lines lam) (old_of places place)) (nearness p (wide_lam lines lam) j)

    inner_than : ℕ → Bool
    inner_than i = if ltb i place then ltb (nearness q lam place) (nearness q lam i) else leb (nearness q lam place) (nearness q lam i)

    outer_test : ℕ → Bool
    outer_test j = not (is_undecided (mark g j)) || outer_than j

    inner_test : ℕ → Bool
    inner_test i = not (is_undecided (mark f i)) || inner_than i

    choose : (b c : Bool) (x y x1 y1 : ℕ) → b ≡ c → x ≡ x1 → y ≡ y1 → (if b then ltb x y else leb x y) ≡ (if c then ltb x1 y1 else leb x1 y1)
    choose b c x y x1 y1 same one two =
        ap (λ t. if t then ltb x y else leb x y) same ∙ ap (λ (n : ℕ). if c then ltb n y else leb n y) one ∙ ap (λ (n : ℕ). if c then ltb x1 n else leb x1 n) two

    than_same : (i : ℕ) → i < length places → outer_than (old_of places i) ≡ inner_than i
    than_same i below = choose (ltb (old_of places i) (old_of places place)) (ltb i place)
        (nearness p (wide_lam lines lam) (old_of places place)) (nearness p (wide_lam lines lam) (old_of places i)) (nearness q lam place) (nearness q lam i)
        (old_order (length p.items) places i place part.members below within)
        (near_wide p q places lines lam place part inner within) (near_wide p q places lines lam i part inner below)

worked_wide : (p q : Clearing) (places lines : List ℕ) (f g : List Mark) (lam : List (ℕ × ℕ)) → IsPart p q places lines → IsWide (length p.items) places f g →
    AreInner lines lam → is_worked p (wide_lam lines lam) g ≡ is_worked q lam f
worked_wide p q places lines f g lam part wide inner =
    both (is_settled p g (multiplier (wide_lam lines lam))) (is_settled q f (multiplier lam)) (is_reduced p g) (is_reduced q f)
    (settled_wide p q places lines f g (multiplier lam) (multiplier (wide_lam lines lam)) part wide (lam_wide (length p.lines) lines lam part.changed inner.within))
    (reduced_same p q places lines f g part wide)

pub finished_wide : (p q : Clearing) (places lines : List ℕ) (f g : List Mark) (v : ℕ) (lam : List (ℕ × ℕ)) → IsPart p q places lines → IsWide (length p.items) places f g →
    AreInner lines lam → is_finished p v (wide_lam lines lam) g ≡ is_finished q v lam f
unfolding is_finished
finished_wide p q places lines f g v lam part wide inner =
    ap (λ b. not b || (is_worked p (wide_lam lines lam) g && is_open p g)) (reaches_wide p q places lines f g (v + 1) lam part wide inner)
    ∙ ap (λ b. not (reaches q (v + 1) lam f) || b)
    (both (is_worked p (wide_lam lines lam) g) (is_worked q lam f) (is_open p g) (is_open q f)
    (worked_wide p q places lines f g lam part wide inner) (open_same p q places lines f g part wide))

pub led_wide : (p q : Clearing) (places lines : List ℕ) (f g : List Mark) (u : ℕ) (lam : List (ℕ × ℕ)) (place : ℕ) → IsPart p q places lines → IsWide (length p.items) places f g →
    AreInner lines lam → place < length places → is_led p u (wide_lam lines lam) g (old_of places place) ≡ is_led q u lam f place
unfolding is_led
led_wide p q places lines f g u lam place part wide inner within =
    both (reaches p u (wide_lam lines lam) g && is_worked p (wide_lam lines lam) g) (reaches q u lam f && is_worked q lam f)
    (is_nearest p (wide_lam lines lam) g (old_of places place)) (is_nearest q lam f place)
    (both (reaches p u (wide_lam lines lam) g) (reaches q u lam f) (is_worked p (wide_lam lines lam) g) (is_worked q lam f)
    (reaches_wide p q places lines f g u lam part wide inner) (worked_wide p q places lines f g lam part wide inner))
    (nearest_wide p q places lines f g lam place part wide inner within)

pub tight_wide : (p q : Clearing) (places lines : List ℕ) (f g : List Mark) (u : ℕ) (lam : List (ℕ × ℕ)) → IsPart p q places lines → IsWide (length p.items) places f g →
    AreInner lines lam → is_tight p u (wide_lam lines lam) g ≡ is_tight q u lam f
unfolding is_tight
tight_wide p q places lines f g u lam part wide inner =
    both (reaches p u (wide_lam lines lam) g) (reaches q u lam f) (closes p u (wide_lam lines lam) g) (closes q u lam f)
    (reaches_wide p q places lines f g u lam part wide inner) (closes_wide p q places lines f g u lam part wide inner)
