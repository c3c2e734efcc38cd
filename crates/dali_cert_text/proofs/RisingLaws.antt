use Rattle.std.proofs.Common.{◌≡◌, ◌∙◌, ℕ, suc, ◌+◌, ◌*◌, ◌^◌, ◌<◌, ◌≤◌, true, Option, Some, List, [], ◌∷◌, length, map, refl, ap, subst, ◌≢◌, arith}
use Rattle.std.proofs.lemmas.Bool.Decides.{nat_tests}
use Rattle.std.proofs.lemmas.List.Elements.{All-from_recursion, All-weaker, All-head, All-tail}
use Rattle.std.proofs.lemmas.List.Kept.{AllPairs-cons}
use Rattle.std.specs.Prelude.{decimal, option_and_then, nat_lt, nat_le, ◌&&◌, pos}
use Rattle.std.specs.List.{All, AllPairs, AllByRecursion, list_all}
use Rattle.dali_base.proofs.Spelled.{and_parts, both}
use Rattle.dali_problem.specs.declared.row.Effect.{Effect}
use Rattle.dali_problem.specs.Limits.{Within, AreEffects}
use Rattle.dali_tree.specs.Fits.{AreRising, is_rising, multiplier_fits, lam_fits}
use Rattle.dali_fits.proofs.Rising.{rising_lines}
use Rattle.dali_cert_print.specs.Rows.{effect_field, multiplier_field}
use Rattle.dali_cert_text.specs.Fields.{rising_of, number_below, effect_of, multiplier_of, places_of, effects_of, multipliers_of}
use Rattle.dali_cert_text.proofs.Binds.{bind_some, some_is}
use Rattle.dali_cert_text.proofs.FieldLaws.{IsAmount, below_is, below_again, effect_is, effect_again, multiplier_is, multiplier_again}

-- A list that is read rises, and a list that rises is read.

-- by a key, from low on
abbrev pub Rises : {A : Type 0} → (A → ℕ) → ℕ → List A → Type 0
Rises key low [] = Unit {0}
Rises key low (x ∷ xs) = (low ≤ key x) × Rises key (key x + 1) xs

module _ {A : Type 0} (read : ℕ → List ℕ → Option A) (key : A → ℕ) (text : A → List ℕ) (P : A → Type 0) where
  pub list_is : (one : (low : ℕ) (f : List ℕ) (x : A) → read low f ≡ Some x → (low ≤ key x) × P x × (f ≡ text x)) → (low : ℕ) (fs : List (List ℕ)) (xs : List A) →
      rising_of read key low fs ≡ Some xs → Rises key low xs × AllByRecursion P xs × (fs ≡ map text xs)
  list_is one low [] xs told = subst (λ (ys : List A). Rises key low ys × AllByRecursion P ys × ([] ≡ map text ys)) (some_is [] xs told) (tt, tt, refl)
  list_is one low (f ∷ fs) xs told =
      let a = bind_some (λ (x : A). option_and_then (λ ys. Some (x ∷ ys)) (rising_of read key (key x + 1) fs)) (read low f) xs told in
      let b = bind_some (λ (ys : List A). Some (a.0 ∷ ys)) (rising_of read key (key a.0 + 1) fs) xs a.2 in
      let first = one low f a.0 a.1 in
      let rest = list_is one (key a.0 + 1) fs b.0 b.1 in
      subst (λ (ys : List A). Rises key low ys × AllByRecursion P ys × (f ∷ fs ≡ map text ys)) (some_is (a.0 ∷ b.0) xs b.2)
      ((first.0, rest.0), (first.1, rest.1), ap (λ (g : List ℕ). g ∷ fs) first.2 ∙ ap (λ (gs : List (List ℕ)). text a.0 ∷ gs) rest.2)

  pub list_again : (one : (low : ℕ) (x : A) → low ≤ key x → P x → read low (text x) ≡ Some x) → (low : ℕ) (xs : List A) →
      Rises key low xs → AllByRecursion P xs → rising_of read key low (map text xs) ≡ Some xs
  list_again one low [] rises all = refl
  list_again one low (x ∷ xs) rises all =
      ap (option_and_then (λ (y : A). option_and_then (λ ys. Some (y ∷ ys)) (rising_of read key (key y + 1) (map text xs)))) (one low x rises.0 all.0)
      ∙ ap (option_and_then (λ (ys : List A). Some (x ∷ ys))) (list_again one (key x + 1) xs rises.1 all.1)

module _ {A : Type 0} (key : A → ℕ) where
  least_of : (low : ℕ) (xs : List A) → Rises key low xs → (low' : ℕ) → low' ≤ low → AllByRecursion (λ y. low' ≤ key y) xs
  least_of low [] rises low' le = tt
  least_of low (x ∷ xs) rises low' le = (omega (arith, rises.0), least_of (key x + 1) xs rises.1 low' (omega (arith, rises.0)))

  pub pairs_of : (low : ℕ) (xs : List A) → Rises key low xs → AllPairs (λ a b. key a < key b) xs
  pairs_of low [] rises = λ i j d before within. absurd (omega arith)
  pairs_of low (x ∷ xs) rises =
      AllPairs-cons (λ a b. key a < key b) x xs
      (All-weaker (λ y. key x + 1 ≤ key y) (λ y. key x < key y) (λ y le. omega arith) xs
      (All-from_recursion (λ y. key x + 1 ≤ key y) xs (least_of (key x + 1) xs rises.1 (key x + 1) (omega arith))))
      (pairs_of (key x + 1) xs rises.1)

  pub rises_of : (low : ℕ) (xs : List A) → AllPairs (λ a b. key a < key b) xs → AllByRecursion (λ y. low ≤ key y) xs → Rises key low xs
  rises_of low [] pairs all = tt
  rises_of low (x ∷ xs) pairs all =
      (all.0, rises_of (key x + 1) xs (λ i j d before within. pairs (suc i) (suc j) d (omega arith) (omega arith)) (above xs (λ k d below. pairs 0 (suc k) d (omega arith) (omega arith))))
    where
      above : (ys : List A) → All (λ y. key x < key y) ys → AllByRecursion (λ y. key x + 1 ≤ key y) ys
      above [] less = tt
      above (y ∷ ys) less =
          let head : key x < key y = All-head (λ z. key x < key z) y ys less in
          (omega arith, above ys (All-tail (λ z. key x < key z) y ys less))

pub recursion_of : {A : Type 0} (P : A → Type 0) (xs : List A) → All P xs → AllByRecursion P xs
recursion_of P [] all = tt
recursion_of P (x ∷ xs) all = (All-head P x xs all, recursion_of P xs (All-tail P x xs all))

recursion_weaker : {A : Type 0} (P Q : A → Type 0) → ((x : A) → P x → Q x) → (xs : List A) → AllByRecursion P xs → AllByRecursion Q xs
recursion_weaker P Q weaker [] all = tt
recursion_weaker P Q weaker (x ∷ xs) all = (weaker x all.0, recursion_weaker P Q weaker xs all.1)

recursion_both : {A : Type 0} (P Q : A → Type 0) (xs : List A) → AllByRecursion P xs → AllByRecursion Q xs → AllByRecursion (λ x. P x × Q x) xs
recursion_both P Q [] ps qs = tt
recursion_both P Q (x ∷ xs) ps qs = ((ps.0, qs.0), recursion_both P Q xs ps.1 qs.1)

pub from_zero : {A : Type 0} (key : A → ℕ) (xs : List A) → AllByRecursion (λ y. 0 ≤ key y) xs
from_zero key [] = tt
from_zero key (x ∷ xs) = (omega arith, from_zero key xs)

-- ---- places

pub places_are : (end : ℕ) (fs : List (List ℕ)) (places : List ℕ) → places_of end 0 fs ≡ Some places → AreRising end places × (fs ≡ map decimal places)
unfolding places_of
places_are end fs places told =
    let is = list_is (number_below end) (λ place. place) decimal (λ n. n < end) (λ low f n t. let b = below_is end low f n t in (b.0, b.1, b.2)) 0 fs places told in
    (record { rising = pairs_of (λ n. n) 0 places is.0; in_range = All-from_recursion (λ n. n < end) places is.1 }, is.2)

pub places_again : (end : ℕ) (places : List ℕ) → end ≤ 2 ^ 32 → AreRising end places → places_of end 0 (map decimal places) ≡ Some places
unfolding places_of
places_again end places small are =
    list_again (number_below end) (λ place. place) decimal (λ n. n < end) (λ low n le below. below_again end low n small le below) 0 places
    (rises_of (λ n. n) 0 places are.rising (from_zero (λ n. n) places)) (recursion_of (λ n. n < end) places are.in_range)

-- ---- effects

record IsEffect (end : ℕ) (e : Effect) : Type 0 where
  below : e.line < end
  amount : IsAmount e.amount

pub effects_are : (end : ℕ) (fs : List (List ℕ)) (effects : List Effect) → effects_of end 0 fs ≡ Some effects → length effects ≤ 32 →
    AreEffects end effects × (fs ≡ map effect_field effects)
unfolding effects_of
effects_are end fs effects told few =
    let is = list_is (effect_of end) (λ e. e.line) effect_field (IsEffect end)
    (λ low f e t. let b = effect_is end low f e t in (b.0, record { below = b.1; amount = b.2 }, b.3)) 0 fs effects told in
    let all = All-from_recursion (IsEffect end) effects is.1 in (
      record {
        size = few;
        rising = pairs_of (λ e. e.line) 0 effects is.0;
        in_range = All-weaker (IsEffect end) (λ e. e.line < end) (λ e h. h.below) effects all;
        not_zero = All-weaker (IsEffect end) (λ e. e.amount ≢ pos 0) (λ e h. h.amount.not_zero) effects all;
        bounded = All-weaker (IsEffect end) (λ e. Within (8 * 10 ^ 15) e.amount) (λ e h. h.amount.bounded) effects all;
      },
      is.2,
    )

pub effects_again : (end : ℕ) (effects : List Effect) → end ≤ 2 ^ 32 → AreEffects end effects → effects_of end 0 (map effect_field effects) ≡ Some effects
unfolding effects_of
effects_again end effects small are =
    list_again (effect_of end) (λ e. e.line) effect_field (IsEffect end) (λ low e le h. effect_again end low e small le h.below h.amount) 0 effects
    (rises_of (λ e. e.line) 0 effects are.rising (from_zero (λ e. e.line) effects))
    (recursion_of (IsEffect end) effects (λ k d below. record {
      below = are.in_range k d below;
      amount = record { not_zero = are.not_zero k d below; bounded = are.bounded k d below };
    }))

-- ---- multipliers

record IsMultiplier (end : ℕ) (m : ℕ × ℕ) : Type 0 where
  below : m.0 < end
  least : 1 ≤ m.1
  most : m.1 ≤ 2 ^ 44

all_fit : (end : ℕ) (lam : List (ℕ × ℕ)) → AllByRecursion (IsMultiplier end) lam → list_all (multiplier_fits end) lam ≡ true
all_fit end [] all = refl
all_fit end (m ∷ lam) all =
    let below : nat_lt m.0 end ≡ true = grind (arith, nat_tests, all.0.below) in
    let least : nat_le 1 m.1 ≡ true = grind (arith, nat_tests, all.0.least) in
    let most : nat_le m.1 (2 ^ 44) ≡ true = grind (arith, nat_tests, all.0.most) in
    both (multiplier_fits end m) (list_all (multiplier_fits end) lam)
    (both (nat_lt m.0 end && nat_le 1 m.1) (nat_le m.1 (2 ^ 44)) (both (nat_lt m.0 end) (nat_le 1 m.1) below least) most) (all_fit end lam all.1)

fit_all : (end : ℕ) (lam : List (ℕ × ℕ)) → list_all (multiplier_fits end) lam ≡ true → AllByRecursion (IsMultiplier end) lam
fit_all end [] told = tt
fit_all end (m ∷ lam) told =
    let parts = and_parts (multiplier_fits end m) (list_all (multiplier_fits end) lam) told in
    let tests = and_parts (nat_lt m.0 end && nat_le 1 m.1) (nat_le m.1 (2 ^ 44)) parts.0 in
    let low = and_parts (nat_lt m.0 end) (nat_le 1 m.1) tests.0 in
    (record { below = grind (arith, nat_tests, low.0); least = grind (arith, nat_tests, low.1); most = grind (arith, nat_tests, tests.1) }, fit_all end lam parts.1)

pub multipliers_are : (end : ℕ) (fs : List (List ℕ)) (lam : List (ℕ × ℕ)) → multipliers_of end 0 fs ≡ Some lam →
    (lam_fits end lam ≡ true) × (fs ≡ map multiplier_field lam)
unfolding multipliers_of
multipliers_are end fs lam told =
    let is = list_is (multiplier_of end) (λ m. m.0) multiplier_field (IsMultiplier end)
    (λ low f m t. let b = multiplier_is end low f m t in (b.0, record { below = b.1; least = b.2; most = b.3 }, b.4)) 0 fs lam told in (
      both (list_all (multiplier_fits end) lam) (is_rising (map (λ (m : ℕ × ℕ). m.0) lam)) (all_fit end lam is.1)
          ((rising_lines lam).1 (pairs_of (λ (m : ℕ × ℕ). m.0) 0 lam is.0)),
      is.2,
    )

pub multipliers_again : (end : ℕ) (lam : List (ℕ × ℕ)) → end ≤ 2 ^ 32 → lam_fits end lam ≡ true → multipliers_of end 0 (map multiplier_field lam) ≡ Some lam
unfolding multipliers_of
multipliers_again end lam small told =
    let parts = and_parts (list_all (multiplier_fits end) lam) (is_rising (map (λ (m : ℕ × ℕ). m.0) lam)) told in
    list_again (multiplier_of end) (λ m. m.0) multiplier_field (IsMultiplier end) (λ low m le h. multiplier_again end low m small le h.below h.least h.most) 0 lam
    (rises_of (λ (m : ℕ × ℕ). m.0) 0 lam ((rising_lines lam).0 parts.1) (from_zero (λ (m : ℕ × ℕ). m.0) lam)) (fit_all end lam parts.0)
