use Rattle.std.proofs.Common.{◌≡◌, ◌≢◌, inl, inr, ℕ, zero, suc, ◌+◌, ◌<◌, ◌≤◌, ◌^◌, Bool, true, false, ◌&&◌, List, [], ◌∷◌, ◌++◌, length, map, get_or, eqb, cond, refl, ap, sym, ◌∙◌, subst, arith}
use Rattle.std.specs.Prelude.{nat_lt}
use Rattle.std.specs.List.{All, AllPairs, list_all}
use Rattle.std.proofs.lemmas.Bool.{cases_lt}
use Rattle.std.proofs.lemmas.Bool.Decides.{eqb_tells, nat_tests, Decides-ltb}
use Rattle.std.proofs.lemmas.List.Elements.{All-head, All-tail, All-push, All-weaker}
use Rattle.std.proofs.lemmas.List.Sums.{AllPass-from_list_all, list_all-from_AllPass}
use Rattle.std.proofs.lemmas.List.Quantifiers.{all_pairs_push}
use Rattle.dali_tree.specs.Fits.{multiplier_fits, is_rising, lam_fits}
use Rattle.dali_lagrange.specs.Listed.{IsNext}
use Rattle.dali_lagrange.specs.Multipliers.{AreMultipliers, multiplier}

multiplier_same : (m : ℕ × ℕ) (rest : List (ℕ × ℕ)) (l : ℕ) → m.0 ≡ l → multiplier (m ∷ rest) l ≡ m.1
multiplier_same m rest l at = elim (eqb_tells m.0 l) as (λ _. multiplier (m ∷ rest) l ≡ m.1) [
  | inl same ↦ ap (λ b. cond b m.1 (multiplier rest l)) same.0
  | inr other ↦ absurd (other.1 at)
]

multiplier_other : (m : ℕ × ℕ) (rest : List (ℕ × ℕ)) (l : ℕ) → m.0 ≢ l → multiplier (m ∷ rest) l ≡ multiplier rest l
multiplier_other m rest l off = elim (eqb_tells m.0 l) as (λ _. multiplier (m ∷ rest) l ≡ multiplier rest l) [
  | inl same ↦ absurd (off same.1)
  | inr other ↦ ap (λ b. cond b m.1 (multiplier rest l)) other.0
]

-- a pair that stands on the line, after those on lines before it
pub multiplier_at : (lam : List (ℕ × ℕ)) (i l : ℕ) → i < length lam → ((k : ℕ) → k < i → (get_or lam k (0, 0)).0 < l) → (get_or lam i (0, 0)).0 ≡ l →
    (get_or lam i (0, 0)).1 ≡ multiplier lam l
multiplier_at [] i l within before at = absurd (omega (arith, within))
multiplier_at (m ∷ rest) zero l within before at = sym (multiplier_same m rest l at)
multiplier_at (m ∷ rest) (suc i) l within before at =
    let first : m.0 < l = before 0 (omega arith) in
    multiplier_at rest i l (omega (arith, within)) (λ k below. before (suc k) (omega (arith, below))) at
    ∙ sym (multiplier_other m rest l (λ e. absurd (omega (arith, first, e))))

-- no pair stands on the line
pub multiplier_none : (lam : List (ℕ × ℕ)) (l : ℕ) → ((k : ℕ) → k < length lam → (get_or lam k (0, 0)).0 ≢ l) → multiplier lam l ≡ 0
multiplier_none [] l off = refl
multiplier_none (m ∷ rest) l off =
    multiplier_other m rest l (off 0 (omega arith)) ∙ multiplier_none rest l (λ k below. off (suc k) (omega (arith, below)))

-- the pair that is next stands on a line behind this one
pub multiplier_past : (lam : List (ℕ × ℕ)) (i l : ℕ) → AllPairs (λ (a b : ℕ × ℕ). a.0 < b.0) lam → IsNext lam i l →
    (i < length lam → (get_or lam i (0, 0)).0 ≢ l) → multiplier lam l ≡ 0
multiplier_past lam i l rising next off = multiplier_none lam l (λ k below same. elim (cases_lt k i) as (λ _. ⊥) [
  | inl early ↦ (let less = next.before k early in absurd (omega (arith, less, same)))
  | inr late ↦
      let inside : i < length lam = omega (arith, late, below) in
      let start = next.behind i (omega arith) inside in
      let here = off inside in
      elim (cases_lt i k) as (λ _. ⊥) [
        | inl past ↦ (let up = rising i k (0, 0) past below in absurd (omega (arith, up, same, start)))
        | inr at ↦
            let is : k ≡ i = omega (arith, at, late) in
            here (ap (λ n. (get_or lam n (0, 0)).0) (sym is) ∙ same)
      ]
])

-- what is listed of the lines below l
abbrev pub Listed : List ℕ → List (ℕ × ℕ) → ℕ → Type 0
Listed ms lam l = AreMultipliers l lam × All (λ (m : ℕ × ℕ). 1 ≤ m.1) lam × ((k : ℕ) → k < l → multiplier lam k ≡ get_or ms k 0)

multiplier_push : (lam : List (ℕ × ℕ)) (l m k : ℕ) → All (λ (n : ℕ × ℕ). n.0 < l) lam → k < l → multiplier (lam ++ (l, m) ∷ []) k ≡ multiplier lam k
multiplier_push [] l m k below less = multiplier_other (l, m) [] k (λ e. absurd (omega (arith, e, less)))
multiplier_push (n ∷ rest) l m k below less =
    let tail = multiplier_push rest l m k (All-tail (λ (n : ℕ × ℕ). n.0 < l) n rest below) less in
    ap (λ r. cond (eqb n.0 k) n.1 r) tail

multiplier_last : (lam : List (ℕ × ℕ)) (l m : ℕ) → All (λ (n : ℕ × ℕ). n.0 < l) lam → multiplier (lam ++ (l, m) ∷ []) l ≡ m
multiplier_last [] l m below = multiplier_same (l, m) [] l refl
multiplier_last (n ∷ rest) l m below =
    let first : n.0 < l = All-head (λ (n : ℕ × ℕ). n.0 < l) n rest below in
    multiplier_other n (rest ++ (l, m) ∷ []) l (λ e. absurd (omega (arith, e, first)))
    ∙ multiplier_last rest l m (All-tail (λ (n : ℕ × ℕ). n.0 < l) n rest below)

multiplier_nowhere : (lam : List (ℕ × ℕ)) (l : ℕ) → All (λ (n : ℕ × ℕ). n.0 < l) lam → multiplier lam l ≡ 0
multiplier_nowhere lam l below = multiplier_none lam l (λ k within same. absurd (let less = below k (0, 0) within in omega (arith, less, same)))

wider : (lam : List (ℕ × ℕ)) (l : ℕ) → All (λ (n : ℕ × ℕ). n.0 < l) lam → All (λ (n : ℕ × ℕ). n.0 < l + 1) lam
wider lam l below = All-weaker (λ (n : ℕ × ℕ). n.0 < l) (λ (n : ℕ × ℕ). n.0 < l + 1) (λ n less. omega (arith, less)) lam below

-- a line with a multiplier other than 0 is listed
pub push_listed : (ms : List ℕ) (lam new : List (ℕ × ℕ)) (l m : ℕ) → Listed ms lam l → m ≡ get_or ms l 0 → 1 ≤ m → m ≤ 2 ^ 44 → new ≡ lam ++ (l, m) ∷ [] → Listed ms new (l + 1)
push_listed ms lam new l m so_far is some most grown =
    let are = so_far.0 in
    subst (λ (xs : List (ℕ × ℕ)). Listed ms xs (l + 1)) (sym grown) (
      record {
        rising = all_pairs_push (λ (a b : ℕ × ℕ). a.0 < b.0) lam (l, m) are.rising (λ k d below. are.in_range k d below);
        in_range = All-push (λ (n : ℕ × ℕ). n.0 < l + 1) lam (l, m) (wider lam l are.in_range) (omega arith);
        bounded = All-push (λ (n : ℕ × ℕ). n.1 ≤ 2 ^ 44) lam (l, m) are.bounded most;
      },
      All-push (λ (n : ℕ × ℕ). 1 ≤ n.1) lam (l, m) so_far.1 some,
      λ k below. elim (cases_lt k l) as (λ _. multiplier (lam ++ (l, m) ∷ []) k ≡ get_or ms k 0) [
        | inl before ↦ multiplier_push lam l m k are.in_range before ∙ so_far.2 k before
        | inr at ↦
            let here : k ≡ l = omega (arith, below, at) in
            ap (multiplier (lam ++ (l, m) ∷ [])) here ∙ multiplier_last lam l m are.in_range ∙ is ∙ ap (λ i. get_or ms i 0) (sym here)
      ],
    )

-- a line whose multiplier is 0 isn't
pub skip_listed : (ms : List ℕ) (lam new : List (ℕ × ℕ)) (l : ℕ) → Listed ms lam l → get_or ms l 0 ≡ 0 → new ≡ lam → Listed ms new (l + 1)
skip_listed ms lam new l so_far none same =
    let are = so_far.0 in
    subst (λ (xs : List (ℕ × ℕ)). Listed ms xs (l + 1)) (sym same) (
      record { rising = are.rising; in_range = wider lam l are.in_range; bounded = are.bounded },
      so_far.1,
      λ k below. elim (cases_lt k l) as (λ _. multiplier lam k ≡ get_or ms k 0) [
        | inl before ↦ so_far.2 k before
        | inr at ↦
            let here : k ≡ l = omega (arith, below, at) in
            ap (multiplier lam) here ∙ multiplier_nowhere lam l are.in_range ∙ sym none ∙ ap (λ i. get_or ms i 0) (sym here)
      ],
    )

fits_one : (n : ℕ) (m : ℕ × ℕ) → m.0 < n → 1 ≤ m.1 → m.1 ≤ 2 ^ 44 → multiplier_fits n m ≡ true
fits_one n m within some most = grind (arith, nat_tests)

later_all : (m : ℕ × ℕ) (rest : List (ℕ × ℕ)) → All (λ (n : ℕ × ℕ). m.0 < n.0) rest → list_all (nat_lt m.0) (map (λ (n : ℕ × ℕ). n.0) rest) ≡ true
later_all m [] above = refl
later_all m (n ∷ rest) above =
    let first : m.0 < n.0 = All-head (λ (n : ℕ × ℕ). m.0 < n.0) n rest above in
    let told : nat_lt m.0 n.0 ≡ true = (Decides-ltb m.0 n.0).1 first in
    ap (λ b. b && list_all (nat_lt m.0) (map (λ (n : ℕ × ℕ). n.0) rest)) told ∙ later_all m rest (All-tail (λ (n : ℕ × ℕ). m.0 < n.0) n rest above)

and_first : (a b : Bool) → (a && b) ≡ true → a ≡ true
and_first true b told = refl
and_first false b told = told

and_second : (a b : Bool) → (a && b) ≡ true → b ≡ true
and_second true b told = told
and_second false b told = absurd (cc told)

all_later : (m : ℕ × ℕ) (rest : List (ℕ × ℕ)) → list_all (nat_lt m.0) (map (λ (n : ℕ × ℕ). n.0) rest) ≡ true → All (λ (n : ℕ × ℕ). m.0 < n.0) rest
all_later m [] told k d below = absurd (omega (arith, below))
all_later m (n ∷ rest) told zero d below =
    (Decides-ltb m.0 n.0).0 (and_first (nat_lt m.0 n.0) (list_all (nat_lt m.0) (map (λ (n : ℕ × ℕ). n.0) rest)) told)
all_later m (n ∷ rest) told (suc k) d below =
    all_later m rest (and_second (nat_lt m.0 n.0) (list_all (nat_lt m.0) (map (λ (n : ℕ × ℕ). n.0) rest)) told) k d (omega (arith, below))

one_fits : (n : ℕ) (m : ℕ × ℕ) → multiplier_fits n m ≡ true → (m.0 < n) × (m.1 ≤ 2 ^ 44)
one_fits n m told = (grind (arith, nat_tests), grind (arith, nat_tests))

lines_rising : (lam : List (ℕ × ℕ)) → AllPairs (λ (a b : ℕ × ℕ). a.0 < b.0) lam → is_rising (map (λ (m : ℕ × ℕ). m.0) lam) ≡ true
lines_rising [] rising = refl
lines_rising (m ∷ rest) rising =
    let first : list_all (nat_lt m.0) (map (λ (n : ℕ × ℕ). n.0) rest) ≡ true = later_all m rest (λ k d below. rising 0 (suc k) d (omega arith) (omega (arith, below))) in
    let tail = lines_rising rest (λ i j d before within. rising (suc i) (suc j) d (omega (arith, before)) (omega (arith, within))) in
    ap (λ b. b && is_rising (map (λ (n : ℕ × ℕ). n.0) rest)) first ∙ tail

-- multipliers of which none is 0 fit
pub fits_of : (n : ℕ) (lam : List (ℕ × ℕ)) → AreMultipliers n lam → All (λ (m : ℕ × ℕ). 1 ≤ m.1) lam → lam_fits n lam ≡ true
fits_of n lam are some =
    let each : list_all (multiplier_fits n) lam ≡ true = list_all-from_AllPass (multiplier_fits n) lam
    (λ k d below. fits_one n (get_or lam k d) (are.in_range k d below) (some k d below) (are.bounded k d below)) in
    ap (λ b. b && is_rising (map (λ (m : ℕ × ℕ). m.0) lam)) each ∙ lines_rising lam are.rising

rising_lines : (lam : List (ℕ × ℕ)) → is_rising (map (λ (m : ℕ × ℕ). m.0) lam) ≡ true → AllPairs (λ (a b : ℕ × ℕ). a.0 < b.0) lam
rising_lines [] told i j d before within = absurd (omega (arith, within))
rising_lines (m ∷ rest) told i zero d before within = absurd (omega (arith, before))
rising_lines (m ∷ rest) told zero (suc j) d before within =
    all_later m rest (and_first (list_all (nat_lt m.0) (map (λ (n : ℕ × ℕ). n.0) rest)) (is_rising (map (λ (n : ℕ × ℕ). n.0) rest)) told) j d (omega (arith, within))
rising_lines (m ∷ rest) told (suc i) (suc j) d before within =
    rising_lines rest (and_second (list_all (nat_lt m.0) (map (λ (n : ℕ × ℕ). n.0) rest)) (is_rising (map (λ (n : ℕ × ℕ). n.0) rest)) told) i j d (omega (arith, before)) (omega (arith, within))

-- multipliers that fit
pub fits_are : (n : ℕ) (lam : List (ℕ × ℕ)) → lam_fits n lam ≡ true → AreMultipliers n lam
fits_are n lam told =
    let each = AllPass-from_list_all (multiplier_fits n) lam (and_first (list_all (multiplier_fits n) lam) (is_rising (map (λ (m : ℕ × ℕ). m.0) lam)) told) in
    record {
      rising = rising_lines lam (and_second (list_all (multiplier_fits n) lam) (is_rising (map (λ (m : ℕ × ℕ). m.0) lam)) told);
      in_range = (λ k d below. (one_fits n (get_or lam k d) (each k d below)).0);
      bounded = (λ k d below. (one_fits n (get_or lam k d) (each k d below)).1);
    }
