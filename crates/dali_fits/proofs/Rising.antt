use Rattle.std.proofs.Common.{◌≡◌, inl, inr, ℕ, zero, suc, ◌+◌, ◌-◌, ◌<◌, ◌≤◌, ◌&&◌, List, [], ◌∷◌, length, get_or, map, ltb, refl, sym, subst, arith}
use Rattle.std.specs.Bool.{Decides}
use Rattle.std.specs.List.{All, AllPairs, list_all}
use Rattle.std.proofs.lemmas.Bool.{cases_eq}
use Rattle.std.proofs.lemmas.Bool.Decides.{Decides-by_and, Decides-and, Decides-ltb, Decides-like}
use Rattle.std.proofs.lemmas.List.{get_or-map, length-map}
use Rattle.std.proofs.lemmas.List.Kept.{AllPairs-cons}
use Rattle.dali_tree.specs.Fits.{is_rising}

-- the first n elements rise, by a key
pub record Up {X : Type 0} (key : X → ℕ) (xs : List X) (n : ℕ) : Type 0 where
  pub up : (k : ℕ) (d : X) → k + 1 < n → key (get_or xs k d) < key (get_or xs (k + 1) d)

pub up_start : {X : Type 0} (key : X → ℕ) (xs : List X) → Up key xs 1
up_start key xs = record { up = (λ k d below. absurd (omega arith)) }

pub up_more : {X : Type 0} (key : X → ℕ) (xs : List X) (n : ℕ) → 1 ≤ n → Up key xs n →
    ((d : X) (i : ℕ) → i + 1 ≡ n → key (get_or xs i d) < key (get_or xs n d)) → Up key xs (n + 1)
up_more key xs n some before last = record {
  up = (λ k d below. elim (cases_eq (k + 1) n) as (λ _. key (get_or xs k d) < key (get_or xs (k + 1) d)) [
    | inl at ↦ subst (λ i. key (get_or xs k d) < key (get_or xs i d)) (sym at) (last d k at)
    | inr other ↦ before.up k d (omega arith)
  ]);
}

climbs : {X : Type 0} (key : X → ℕ) (xs : List X) (d : X) (i n : ℕ) → Up key xs (length xs) → i + suc n < length xs →
    key (get_or xs i d) < key (get_or xs (i + suc n) d)
climbs key xs d i zero up within =
    let at : i + 1 ≡ i + suc zero = omega arith in
    subst (λ j. key (get_or xs i d) < key (get_or xs j d)) at (up.up i d (omega arith))
climbs key xs d i (suc n) up within =
    let before = climbs key xs d i n up (omega arith) in
    let step = up.up (i + suc n) d (omega arith) in
    let at : i + suc n + 1 ≡ i + suc (suc n) = omega arith in
    subst (λ j. key (get_or xs i d) < key (get_or xs j d)) at (omega (arith, before, step))

-- where each is below the next, each is below every later one
pub pairs_up : {X : Type 0} (key : X → ℕ) (xs : List X) (n : ℕ) → length xs ≤ n → Up key xs n → AllPairs (λ a b. key a < key b) xs
pairs_up key xs n whole up i j d before within =
    let rises : Up key xs (length xs) = record { up = (λ k e below. up.up k e (omega arith)) } in
    let at : i + suc (j - suc i) ≡ j = omega arith in
    subst (λ k. key (get_or xs i d) < key (get_or xs k d)) at (climbs key xs d i (j - suc i) rises (omega (arith, at)))

-- the test of rising numbers
pub rising_pairs : (xs : List ℕ) → Decides (is_rising xs) (AllPairs (λ a b. a < b) xs)
rising_pairs [] = (λ _ i j d before within. absurd (omega arith), λ _. refl)
rising_pairs (x ∷ xs) =
    let above : Decides (list_all (ltb x) xs) (All (λ y. x < y) xs) =
    Decides-by_and (ltb x) (λ y. x < y) (list_all (ltb x)) (λ y. Decides-ltb x y) refl (λ _ _. refl) xs in
    Decides-like (list_all (ltb x) xs && is_rising xs)
    (λ w. AllPairs-cons (λ a b. a < b) x xs w.0 w.1)
    (λ pairs. (
      λ k d below. pairs 0 (suc k) d (omega arith) (omega arith),
      λ i j d before within. pairs (suc i) (suc j) d (omega arith) (omega arith),
    ))
    (Decides-and (list_all (ltb x) xs) (is_rising xs) above (rising_pairs xs))

-- the test of multipliers on rising lines
pub rising_lines : (lam : List (ℕ × ℕ)) → Decides (is_rising (map (λ m. m.0) lam)) (AllPairs (λ (a b : ℕ × ℕ). a.0 < b.0) lam)
rising_lines lam =
    let size : length (map (λ (m : ℕ × ℕ). m.0) lam) ≡ length lam = length-map lam (λ (m : ℕ × ℕ). m.0) in
    let at : (i : ℕ) (d : ℕ) (e : ℕ × ℕ) → i < length lam → get_or (map (λ (m : ℕ × ℕ). m.0) lam) i d ≡ (get_or lam i e).0 =
    λ i d e below. get_or-map (λ (m : ℕ × ℕ). m.0) lam i e d below in
    Decides-like (is_rising (map (λ m. m.0) lam))
    (λ pairs i j d before within. omega (arith, pairs i j 0 before (omega (arith, size, within)), at i 0 d (omega arith), at j 0 d within))
    (λ pairs i j d before within.
    omega (arith, pairs i j (0, 0) before (omega (arith, size, within)), at i d (0, 0) (omega (arith, size, within)), at j d (0, 0) (omega (arith, size, within))))
    (rising_pairs (map (λ m. m.0) lam))
