use Rattle.std.proofs.Common.{◌≡◌, ◌≢◌, inl, inr, ℕ, zero, suc, ◌<◌, ℤ, pos, ◌+ℤ◌, ◌-ℤ◌, Bool, true, false, ◌||◌, List, [], ◌∷◌, length, get_or, eqb, refl, ap, sym, ◌∙◌, subst, arith}
use Rattle.std.specs.List.{All, AllPairs, Contains}
use Rattle.std.proofs.lemmas.Bool.Decides.{eqb_tells}
use Rattle.std.proofs.lemmas.Int.{ints}
use Rattle.std.proofs.lemmas.List.Elements.{All-head, All-tail}
use Rattle.dali_problem.specs.Sums.{sum_below, sum_over, pick}
use Rattle.dali_problem.specs.Clearing.{Clearing, balance, worth, effect}
use Rattle.dali_problem.specs.Feasible.{ArePlaces, booked, value_of}
use Rattle.dali_problem.proofs.SumLaws.{sum_below_change, sum_below_zero, sum_over_pos}

-- whether j is in the set
abbrev pub is_in : ℕ → List ℕ → Bool
is_in j [] = false
is_in j (x ∷ xs) = eqb x j || is_in j xs

pub is_in_self : (j : ℕ) (xs : List ℕ) → is_in j (j ∷ xs) ≡ true
is_in_self j xs = elim (eqb_tells j j) as (λ _. is_in j (j ∷ xs) ≡ true) [
  | inl same ↦ ap (λ b. b || is_in j xs) same.0
  | inr other ↦ absurd (other.1 refl)
]

pub is_in_rest : (j x : ℕ) (xs : List ℕ) → x ≢ j → is_in j (x ∷ xs) ≡ is_in j xs
is_in_rest j x xs off = elim (eqb_tells x j) as (λ _. is_in j (x ∷ xs) ≡ is_in j xs) [
  | inl same ↦ absurd (off same.1)
  | inr other ↦ ap (λ b. b || is_in j xs) other.0
]

or_true : (b : Bool) → (b || true) ≡ true
or_true true = refl
or_true false = refl

pub is_in_at : (t : List ℕ) (k d : ℕ) → k < length t → is_in (get_or t k d) t ≡ true
is_in_at [] k d within = absurd (omega arith)
is_in_at (x ∷ xs) zero d within = is_in_self x xs
is_in_at (x ∷ xs) (suc k) d within =
    ap (λ b. eqb x (get_or xs k d) || b) (is_in_at xs k d (omega arith)) ∙ or_true (eqb x (get_or xs k d))

-- the test tells what `Contains` says
pub is_in_of : (t : List ℕ) (j : ℕ) → Contains t j → is_in j t ≡ true
is_in_of t j there = subst (λ x. is_in x t ≡ true) there.2 (is_in_at t there.0 j there.1)

pub contains_of : (t : List ℕ) (j : ℕ) → is_in j t ≡ true → Contains t j
contains_of [] j told = absurd (cc)
contains_of (x ∷ xs) j told = elim (eqb_tells x j) as (λ _. Contains (x ∷ xs) j) [
  | inl same ↦ (0, omega arith, same.1)
  | inr other ↦
      let rest = contains_of xs j (sym (is_in_rest j x xs other.1) ∙ told) in
      (suc rest.0, omega (arith, rest.1), rest.2)
]

pub not_in : (j : ℕ) (xs : List ℕ) → All (λ x. x ≢ j) xs → is_in j xs ≡ false
not_in j [] off = refl
not_in j (x ∷ xs) off =
    is_in_rest j x xs (All-head (λ (y : ℕ). y ≢ j) x xs off) ∙ not_in j xs (All-tail (λ (y : ℕ). y ≢ j) x xs off)

-- a sum over rising places below n is a sum below n
pub sum_over_in : (g : ℕ → ℤ) (t : List ℕ) (n : ℕ) → AllPairs (λ i j. i < j) t → All (λ j. j < n) t →
    sum_over g t ≡ sum_below (λ j. pick (is_in j t) (g j)) n
sum_over_in g [] n rising within = sym (sum_below_zero n)
sum_over_in g (x ∷ xs) n rising within =
    let inside : x < n = All-head (λ (y : ℕ). y < n) x xs within in
    let rest : sum_over g xs ≡ sum_below (λ j. pick (is_in j xs) (g j)) n =
    sum_over_in g xs n (λ a b d before below. rising (suc a) (suc b) d (omega arith) (omega arith))
    (All-tail (λ (y : ℕ). y < n) x xs within) in
    let later : All (λ (y : ℕ). y ≢ x) xs = λ k d below same.
    (let above : x < get_or xs k d = rising 0 (suc k) d (omega arith) (omega arith) in
    let at : get_or xs k d ≡ x = same in
    absurd (omega arith)) in
    let change : sum_below (λ j. pick (is_in j (x ∷ xs)) (g j)) n
    ≡ sum_below (λ j. pick (is_in j xs) (g j)) n +ℤ (pick (is_in x (x ∷ xs)) (g x) -ℤ pick (is_in x xs) (g x)) =
    sum_below_change (λ j. pick (is_in j xs) (g j)) (λ j. pick (is_in j (x ∷ xs)) (g j)) n x inside
    (λ i below off. ap (λ b. pick b (g i)) (is_in_rest i x xs (λ same. off (sym same)))) in
    let here : pick (is_in x (x ∷ xs)) (g x) ≡ g x = ap (λ b. pick b (g x)) (is_in_self x xs) in
    let gone : pick (is_in x xs) (g x) ≡ pos 0 = ap (λ b. pick b (g x)) (not_in x xs later) in
    omega (arith, ints)

-- a line after a set, and the value of a set, as sums over all places
pub booked_in : (p : Clearing) (t : List ℕ) (l : ℕ) → ArePlaces p t →
    booked p t l ≡ balance p l +ℤ sum_below (λ j. pick (is_in j t) (effect p j l)) (length p.items)
booked_in p t l places =
    ap (λ z. balance p l +ℤ z) (sum_over_in (λ j. effect p j l) t (length p.items) places.rising places.in_range)

pub value_in : (p : Clearing) (t : List ℕ) → ArePlaces p t →
    pos (value_of p t) ≡ sum_below (λ j. pick (is_in j t) (pos (worth p j))) (length p.items)
value_in p t places =
    sum_over_pos (worth p) t ∙ sum_over_in (λ j. pos (worth p j)) t (length p.items) places.rising places.in_range
