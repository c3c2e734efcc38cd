use Rattle.std.proofs.Common.{◌≡◌, inl, inr, ◌⊎◌, ℕ, zero, suc, ◌<◌, pos, ◌+ℤ◌, ◌≤ℤ◌, Bool, true, false, List, [], ◌∷◌, ◌++◌, length, Some, if◌then◌else◌, ap, sym, ◌∙◌, subst, arith}
use Rattle.std.specs.List.{All, AllPairs, Contains}
use Rattle.std.proofs.lemmas.Bool.{cases_eq, cases_Bool, false_from_ne_true}
use Rattle.std.proofs.lemmas.Int.{ints}
use Rattle.std.proofs.lemmas.List.{append-nil}
use Rattle.std.proofs.lemmas.List.Elements.{All-push, All-weaker, All-nil, Contains-append_left, Contains-push, Contains-push_cases}
use Rattle.std.proofs.lemmas.List.Quantifiers.{all_pairs_push}
use Rattle.dali_problem.specs.declared.mark.Mark.{Mark}
use Rattle.dali_problem.specs.declared.mark.Mark.TheVariants.{Stranger, Chosen, Left}
use Rattle.dali_problem.specs.Sums.{pick}
use Rattle.dali_problem.specs.Clearing.{Clearing, balance, worth, effect}
use Rattle.dali_problem.specs.Limits.{IsProblem}
use Rattle.dali_problem.specs.Feasible.{ArePlaces, booked, IsFeasible, value_of}
use Rattle.dali_problem.specs.Partial.{mark, is_decided, Agrees}
use Rattle.dali_problem.proofs.SetLaws.{is_in, is_in_of, contains_of, booked_in, value_in}
use Rattle.dali_problem.proofs.SumLaws.{sum_below_same}
use Rattle.dali_problem.proofs.Opened.{within_decided}
use Rattle.dali_tree.specs.declared.fix.Fix.{Fix}
use Rattle.dali_fixes.specs.Fixed.{after}
use Rattle.dali_fixes.specs.Worth.{HasWorth, KeepsWorth}
use Rattle.dali_fixes.proofs.Sets.{total, worth_of, Covers, Goes, Finds, covers_of, goes_of}
use Rattle.dali_fixes.proofs.Exchange.{fixes_find, after_length}

-- the places below n that a test has, rising
abbrev places_below : (ℕ → Bool) → ℕ → List ℕ
places_below w zero = []
places_below w (suc n) = places_below w n ++ (if w n then n ∷ [] else [])

below_cases : (w : ℕ → Bool) (n : ℕ) → ((w n ≡ true) × (places_below w (suc n) ≡ places_below w n ++ n ∷ []))
    ⊎ ((w n ≡ false) × (places_below w (suc n) ≡ places_below w n ++ []))
below_cases w n = elim (cases_Bool (w n)) as (λ _. ((w n ≡ true) × (places_below w (suc n) ≡ places_below w n ++ n ∷ []))
    ⊎ ((w n ≡ false) × (places_below w (suc n) ≡ places_below w n ++ []))) [
      | inl told ↦ inl (told, ap (λ (b : Bool). places_below w n ++ (if b then n ∷ [] else [])) told)
      | inr other ↦ inr (other, ap (λ (b : Bool). places_below w n ++ (if b then n ∷ [] else [])) other)
    ]

below_range : (w : ℕ → Bool) (n : ℕ) → All (λ j. j < n) (places_below w n)
below_range w zero = All-nil (λ (j : ℕ). j < 0)
below_range w (suc n) =
    let wider = All-weaker (λ (j : ℕ). j < n) (λ (j : ℕ). j < suc n) (λ j less. omega (arith, less)) (places_below w n) (below_range w n) in
    elim (below_cases w n) as (λ _. All (λ j. j < suc n) (places_below w (suc n))) [
      | inl more ↦ subst (All (λ (j : ℕ). j < suc n)) (sym more.1) (All-push (λ (j : ℕ). j < suc n) (places_below w n) n wider (omega arith))
      | inr none ↦ subst (All (λ (j : ℕ). j < suc n)) (sym (none.1 ∙ append-nil (places_below w n))) wider
    ]

below_rising : (w : ℕ → Bool) (n : ℕ) → AllPairs (λ i j. i < j) (places_below w n)
below_rising w zero = λ i j d before within. absurd (omega (arith, within))
below_rising w (suc n) = elim (below_cases w n) as (λ _. AllPairs (λ i j. i < j) (places_below w (suc n))) [
  | inl more ↦ subst (AllPairs (λ (i j : ℕ). i < j)) (sym more.1)
      (all_pairs_push (λ (i j : ℕ). i < j) (places_below w n) n (below_rising w n) (λ k d below. below_range w n k d below))
  | inr none ↦ subst (AllPairs (λ (i j : ℕ). i < j)) (sym (none.1 ∙ append-nil (places_below w n))) (below_rising w n)
]

below_has : (w : ℕ → Bool) (n j : ℕ) → Contains (places_below w n) j → w j ≡ true
below_has w zero j there = absurd (omega (arith, there.1))
below_has w (suc n) j there = elim (below_cases w n) as (λ _. w j ≡ true) [
  | inl more ↦ elim (Contains-push_cases (places_below w n) n j (subst (λ (xs : List ℕ). Contains xs j) more.1 there)) as (λ _. w j ≡ true) [
    | inl before ↦ below_has w n j before
    | inr here ↦ ap w (sym here) ∙ more.0
  ]
  | inr none ↦ below_has w n j (subst (λ (xs : List ℕ). Contains xs j) (none.1 ∙ append-nil (places_below w n)) there)
]

has_below : (w : ℕ → Bool) (n j : ℕ) → j < n → w j ≡ true → Contains (places_below w n) j
has_below w zero j below told = absurd (omega (arith, below))
has_below w (suc n) j below told = elim (below_cases w n) as (λ _. Contains (places_below w (suc n)) j) [
  | inl more ↦ subst (λ (xs : List ℕ). Contains xs j) (sym more.1) (elim (cases_eq j n) as (λ _. Contains (places_below w n ++ n ∷ []) j) [
    | inl last ↦ subst (Contains (places_below w n ++ n ∷ [])) (sym last) (Contains-push (places_below w n) n)
    | inr other ↦ Contains-append_left (places_below w n) (n ∷ []) j (has_below w n j (omega (arith, below, other)) told)
  ])
  | inr none ↦ subst (λ (xs : List ℕ). Contains xs j) (sym (none.1 ∙ append-nil (places_below w n))) (elim (cases_eq j n) as (λ _. Contains (places_below w n) j) [
    | inl last ↦ absurd (let here : w n ≡ true = ap w (sym last) ∙ told in cc (here, none.0))
    | inr other ↦ has_below w n j (omega (arith, below, other)) told
  ])
]

below_is : (w : ℕ → Bool) (n j : ℕ) → j < n → is_in j (places_below w n) ≡ w j
below_is w n j below = elim (cases_Bool (w j)) as (λ _. is_in j (places_below w n) ≡ w j) [
  | inl there ↦ is_in_of (places_below w n) j (has_below w n j below there) ∙ sym there
  | inr gone ↦ false_from_ne_true (is_in j (places_below w n))
      (λ told. (let there = below_has w n j (contains_of (places_below w n) j told) in cc (there, gone))) ∙ sym gone
]

-- the list of the places that a test has: what it books and what it is worth are those of the test
pub record Listed (p : Clearing) (w : ℕ → Bool) : Type 0 where
  pub set : List ℕ
  pub places : ArePlaces p set
  pub member : (j : ℕ) → Contains set j → w j ≡ true
  pub inside : (j : ℕ) → j < length p.items → w j ≡ true → Contains set j
  pub after : (l : ℕ) → booked p set l ≡ total p w l
  pub value : pos (value_of p set) ≡ worth_of p w

pub listed : (p : Clearing) (w : ℕ → Bool) → Listed p w
listed p w =
    let n = length p.items in
    let set : List ℕ = places_below w n in
    let are : ArePlaces p set = record { rising = below_rising w n; in_range = below_range w n } in
    record {
      set = set;
      places = are;
      member = below_has w n;
      inside = has_below w n;
      after = (λ l. booked_in p set l are ∙ ap (λ z. balance p l +ℤ z)
          (sum_below_same (λ j. pick (is_in j set) (effect p j l)) (λ j. pick (w j) (effect p j l)) n
          (λ j below. ap (λ b. pick b (effect p j l)) (below_is w n j below))));
      value = value_in p set are
          ∙ sum_below_same (λ j. pick (is_in j set) (pos (worth p j))) (λ j. pick (w j) (pos (worth p j))) n
          (λ j below. ap (λ b. pick b (pos (worth p j))) (below_is w n j below));
    }

-- it is feasible where the test covers
pub listed_feasible : (p : Clearing) (w : ℕ → Bool) → Covers p w → IsFeasible p (listed p w).set
listed_feasible p w covers = record { covered = (λ l within. subst (λ z. pos 0 ≤ℤ z) (sym ((listed p w).after l)) (covers.covered l)) }

-- and agrees where the test goes with a partial choice
pub listed_agrees : (p : Clearing) (g : List Mark) (w : ℕ → Bool) → length g ≡ length p.items → Goes g w → Agrees g (listed p w).set
listed_agrees p g w size goes = record {
  members = (λ j there stranger. (let told = (listed p w).member j there in let out = goes.stranger j stranger in cc (told, out)));
  chosen = (λ j is. (listed p w).inside j (inside j is) (goes.chosen j is));
  left = (λ j there is. (let told = (listed p w).member j there in let out = goes.left j is in cc (told, out)));
}
  where
    inside : (j : ℕ) → mark g j ≡ Chosen → j < length p.items
    inside j is =
        let within = within_decided g j (ap is_decided is) in
        omega (arith, within, size)

-- what a test tells, a list of places has
worth_found : (p : Clearing) (g : List Mark) (v : ℕ) → length g ≡ length p.items → Finds p g (pos v) → HasWorth p g v
worth_found p g v size found = record {
  set = (listed p found.test).set;
  places = (listed p found.test).places;
  feasible = listed_feasible p found.test found.covers;
  agrees = listed_agrees p g found.test size found.goes;
  least = (let value = (listed p found.test).value in omega (arith, ints, value, found.least));
}

-- fixes leave something as good
pub fixes_keep_worth : (p : Clearing) (fixes : List Fix) (f g : List Mark) → IsProblem p → length f ≡ length p.items →
    after p fixes f ≡ Some g → KeepsWorth p f g
fixes_keep_worth p fixes f g limits size leads = record {
  kept = (λ t places feasible agrees.
      let found = fixes_find p fixes f g (λ j. is_in j t) limits size leads (covers_of p t limits places feasible) (goes_of f t agrees) in
      let value = value_in p t places in
      worth_found p g (value_of p t) (after_length p fixes f g leads ∙ size)
      (record { test = found.test; covers = found.covers; goes = found.goes; least = omega (arith, ints, value, found.least) }));
}
