use Rattle.std.proofs.Common.{◌≡◌, ◌≢◌, inl, inr, ◌⊎◌, ℕ, ◌+◌, ◌<◌, pos, ◌+ℤ◌, Bool, true, false, not, ◌||◌, List, [], ◌∷◌, ◌++◌, length, take, get_or, set, eqb, cond, refl, ap, sym, ◌∙◌, subst, arith}
use Rattle.std.specs.List.{Contains, filter, list_any}
use Rattle.std.specs.Int.{int_max}
use Rattle.std.proofs.lemmas.Bool.{cases_eq}
use Rattle.std.proofs.lemmas.Bool.Decides.{eqb_tells}
use Rattle.std.proofs.lemmas.Int.{ints}
use Rattle.std.proofs.lemmas.List.{take_more}
use Rattle.std.proofs.lemmas.List.Elements.{Contains-append_left, Contains-push, Contains-push_cases}
use Rattle.dali_problem.specs.declared.mark.Mark.{Mark}
use Rattle.dali_problem.specs.declared.mark.Mark.TheVariants.{Stranger, Undecided, Chosen, Left}
use Rattle.dali_problem.specs.Sums.{pick}
use Rattle.dali_problem.specs.Clearing.{Clearing, balance, effect}
use Rattle.dali_problem.specs.Feasible.{ArePlaces, booked}
use Rattle.dali_problem.specs.Partial.{mark, is_chosen, is_undecided, held}
use Rattle.dali_problem.specs.Rest.{credits_of, IsSubset, IsRest}
use Rattle.dali_problem.specs.Rules.{credits}
use Rattle.dali_problem.proofs.RuleTests.{undecided_is}
use Rattle.dali_problem.proofs.SetLaws.{is_in, is_in_of, contains_of, is_in_rest, sum_over_in}
use Rattle.dali_problem.proofs.SumLaws.{sum_below_same, sum_below_add, sum_over_append}
use Rattle.dali_rest.specs.Room.{AreMarksOf, undecided_below}
use Rattle.dali_rest.specs.Sets.{outside}
use Rattle.dali_rest.specs.Swaps.{AreDecided}
use Rattle.dali_rest.specs.Turns.{IsPaid, AreUndecided, ArePaidFrom, IsTurn, IsOpened, AreChosen}
use Rattle.dali_rest.proofs.Marks.{mark_same, mark_other, within_chosen}
use Rattle.dali_rest.proofs.Sides.{chosen_or, not_undecided}
use Rattle.dali_rest.proofs.Standing.{by_test, not_contains, stands_is, stands_held}
use Rattle.dali_rest.proofs.Resting.{turn_held, below_range, below_rising, below_has, has_below}

-- what a filter keeps
any_is : (s : List ℕ) (j : ℕ) → list_any (λ k. eqb k j) s ≡ is_in j s
any_is [] j = refl
any_is (x ∷ xs) j = ap (λ b. eqb x j || b) (any_is xs j)

in_filter : (test : ℕ → Bool) (xs : List ℕ) (j : ℕ) → is_in j xs ≡ true → test j ≡ true → is_in j (filter test xs) ≡ true
in_filter test [] j there told = there
in_filter test (x ∷ xs) j there told = elim (eqb_tells x j) as (λ _. is_in j (filter test (x ∷ xs)) ≡ true) [
  | inl same ↦
      let keeps : test x ≡ true = ap test same.1 ∙ told in
      ap (λ b. is_in j (cond b (x ∷ filter test xs) (filter test xs))) keeps ∙ ap (λ b. b || is_in j (filter test xs)) same.0
  | inr other ↦
      let rest = in_filter test xs j (sym (is_in_rest j x xs other.1) ∙ there) told in
      by_test (test x) {P = is_in j (filter test (x ∷ xs)) ≡ true}
      (λ keeps. ap (λ b. is_in j (cond b (x ∷ filter test xs) (filter test xs))) keeps ∙ is_in_rest j x (filter test xs) other.1 ∙ rest)
      (λ drops. ap (λ b. is_in j (cond b (x ∷ filter test xs) (filter test xs))) drops ∙ rest)
]

filter_in : (test : ℕ → Bool) (xs : List ℕ) (j : ℕ) → is_in j (filter test xs) ≡ true → (is_in j xs ≡ true) × (test j ≡ true)
filter_in test [] j there = absurd (cc there)
filter_in test (x ∷ xs) j there = by_test (test x) {P = (is_in j (x ∷ xs) ≡ true) × (test j ≡ true)}
    (λ keeps.
    let whole : is_in j (x ∷ filter test xs) ≡ true = sym (ap (λ b. is_in j (cond b (x ∷ filter test xs) (filter test xs))) keeps) ∙ there in
    elim (eqb_tells x j) as (λ _. (is_in j (x ∷ xs) ≡ true) × (test j ≡ true)) [
      | inl same ↦ (ap (λ b. b || is_in j xs) same.0, ap test (sym same.1) ∙ keeps)
      | inr other ↦
          let rest = filter_in test xs j (sym (is_in_rest j x (filter test xs) other.1) ∙ whole) in
          (is_in_rest j x xs other.1 ∙ rest.0, rest.1)
    ])
    (λ drops.
    let rest = filter_in test xs j (sym (ap (λ b. is_in j (cond b (x ∷ filter test xs) (filter test xs))) drops) ∙ there) in
    elim (eqb_tells x j) as (λ _. (is_in j (x ∷ xs) ≡ true) × (test j ≡ true)) [
      | inl same ↦ (ap (λ b. b || is_in j xs) same.0, rest.1)
      | inr other ↦ (is_in_rest j x xs other.1 ∙ rest.0, rest.1)
    ])

not_in_of : (s : List ℕ) (j : ℕ) → ¬ (Contains s j) → is_in j s ≡ false
not_in_of s j out = by_test (is_in j s) {P = is_in j s ≡ false} (λ told. absurd (out (contains_of s j told))) (λ other. other)

has_outside : (members s : List ℕ) (j : ℕ) → Contains members j → ¬ (Contains s j) → Contains (outside members s) j
has_outside members s j there out =
    contains_of (outside members s) j (in_filter (λ k. not (list_any (λ x. eqb x k) s)) members j (is_in_of members j there)
    (ap not (any_is s j ∙ not_in_of s j out)))

pub outside_has : (members s : List ℕ) (j : ℕ) → Contains (outside members s) j → (Contains members j) × ¬ (Contains s j)
outside_has members s j there =
    let both = filter_in (λ k. not (list_any (λ x. eqb x k) s)) members j (is_in_of (outside members s) j there) in (
      contains_of members j both.0,
      λ inside. absurd (
          let told : list_any (λ x. eqb x j) s ≡ true = any_is s j ∙ is_in_of s j inside in
          let wrong : not (list_any (λ x. eqb x j) s) ≡ false = ap not told in
          let right : not (list_any (λ x. eqb x j) s) ≡ true = both.1 in
          cc (wrong, right)),
    )

left_or_not : (m : Mark) → (m ≡ Left) ⊎ (m ≢ Left)
left_or_not Left = inl refl
left_or_not Stranger = inr (λ q. absurd (cc q))
left_or_not Undecided = inr (λ q. absurd (cc q))
left_or_not Chosen = inr (λ q. absurd (cc q))

not_chosen : (m : Mark) → m ≢ Chosen → is_chosen m ≡ false
not_chosen Chosen other = absurd (other refl)
not_chosen Stranger other = refl
not_chosen Undecided other = refl
not_chosen Left other = refl

undecided_or_not : (m : Mark) → (m ≡ Undecided) ⊎ (m ≢ Undecided)
undecided_or_not Undecided = inl refl
undecided_or_not Stranger = inr (λ q. absurd (cc q))
undecided_or_not Left = inr (λ q. absurd (cc q))
undecided_or_not Chosen = inr (λ q. absurd (cc q))

opened_cases : (f o : List Mark) (members : List ℕ) (j : ℕ) → IsOpened f o members →
    (mark o j ≡ mark f j) ⊎ ((Contains members j) × (mark f j ≡ Left) × (mark o j ≡ Undecided))
opened_cases f o members j opened = elim (left_or_not (mark f j)) as (λ _. (mark o j ≡ mark f j) ⊎ ((Contains members j) × (mark f j ≡ Left) × (mark o j ≡ Undecided))) [
  | inl left ↦ by_test (is_in j members) {P = (mark o j ≡ mark f j) ⊎ ((Contains members j) × (mark f j ≡ Left) × (mark o j ≡ Undecided))}
      (λ told. inr (contains_of members j told, left, opened.opened j (contains_of members j told) left))
      (λ other. inl (opened.others j (λ both. not_contains members j other both.0)))
  | inr other ↦ inl (opened.others j (λ both. other both.1))
]

opened_held : (p : Clearing) (f o : List Mark) (members : List ℕ) (l : ℕ) → IsOpened f o members → held p o l ≡ held p f l
opened_held p f o members l opened =
    ap (λ z. balance p l +ℤ z) (sum_below_same (λ j. pick (is_chosen (mark o j)) (effect p j l)) (λ j. pick (is_chosen (mark f j)) (effect p j l)) (length p.items)
    (λ j below. elim (opened_cases f o members j opened) as (λ _. pick (is_chosen (mark o j)) (effect p j l) ≡ pick (is_chosen (mark f j)) (effect p j l)) [
      | inl same ↦ ap (λ m. pick (is_chosen m) (effect p j l)) same
      | inr fresh ↦ ap (λ m. pick (is_chosen m) (effect p j l)) fresh.2 ∙ sym (ap (λ m. pick (is_chosen m) (effect p j l)) fresh.1)
    ]))

-- one member more is opened, or isn't left
pub open_more : (f g h : List Mark) (members : List ℕ) (i : ℕ) → i < length members → get_or members i 0 < length g → mark g (get_or members i 0) ≡ Left →
    h ≡ set g (get_or members i 0) Undecided → IsOpened f g (take i members) → IsOpened f h (take (i + 1) members)
open_more f g h members i within inside left put so_far =
    let place : ℕ = get_or members i 0 in
    let more : take (i + 1) members ≡ take i members ++ place ∷ [] = take_more members i 0 within in
    let at : mark h place ≡ Undecided = ap (λ (x : List Mark). mark x place) put ∙ mark_same g place Undecided inside in
    let off : (j : ℕ) → j ≢ place → mark h j ≡ mark g j = λ j other. ap (λ (x : List Mark). mark x j) put ∙ mark_other g place j Undecided other in
    let was : mark f place ≡ Left = elim (opened_cases f g (take i members) place so_far) as (λ _. mark f place ≡ Left) [
      | inl same ↦ sym same ∙ left
      | inr fresh ↦ fresh.1
    ] in
    record {
      opened = (λ j there before. elim (cases_eq j place) as (λ _. mark h j ≡ Undecided) [
        | inl same ↦ ap (mark h) same ∙ at
        | inr other ↦ elim (Contains-push_cases (take i members) place j (subst (λ (xs : List ℕ). Contains xs j) more there)) as (λ _. mark h j ≡ Undecided) [
          | inl earlier ↦ off j other ∙ so_far.opened j earlier before
          | inr here ↦ absurd (other (sym here))
        ]
      ]);
      others = (λ j out.
          let other : j ≢ place = λ same. out (
            subst (λ (xs : List ℕ). Contains xs j) (sym more)
                (subst (λ k. Contains (take i members ++ place ∷ []) k) (sym same) (Contains-push (take i members) place)),
            ap (mark f) same ∙ was,
          ) in
          off j other ∙ so_far.others j (λ both. out (
            subst (λ (xs : List ℕ). Contains xs j) (sym more)
                (Contains-append_left (take i members) (place ∷ []) j both.0),
            both.1,
          )));
    }

pub open_none : (f g h : List Mark) (members : List ℕ) (i : ℕ) → i < length members → ¬ (mark g (get_or members i 0) ≡ Left) → h ≡ g →
    IsOpened f g (take i members) → IsOpened f h (take (i + 1) members)
open_none f g h members i within not_left put so_far =
    let place : ℕ = get_or members i 0 in
    let more : take (i + 1) members ≡ take i members ++ place ∷ [] = take_more members i 0 within in
    let same_mark : (j : ℕ) → mark h j ≡ mark g j = λ j. ap (λ (x : List Mark). mark x j) put in
    record {
      opened = (λ j there before. elim (Contains-push_cases (take i members) place j (subst (λ (xs : List ℕ). Contains xs j) more there)) as (λ _. mark h j ≡ Undecided) [
        | inl earlier ↦ same_mark j ∙ so_far.opened j earlier before
        | inr here ↦ elim (opened_cases f g (take i members) j so_far) as (λ _. mark h j ≡ Undecided) [
          | inl same ↦ absurd (not_left (ap (mark g) here ∙ same ∙ before))
          | inr fresh ↦ same_mark j ∙ fresh.2
        ]
      ]);
      others = (λ j out. same_mark j ∙ so_far.others j (λ both. out (
        subst (λ (xs : List ℕ). Contains xs j) (sym more)
            (Contains-append_left (take i members) (place ∷ []) j both.0),
        both.1,
      )));
    }

-- the chosen places are still those of the set
pub rest_set : (p : Clearing) (s members : List ℕ) (f o g : List Mark) (j : ℕ) → AreMarksOf (length p.items) s f → IsOpened f o members → IsTurn p o g → length g ≡ length p.items →
    (mark g j ≡ Chosen → Contains s j) × (Contains s j → mark g j ≡ Chosen)
rest_set p s members f o g j stands opened turn size = (
  λ chosen. elim (turn.fewer j) as (λ _. Contains s j) [
    | inl same ↦
        let below : j < length p.items = omega (arith, within_chosen g j chosen, size) in
        elim (opened_cases f o members j opened) as (λ _. Contains s j) [
          | inl kept ↦
              let was : mark f j ≡ Chosen = sym kept ∙ sym same ∙ chosen in
              contains_of s j (sym (stands_is p s f j stands below) ∙ ap is_chosen was)
          | inr fresh ↦ absurd (let told : mark g j ≡ Undecided = same ∙ fresh.2 in cc (told, chosen))
        ]
    | inr taken ↦ absurd (let told : mark g j ≡ Left = taken.1 in cc (told, chosen))
  ],
  λ there.
      let was : mark f j ≡ Chosen = stands.chosen j there in
      elim (opened_cases f o members j opened) as (λ _. mark g j ≡ Chosen) [
        | inl kept ↦ elim (turn.fewer j) as (λ _. mark g j ≡ Chosen) [
          | inl same ↦ same ∙ kept ∙ was
          | inr taken ↦ absurd (let told : mark o j ≡ Undecided = taken.0 in let other : mark o j ≡ Chosen = kept ∙ was in cc (told, other))
        ]
        | inr fresh ↦ absurd (let told : mark f j ≡ Left = fresh.1 in cc (told, was))
      ],
)

-- the test of the list of undecided places
below_is : (g : List Mark) (n j : ℕ) → j < n → is_in j (undecided_below g n) ≡ is_undecided (mark g j)
below_is g n j below = by_test (is_undecided (mark g j)) {P = is_in j (undecided_below g n) ≡ is_undecided (mark g j)}
    (λ told. is_in_of (undecided_below g n) j (has_below g n j below (undecided_is (mark g j) told)) ∙ sym told)
    (λ other. not_in_of (undecided_below g n) j (λ there. absurd (
    let told : is_undecided (mark g j) ≡ true = ap is_undecided (below_has g n j there) in cc (told, other))) ∙ sym other)

below_credits : (p : Clearing) (g : List Mark) (l : ℕ) → credits_of p (undecided_below g (length p.items)) l ≡ credits p g l
below_credits p g l =
    sum_over_in (λ j. int_max (pos 0) (effect p j l)) (undecided_below g (length p.items)) (length p.items) (below_rising g (length p.items)) (below_range g (length p.items))
    ∙ sum_below_same (λ j. pick (is_in j (undecided_below g (length p.items))) (int_max (pos 0) (effect p j l))) (λ j. pick (is_undecided (mark g j)) (int_max (pos 0) (effect p j l))) (length p.items)
    (λ j below. ap (λ b. pick b (int_max (pos 0) (effect p j l))) (below_is g (length p.items) j below))

-- what is left undecided is the rest
pub rest_is : (p : Clearing) (s members : List ℕ) (f o g : List Mark) → ArePlaces p s → AreMarksOf (length p.items) s f → IsOpened f o members → IsTurn p o g →
    ((j : ℕ) → mark g j ≡ Undecided → IsPaid p g j) → IsRest p s (outside members s) (undecided_below g (length p.items))
rest_is p s members f o g places stands opened turn paid =
    let n : ℕ = length p.items in
    let start : (l : ℕ) → held p o l ≡ booked p s l = λ l. opened_held p f o members l opened ∙ stands_held p s f l places stands in
    let lines : (l : ℕ) → held p g l ≡ booked p s l = λ l. turn_held p o g l turn ∙ start l in
    record {
      places = record { rising = below_rising g n; in_range = below_range g n };
      within = record {
        part = (λ j there.
            let undec : mark g j ≡ Undecided = below_has g n j there in
            let below : j < n = subst (λ k. k < n) there.2 (below_range g n there.0 j there.1) in
            elim (turn.fewer j) as (λ _. Contains (outside members s) j) [
              | inl same ↦ elim (opened_cases f o members j opened) as (λ _. Contains (outside members s) j) [
                | inl kept ↦ absurd (by_test (is_in j s) {P = ⊥}
                    (λ told. (let chosen : mark f j ≡ Chosen = stands.chosen j (contains_of s j told) in let was : mark f j ≡ Undecided = sym kept ∙ sym same ∙ undec in cc (chosen, was)))
                    (λ out. (let left : mark f j ≡ Left = stands.left j below (not_contains s j out) in let was : mark f j ≡ Undecided = sym kept ∙ sym same ∙ undec in cc (left, was))))
                | inr fresh ↦ has_outside members s j fresh.0 (λ inside. absurd (let chosen : mark f j ≡ Chosen = stands.chosen j inside in let left = fresh.1 in cc (chosen, left)))
              ]
              | inr taken ↦ absurd (let left : mark g j ≡ Left = taken.1 in cc (left, undec))
            ]);
      };
      payable = record {
        paid = (λ j l there below debit.
            let up = (paid j (below_has g n j there)).paid l below debit in
            omega (arith, ints, up, lines l, below_credits p g l));
      };
      greatest = λ t are part payable. record {
        part = (λ j there.
            let fresh : AreUndecided o t = record {
              undecided = λ k inside.
                  (let both = outside_has members s k (part.part k inside) in
                  let below : k < n = subst (λ i. i < n) inside.2 (are.in_range inside.0 k inside.1) in
                  opened.opened k both.0 (stands.left k below both.1));
            } in
            let from : ArePaidFrom p (held p o) t = record {
              paid = λ k l inside below debit.
                  (let up = payable.paid k l inside below debit in omega (arith, ints, up, start l));
            } in
            let still = turn.keeps t are fresh from in
            let below : j < n = subst (λ i. i < n) there.2 (are.in_range there.0 j there.1) in
            has_below g n j below (still.undecided j there));
      };
    }

-- all of the rest is chosen
pub rest_chosen : (p : Clearing) (s : List ℕ) (g h : List Mark) (l : ℕ) → ArePlaces p s → ((j : ℕ) → (mark g j ≡ Chosen → Contains s j) × (Contains s j → mark g j ≡ Chosen)) →
    AreChosen (length p.items) g h → booked p (undecided_below g (length p.items) ++ s) l ≡ held p h l
rest_chosen p s g h l places is_set chosen =
    let n : ℕ = length p.items in
    let r : List ℕ = undecided_below g n in
    let split = sum_over_append (λ j. effect p j l) r s in
    let first = sum_over_in (λ j. effect p j l) r n (below_rising g n) (below_range g n) in
    let second = sum_over_in (λ j. effect p j l) s n places.rising places.in_range in
    let both = sum_below_add (λ j. pick (is_in j r) (effect p j l)) (λ j. pick (is_in j s) (effect p j l)) n in
    let each = sum_below_same (λ j. pick (is_in j r) (effect p j l) +ℤ pick (is_in j s) (effect p j l)) (λ j. pick (is_chosen (mark h j)) (effect p j l)) n
    (λ j below. elim (undecided_or_not (mark g j)) as (λ _. pick (is_in j r) (effect p j l) +ℤ pick (is_in j s) (effect p j l) ≡ pick (is_chosen (mark h j)) (effect p j l)) [
      | inl undec ↦
          let a : pick (is_in j r) (effect p j l) ≡ effect p j l = ap (λ b. pick b (effect p j l)) (below_is g n j below ∙ ap is_undecided undec) in
          let b : pick (is_in j s) (effect p j l) ≡ pos 0 = ap (λ b. pick b (effect p j l)) (not_in_of s j (λ there. absurd (let told = (is_set j).1 there in cc (told, undec)))) in
          let d : pick (is_chosen (mark h j)) (effect p j l) ≡ effect p j l = ap (λ m. pick (is_chosen m) (effect p j l)) (chosen.chosen j below undec) in
          omega (arith, ints, a, b, d)
      | inr other ↦
          let a : pick (is_in j r) (effect p j l) ≡ pos 0 = ap (λ b. pick b (effect p j l)) (below_is g n j below ∙ not_undecided (mark g j) other) in
          let same : is_in j s ≡ is_chosen (mark g j) = by_test (is_in j s) {P = is_in j s ≡ is_chosen (mark g j)}
          (λ told. told ∙ sym (ap is_chosen ((is_set j).1 (contains_of s j told))))
          (λ out. out ∙ sym (not_chosen (mark g j) (λ q. not_contains s j out ((is_set j).0 q)))) in
          let b : pick (is_in j s) (effect p j l) ≡ pick (is_chosen (mark g j)) (effect p j l) = ap (λ b. pick b (effect p j l)) same in
          let d : pick (is_chosen (mark h j)) (effect p j l) ≡ pick (is_chosen (mark g j)) (effect p j l) = ap (λ m. pick (is_chosen m) (effect p j l)) (chosen.others j other) in
          omega (arith, ints, a, b, d)
    ]) in
    omega (arith, ints, split, first, second, both, each)

pub chosen_decided : (p : Clearing) (g h : List Mark) → AreChosen (length p.items) g h → AreDecided p h
chosen_decided p g h chosen = record {
  decided = (λ j below. elim (undecided_or_not (mark g j)) as (λ _. mark h j ≢ Undecided) [
    | inl undec ↦ chosen_or (mark h j) (chosen.chosen j below undec)
    | inr other ↦ (λ q. other (sym (chosen.others j other) ∙ q))
  ]);
}

-- two rests of one set have the same places
pub same_rest : (p : Clearing) (s c r t : List ℕ) (l : ℕ) → ArePlaces p s → IsRest p s c r → IsRest p s c t → booked p (t ++ s) l ≡ booked p (r ++ s) l
same_rest p s c r t l places first second =
    let there = first.greatest t second.places second.within second.payable in
    let back = second.greatest r first.places first.within first.payable in
    let same : (j : ℕ) → is_in j t ≡ is_in j r = λ j. by_test (is_in j r) {P = is_in j t ≡ is_in j r}
    (λ told. is_in_of t j (back.part j (contains_of r j told)) ∙ sym told)
    (λ out. not_in_of t j (λ inside. not_contains r j out (there.part j inside)) ∙ sym out) in
    let split_t = sum_over_append (λ j. effect p j l) t s in
    let split_r = sum_over_append (λ j. effect p j l) r s in
    let sum_t = sum_over_in (λ j. effect p j l) t (length p.items) second.places.rising second.places.in_range in
    let sum_r = sum_over_in (λ j. effect p j l) r (length p.items) first.places.rising first.places.in_range in
    let each = sum_below_same (λ j. pick (is_in j t) (effect p j l)) (λ j. pick (is_in j r) (effect p j l)) (length p.items) (λ j below. ap (λ b. pick b (effect p j l)) (same j)) in
    omega (arith, ints, split_t, split_r, sum_t, sum_r, each)

empty_part : (t : List ℕ) → IsSubset t [] → t ≡ []
empty_part [] part = refl
empty_part (x ∷ xs) part = absurd (let there = part.part x (0, omega arith, refl) in omega (arith, there.1))

pub no_rest : (p : Clearing) (s c r t : List ℕ) → IsRest p s c r → IsRest p s c t → r ≡ [] → t ≡ []
no_rest p s c r t first second none =
    empty_part t (subst (IsSubset t) none (first.greatest t second.places second.within second.payable))
