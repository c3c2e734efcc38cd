use Rattle.std.proofs.Common.{◌≡◌, ◌≢◌, inl, inr, ℕ, suc, ◌<◌, ℤ, pos, ◌+ℤ◌, ◌≤ℤ◌, Bool, true, false, ◌||◌, not, List, [], ◌∷◌, length, map, get_or, eqb, cond, refl, ap, sym, ◌∙◌, subst, arith}
use Rattle.std.specs.Prelude.{◌<ℤ◌}
use Rattle.std.specs.Int.{int_max}
use Rattle.std.specs.List.{All, Contains, filter, list_any}
use Rattle.std.proofs.lemmas.Bool.{cases_Bool, false_from_ne_true}
use Rattle.std.proofs.lemmas.Bool.Decides.{eqb_tells}
use Rattle.std.proofs.lemmas.Int.{ints}
use Rattle.std.proofs.lemmas.List.{length-map, get_or-map, get_or_default}
use Rattle.dali_problem.specs.Sums.{sum_over, pick}
use Rattle.dali_problem.specs.Clearing.{Clearing, worth, effect}
use Rattle.dali_problem.specs.Feasible.{ArePlaces, IsFeasible, booked}
use Rattle.dali_problem.specs.Rest.{credits_of, IsPayable, IsRest}
use Rattle.dali_problem.specs.Rest as rests
use Rattle.dali_problem.proofs.SumLaws.{sum_over_append}
use Rattle.dali_problem.proofs.SetLaws.{is_in, is_in_of, contains_of, sum_over_in}
use Rattle.dali_rest.specs.Addable.{CanAddOne, CanAddRest}
use Rattle.dali_rest.specs.Swappable.{CanSwap}
use Rattle.dali_rest.specs.Sets.{outside}
use Rattle.dali_rest.proofs.Rests.{outside_has}
use Rattle.dali_rest.proofs.Standing.{without_sum, not_contains}
use Rattle.dali_restrict.specs.Below.{places_below}
use Rattle.dali_restrict.specs.Restriction.{old_of}
use Rattle.dali_restrict.proofs.Spread.{false_true, IsRise, old_below, old_in, found, sum_spread}
use Rattle.dali_restrict.proofs.Below.{below_range, below_rising, below_has, has_below}
use Rattle.dali_restrict.proofs.Renumber.{IsPart}

-- What a set of the whole problem is on one part, and what the same set of the restriction is.

-- each place of the part is in both sets or in none
pub record IsMatch (places outer inner : List ℕ) : Type 0 where
  pub same : (i : ℕ) → i < length places → is_in (old_of places i) outer ≡ is_in i inner

-- the sets x of the whole and y of the restriction, whose lines no other place changes
pub record IsPiece (p q : Clearing) (places lines x y : List ℕ) : Type 0 where
  pub part : IsPart p q places lines
  pub own : (j l : ℕ) → j < length p.items → is_in j places ≡ false → is_in l lines ≡ true → effect p j l ≡ pos 0
  pub outer : IsRise (length p.items) x
  pub inner : IsRise (length places) y
  pub match : IsMatch places x y

-- a sum over two sets that match
pub matched_sum : (a b : ℕ → ℤ) (n : ℕ) (places x y : List ℕ) → IsRise n places → IsRise n x → IsRise (length places) y → IsMatch places x y →
    ((i : ℕ) → i < length places → a (old_of places i) ≡ b i) → ((j : ℕ) → j < n → is_in j places ≡ false → is_in j x ≡ true → a j ≡ pos 0) →
    sum_over a x ≡ sum_over b y
matched_sum a b n places x y rise outer inner match same none =
    sum_over_in a x n outer.rising outer.in_range
    ∙ sum_spread (λ j. pick (is_in j x) (a j)) (λ i. pick (is_in i y) (b i)) n places rise
    (λ i below. ap (λ t. pick t (a (old_of places i))) (match.same i below) ∙ ap (pick (is_in i y)) (same i below))
    (λ j below out. elim (cases_Bool (is_in j x)) as (λ _. pick (is_in j x) (a j) ≡ pos 0) [
      | inl there ↦ ap (λ t. pick t (a j)) there ∙ none j below out there
      | inr off ↦ ap (λ t. pick t (a j)) off
    ])
    ∙ sym (sum_over_in b y (length places) inner.rising inner.in_range)

-- what a set does on a line of the part
pub piece_sum : (p q : Clearing) (places lines x y : List ℕ) (k : ℕ) → IsPiece p q places lines x y → k < length lines →
    sum_over (λ j. effect p j (old_of lines k)) x ≡ sum_over (λ i. effect q i k) y
piece_sum p q places lines x y k piece below =
    matched_sum (λ j. effect p j (old_of lines k)) (λ i. effect q i k) (length p.items) places x y piece.part.members piece.outer piece.inner piece.match
    (λ i within. sym (piece.part.same_effect i k within below))
    (λ j inside out there. piece.own j (old_of lines k) inside out (old_in lines k below))

pub piece_booked : (p q : Clearing) (places lines x y : List ℕ) (k : ℕ) → IsPiece p q places lines x y → k < length lines →
    booked p x (old_of lines k) ≡ booked q y k
piece_booked p q places lines x y k piece below =
    let sum = piece_sum p q places lines x y k piece below in
    let bal = piece.part.same_balance k below in
    omega (arith, ints, sum, bal)

-- a set that is feasible by one more place is so in the restriction
pub piece_one : (p q : Clearing) (places lines x y : List ℕ) (i : ℕ) → IsPiece p q places lines x y → i < length places →
    is_in (old_of places i) x ≡ false → IsFeasible p (old_of places i ∷ x) → CanAddOne q y
piece_one p q places lines x y i piece within out feasible = record {
  place = i;
  in_range = omega (arith, within, piece.part.items_size);
  outside = not_contains y i (sym (piece.match.same i within) ∙ out);
  feasible = record {
    covered = (λ k below.
        let under : k < length lines = omega (arith, below, piece.part.lines_size) in
        let sum = piece_sum p q places lines x y k piece under in
        let bal = piece.part.same_balance k under in
        let one = piece.part.same_effect i k within under in
        let up = feasible.covered (old_of lines k) (old_below (length p.lines) lines k piece.part.changed under) in
        omega (arith, ints, sum, bal, one, up));
  };
}

-- one place for another
pub piece_swap : (p q : Clearing) (places lines x y members : List ℕ) → IsPiece p q places lines x y → ((i : ℕ) → i < length places → Contains members i) →
    CanSwap p x places → CanSwap q y members
piece_swap p q places lines x y members piece all swap =
    let given = found places swap.given (is_in_of places swap.given swap.given_member) in
    let taken = found places swap.taken (is_in_of places swap.taken swap.taken_member) in
    let there : is_in given.0 y ≡ true = sym (piece.match.same given.0 given.1) ∙ ap (λ j. is_in j x) given.2 ∙ is_in_of x swap.given swap.given_in in
    let off : is_in taken.0 y ≡ false = sym (piece.match.same taken.0 taken.1) ∙ ap (λ j. is_in j x) taken.2
    ∙ false_from_ne_true (is_in swap.taken x) (λ told. swap.taken_out (contains_of x swap.taken told)) in
    record {
      given = given.0;
      taken = taken.0;
      given_member = all given.0 given.1;
      given_in = contains_of y given.0 there;
      taken_member = all taken.0 taken.1;
      taken_out = not_contains y taken.0 off;
      greater =
          let low : worth q given.0 ≡ worth p swap.given = piece.part.same_worth given.0 given.1 ∙ ap (worth p) given.2 in
          let high : worth q taken.0 ≡ worth p swap.taken = piece.part.same_worth taken.0 taken.1 ∙ ap (worth p) taken.2 in
          omega (arith, low, high, swap.greater);
      feasible = record {
        covered = (λ k below.
            let under : k < length lines = omega (arith, below, piece.part.lines_size) in
            let l : ℕ = old_of lines k in
            let sum = piece_sum p q places lines x y k piece under in
            let bal = piece.part.same_balance k under in
            let gone : effect q given.0 k ≡ effect p swap.given l = piece.part.same_effect given.0 k given.1 under ∙ ap (λ j. effect p j l) given.2 in
            let come : effect q taken.0 k ≡ effect p swap.taken l = piece.part.same_effect taken.0 k taken.1 under ∙ ap (λ j. effect p j l) taken.2 in
            let outer = without_sum (λ j. effect p j l) swap.given x piece.outer.rising (is_in_of x swap.given swap.given_in) in
            let inner = without_sum (λ i. effect q i k) given.0 y piece.inner.rising there in
            let up = swap.feasible.covered l (old_below (length p.lines) lines k piece.part.changed under) in
            omega (arith, ints, sum, bal, gone, come, outer, inner, up));
      };
    }

-- what a filter keeps
in_filter : (test : ℕ → Bool) (xs : List ℕ) (j : ℕ) → is_in j xs ≡ true → test j ≡ true → is_in j (filter test xs) ≡ true
in_filter test [] j there told = there
in_filter test (x ∷ xs) j there told = elim (eqb_tells x j) as (λ _. is_in j (filter test (x ∷ xs)) ≡ true) [
  | inl same ↦
      let keeps : test x ≡ true = ap test same.1 ∙ told in
      ap (λ b. is_in j (cond b (x ∷ filter test xs) (filter test xs))) keeps ∙ ap (λ b. b || is_in j (filter test xs)) same.0
  | inr other ↦
      let rest : is_in j (filter test xs) ≡ true = in_filter test xs j (sym (ap (λ b. b || is_in j xs) other.0) ∙ there) told in
      elim (cases_Bool (test x)) as (λ _. is_in j (filter test (x ∷ xs)) ≡ true) [
        | inl keeps ↦ ap (λ b. is_in j (cond b (x ∷ filter test xs) (filter test xs))) keeps ∙ ap (λ b. b || is_in j (filter test xs)) other.0 ∙ rest
        | inr drops ↦ ap (λ b. is_in j (cond b (x ∷ filter test xs) (filter test xs))) drops ∙ rest
      ]
]

pub any_is : (s : List ℕ) (j : ℕ) → list_any (λ k. eqb k j) s ≡ is_in j s
any_is [] j = refl
any_is (x ∷ xs) j = ap (λ b. eqb x j || b) (any_is xs j)

has_outside : (members s : List ℕ) (j : ℕ) → Contains members j → is_in j s ≡ false → Contains (outside members s) j
has_outside members s j there out =
    contains_of (outside members s) j (in_filter (λ k. not (list_any (λ x. eqb x k) s)) members j (is_in_of members j there)
    (ap not (any_is s j ∙ out)))

-- the places of the restriction whose old ones are in a list
abbrev inner_of : List ℕ → List ℕ → List ℕ
inner_of places r = places_below (λ i. is_in (old_of places i) r) (length places)

inner_rise : (places r : List ℕ) → IsRise (length places) (inner_of places r)
inner_rise places r = record {
  rising = below_rising (λ i. is_in (old_of places i) r) (length places);
  in_range = below_range (λ i. is_in (old_of places i) r) (length places);
}

inner_match : (places r : List ℕ) → IsMatch places r (inner_of places r)
inner_match places r = record {
  same = (λ i below. elim (cases_Bool (is_in (old_of places i) r)) as (λ _. is_in (old_of places i) r ≡ is_in i (inner_of places r)) [
    | inl there ↦ there ∙ sym (is_in_of (inner_of places r) i (has_below (λ k. is_in (old_of places k) r) (length places) i below there))
    | inr off ↦ off ∙ sym (false_from_ne_true (is_in i (inner_of places r)) (λ told.
        false_true (sym off ∙ below_has (λ k. is_in (old_of places k) r) (length places) i (contains_of (inner_of places r) i told))))
  ]);
}

-- the old places of a list of the restriction
abbrev outer_of : List ℕ → List ℕ → List ℕ
outer_of places t = map (old_of places) t

outer_sum : (a b : ℕ → ℤ) (places t : List ℕ) → ((i : ℕ) → i < length places → a (old_of places i) ≡ b i) → All (λ i. i < length places) t →
    sum_over a (outer_of places t) ≡ sum_over b t
outer_sum a b places [] same within = refl
outer_sum a b places (i ∷ t) same within =
    ap (λ z. z +ℤ sum_over a (outer_of places t)) (same i (within 0 0 (omega arith)))
    ∙ ap (λ z. b i +ℤ z) (outer_sum a b places t same (λ k d below. within (suc k) d (omega (arith, below))))

outer_has : (places t : List ℕ) (i : ℕ) → Contains t i → Contains (outer_of places t) (old_of places i)
outer_has places t i there = (
  there.0,
  omega (arith, there.1, length-map t (old_of places)),
  get_or-map (old_of places) t there.0 i (old_of places i) there.1 ∙ ap (old_of places) there.2,
)

has_outer : (places t : List ℕ) (j : ℕ) → Contains (outer_of places t) j → (i : ℕ) × (Contains t i) × (old_of places i ≡ j)
has_outer places t j there =
    let below : there.0 < length t = omega (arith, there.1, length-map t (old_of places)) in
    let i : ℕ = get_or t there.0 0 in
    (i, (there.0, below, get_or_default t there.0 i 0 below), sym (get_or-map (old_of places) t there.0 0 j below) ∙ there.2)

first_of : (r : List ℕ) → r ≢ [] → 0 < length r
first_of [] some = absurd (some refl)
first_of (j ∷ r) some = omega arith

-- the rest of the part, taken to the restriction
pub piece_rest : (p q : Clearing) (places lines x y members : List ℕ) → IsPiece p q places lines x y → ((i : ℕ) → i < length places → Contains members i) →
    ((i : ℕ) → Contains members i → i < length places) → CanAddRest p x places → CanAddRest q y members
piece_rest p q places lines x y members piece all only add = record {
  rest = inner_of places add.rest;
  is_rest = record {
    places = record {
      rising = below_rising (λ i. is_in (old_of places i) add.rest) (length places);
      in_range = (λ k d below. omega (arith, below_range (λ i. is_in (old_of places i) add.rest) (length places) k d below, piece.part.items_size));
    };
    within = record { part = (λ i there. has_outside members y i (all i (inside i there)) (off_inner i (inside i there) (outer_there i there))) };
    payable = record {
      paid = (λ i k there below debit.
          let under : k < length lines = omega (arith, below, piece.part.lines_size) in
          let l : ℕ = old_of lines k in
          let one = piece.part.same_effect i k (inside i there) under in
          let bal = piece_booked p q places lines x y k piece under in
          let cred = credits_same k under in
          let down : effect p (old_of places i) l <ℤ pos 0 = subst (λ z. z <ℤ pos 0) one debit in
          let up = add.is_rest.payable.paid (old_of places i) l (outer_there i there) (old_below (length p.lines) lines k piece.part.changed under) down in
          omega (arith, ints, one, bal, cred, up));
    };
    greatest = (λ t are within payable. record {
      part = (λ i there.
          let below : i < length places = only i (outside_has members y i (within.part i there)).0 in
          let inside_t : All (λ k. k < length places) t = λ k d less. omega (arith, are.in_range k d less, piece.part.items_size) in
          let has : Contains add.rest (old_of places i) =
          (add.is_rest.greatest (outer_of places t) (outer_places t are) (outer_within t within) (outer_payable t inside_t within payable)).part (old_of places i) (outer_has places t i there) in
          has_below (λ k. is_in (old_of places k) add.rest) (length places) i below (is_in_of add.rest (old_of places i) has));
    });
  };
  not_empty = (λ none.
      let some : 0 < length add.rest = first_of add.rest add.not_empty in
      let j : ℕ = get_or add.rest 0 0 in
      let there : Contains add.rest j = (0, some, get_or_default add.rest 0 j 0 some) in
      let at = found places j (is_in_of places j (members_of j there)) in
      let back : is_in (old_of places at.0) add.rest ≡ true = ap (λ m. is_in m add.rest) at.2 ∙ is_in_of add.rest j there in
      let has = has_below (λ k. is_in (old_of places k) add.rest) (length places) at.0 at.1 back in
      let nothing : length (inner_of places add.rest) ≡ 0 = ap length none in
      absurd (omega (arith, has.1, nothing)));
  feasible = record {
    covered = (λ k below.
        let under : k < length lines = omega (arith, below, piece.part.lines_size) in
        let l : ℕ = old_of lines k in
        let bal = piece_booked p q places lines x y k piece under in
        let outer = sum_over_append (λ j. effect p j l) add.rest x in
        let inner = sum_over_append (λ i. effect q i k) (inner_of places add.rest) y in
        let sum = effects_same k under in
        let up = add.feasible.covered l (old_below (length p.lines) lines k piece.part.changed under) in
        omega (arith, ints, bal, outer, inner, sum, up));
  };
}
  where
    members_of : (j : ℕ) → Contains add.rest j → Contains places j
    members_of j there = (outside_has places x j (add.is_rest.within.part j there)).0

    inside : (i : ℕ) → Contains (inner_of places add.rest) i → i < length places
    inside i there = subst (λ (k : ℕ). k < length places) there.2 (below_range (λ k. is_in (old_of places k) add.rest) (length places) there.0 i there.1)

    outer_there : (i : ℕ) → Contains (inner_of places add.rest) i → Contains add.rest (old_of places i)
    outer_there i there = contains_of add.rest (old_of places i) (below_has (λ k. is_in (old_of places k) add.rest) (length places) i there)

    off_inner : (i : ℕ) → i < length places → Contains add.rest (old_of places i) → is_in i y ≡ false
    off_inner i below there = sym (piece.match.same i below)
        ∙ false_from_ne_true (is_in (old_of places i) x) (λ told. (outside_has places x (old_of places i) (add.is_rest.within.part (old_of places i) there)).1 (contains_of x (old_of places i) told))

    rest_rise : IsRise (length p.items) add.rest
    rest_rise = record { rising = add.is_rest.places.rising; in_range = add.is_rest.places.in_range }

    rest_sum : (a b : ℕ → ℤ) → ((i : ℕ) → i < length places → a (old_of places i) ≡ b i) → sum_over a add.rest ≡ sum_over b (inner_of places add.rest)
    rest_sum a b same = matched_sum a b (length p.items) places add.rest (inner_of places add.rest) piece.part.members rest_rise
        (inner_rise places add.rest) (inner_match places add.rest) same
        (λ j below out there. absurd (false_true (sym out ∙ is_in_of places j (members_of j (contains_of add.rest j there)))))

    credits_same : (k : ℕ) → k < length lines → credits_of p add.rest (old_of lines k) ≡ credits_of q (inner_of places add.rest) k
    credits_same k under = rest_sum (λ j. int_max (pos 0) (effect p j (old_of lines k))) (λ i. int_max (pos 0) (effect q i k))
        (λ i within. ap (int_max (pos 0)) (sym (piece.part.same_effect i k within under)))

    effects_same : (k : ℕ) → k < length lines → sum_over (λ j. effect p j (old_of lines k)) add.rest ≡ sum_over (λ i. effect q i k) (inner_of places add.rest)
    effects_same k under = rest_sum (λ j. effect p j (old_of lines k)) (λ i. effect q i k) (λ i within. sym (piece.part.same_effect i k within under))

    outer_places : (t : List ℕ) → ArePlaces q t → ArePlaces p (outer_of places t)
    outer_places t are = record {
      rising = (λ a b d before within.
          let last : b < length t = omega (arith, within, length-map t (old_of places)) in
          let first : a < length t = omega (arith, before, last) in
          let less : get_or t a 0 < get_or t b 0 = are.rising a b 0 before last in
          let top : get_or t b 0 < length places = omega (arith, are.in_range b 0 last, piece.part.items_size) in
          let up : old_of places (get_or t a 0) < old_of places (get_or t b 0) = piece.part.members.rising (get_or t a 0) (get_or t b 0) 0 less top in
          let one : get_or (outer_of places t) a d ≡ old_of places (get_or t a 0) = get_or-map (old_of places) t a 0 d first in
          let two : get_or (outer_of places t) b d ≡ old_of places (get_or t b 0) = get_or-map (old_of places) t b 0 d last in
          omega (arith, up, one, two));
      in_range = (λ a d within.
          let first : a < length t = omega (arith, within, length-map t (old_of places)) in
          let below : get_or t a 0 < length places = omega (arith, are.in_range a 0 first, piece.part.items_size) in
          let one : get_or (outer_of places t) a d ≡ old_of places (get_or t a 0) = get_or-map (old_of places) t a 0 d first in
          omega (arith, one, old_below (length p.items) places (get_or t a 0) piece.part.members below));
    }

    outer_within : (t : List ℕ) → rests.IsSubset t (outside members y) → rests.IsSubset (outer_of places t) (outside places x)
    outer_within t within = record {
      part = (λ j there.
          let at = has_outer places t j there in
          let has = outside_has members y at.0 (within.part at.0 at.1) in
          let below : at.0 < length places = only at.0 has.0 in
          let out : is_in (old_of places at.0) x ≡ false = piece.match.same at.0 below ∙ false_from_ne_true (is_in at.0 y) (λ told. has.1 (contains_of y at.0 told)) in
          subst (Contains (outside places x)) at.2
          (has_outside places x (old_of places at.0) (contains_of places (old_of places at.0) (old_in places at.0 below)) out));
    }

    outer_payable : (t : List ℕ) → All (λ k. k < length places) t → rests.IsSubset t (outside members y) → IsPayable q y t → IsPayable p x (outer_of places t)
    outer_payable t inside_t within payable = record {
      paid = (λ j l there below debit.
          let at = has_outer places t j there in
          let less : at.0 < length places = only at.0 (outside_has members y at.0 (within.part at.0 at.1)).0 in
          elim (cases_Bool (is_in l lines)) as (λ _. pos 0 ≤ℤ (booked p x l +ℤ effect p j l +ℤ credits_of p (outer_of places t) l)) [
            | inl told ↦
                let line = found lines l told in
                let k : ℕ = line.0 in
                let one : effect q at.0 k ≡ effect p j l =
                piece.part.same_effect at.0 k less line.1 ∙ ap (λ m. effect p (old_of places at.0) m) line.2 ∙ ap (λ m. effect p m l) at.2 in
                let bal : booked p x l ≡ booked q y k = ap (booked p x) (sym line.2) ∙ piece_booked p q places lines x y k piece line.1 in
                let cred : credits_of p (outer_of places t) l ≡ credits_of q t k =
                ap (credits_of p (outer_of places t)) (sym line.2)
                ∙ outer_sum (λ m. int_max (pos 0) (effect p m (old_of lines k))) (λ i. int_max (pos 0) (effect q i k)) places t
                (λ i under. ap (int_max (pos 0)) (sym (piece.part.same_effect i k under line.1))) inside_t in
                let down : effect q at.0 k <ℤ pos 0 = subst (λ z. z <ℤ pos 0) (sym one) debit in
                let up = payable.paid at.0 k at.1 (omega (arith, line.1, piece.part.lines_size)) down in
                omega (arith, ints, one, bal, cred, up)
            | inr off ↦
                let none : effect p j l ≡ pos 0 = ap (λ m. effect p m l) (sym at.2) ∙ piece.part.outside at.0 l less off in
                absurd (omega (arith, ints, none, debit))
          ]);
    }
