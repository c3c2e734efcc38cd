use Rattle.std.proofs.Common.{◌≡◌, ◌≢◌, inl, inr, ℕ, suc, ◌<◌, ◌≤◌, pos, true, false, List, [], ◌∷◌, length, set, refl, ap, sym, ◌∙◌, subst, arith, length-set}
use Rattle.std.specs.List.{AllPairs}
use Rattle.std.proofs.lemmas.Bool.Decides.{eqb_tells}
use Rattle.std.proofs.lemmas.Int.{ints}
use Rattle.dali_problem.specs.declared.mark.Mark.{Mark}
use Rattle.dali_problem.specs.declared.mark.Mark.TheVariants.{Undecided, Chosen, Left}
use Rattle.dali_problem.specs.Sums.{sum_below, pick}
use Rattle.dali_problem.specs.Clearing.{Clearing, worth, effect}
use Rattle.dali_problem.specs.Feasible.{ArePlaces}
use Rattle.dali_problem.specs.Partial.{mark, is_chosen, held}
use Rattle.dali_problem.proofs.Opened.{within_undecided}
use Rattle.dali_problem.proofs.SumLaws.{sum_below_same, sum_below_zero}
use Rattle.dali_problem.proofs.SetLaws.{is_in, is_in_of, contains_of, is_in_rest}
use Rattle.dali_rest.specs.Addable.{CanAddOne, CanAddRest}
use Rattle.dali_rest.specs.Room.{IsCovered, undecided_below}
use Rattle.dali_rest.specs.Swappable.{CanSwap}
use Rattle.dali_rest.specs.Swaps.{AreDecided}
use Rattle.dali_rest.proofs.Marks.{mark_other}
use Rattle.dali_rest.proofs.Resting.{below_range, below_rising, below_has, has_below}
use Rattle.dali_rest.proofs.Sides.{nonneg_of, short_decided, held_chosen, decided_set, chosen_or, left_or}
use Rattle.dali_rest.proofs.Standing.{by_test, stands_held, swapped}
use Rattle.dali_greedy.specs.Grown.{IsGrown, IsOverdrawn}
use Rattle.dali_greedy.specs.Standing.{Standing, IsStandOf, Holds, GoesWith, HasMarked, IsStuck, IsDone, exchanged}
use Rattle.dali_greedy.proofs.Begun.{goes_agrees, holds_feasible}
use Rattle.dali_greedy.proofs.Worths.{chosen_is}

-- rising lists with the same places are one
in_above : (x : ℕ) (xs : List ℕ) (j : ℕ) → AllPairs (λ a b. a < b) (x ∷ xs) → is_in j xs ≡ true → x < j
in_above x xs j rising told =
    let there = contains_of xs j told in
    subst (λ k. x < k) there.2 (rising 0 (suc there.0) j (omega arith) (omega (arith, there.1)))

first_or_above : (x y : ℕ) (ys : List ℕ) → AllPairs (λ a b. a < b) (y ∷ ys) → is_in x (y ∷ ys) ≡ true → y ≤ x
first_or_above x y ys rising told = elim (eqb_tells y x) as (λ _. y ≤ x) [
  | inl same ↦ omega (arith, same.1)
  | inr other ↦ omega (arith, in_above y ys x rising (sym (is_in_rest x y ys other.1) ∙ told))
]

is_in_first : (x : ℕ) (xs : List ℕ) → is_in x (x ∷ xs) ≡ true
is_in_first x xs = is_in_of (x ∷ xs) x (0, omega arith, refl)

tail_rising : (x : ℕ) (xs : List ℕ) → AllPairs (λ a b. a < b) (x ∷ xs) → AllPairs (λ a b. a < b) xs
tail_rising x xs rising a b d before within = rising (suc a) (suc b) d (omega (arith, before)) (omega (arith, within))

not_first : (x : ℕ) (xs : List ℕ) → AllPairs (λ a b. a < b) (x ∷ xs) → is_in x xs ≡ false
not_first x xs rising = by_test (is_in x xs) {P = is_in x xs ≡ false} (λ told. absurd (omega (arith, in_above x xs x rising told))) (λ off. off)

pub same_rising : (xs ys : List ℕ) → AllPairs (λ a b. a < b) xs → AllPairs (λ a b. a < b) ys → ((j : ℕ) → is_in j xs ≡ is_in j ys) → xs ≡ ys
same_rising [] [] rising_x rising_y same = refl
same_rising [] (y ∷ ys) rising_x rising_y same = absurd (let told : false ≡ true = same y ∙ is_in_first y ys in cc told)
same_rising (x ∷ xs) [] rising_x rising_y same = absurd (let told : false ≡ true = sym (same x) ∙ is_in_first x xs in cc told)
same_rising (x ∷ xs) (y ∷ ys) rising_x rising_y same =
    let low = first_or_above x y ys rising_y (sym (same x) ∙ is_in_first x xs) in
    let high = first_or_above y x xs rising_x (same y ∙ is_in_first y ys) in
    let first : x ≡ y = omega (arith, low, high) in
    let rest : xs ≡ ys = same_rising xs ys (tail_rising x xs rising_x) (tail_rising y ys rising_y)
    (λ j. elim (eqb_tells x j) as (λ _. is_in j xs ≡ is_in j ys) [
      | inl is ↦
          subst (λ k. is_in k xs ≡ false) is.1 (not_first x xs rising_x)
          ∙ sym (subst (λ k. is_in k ys ≡ false) (sym first ∙ is.1) (not_first y ys rising_y))
      | inr other ↦ sym (is_in_rest j x xs other.1) ∙ same j ∙ is_in_rest j y ys (λ q. other.1 (first ∙ q))
    ]) in
    ap (λ k. k ∷ xs) first ∙ ap (λ ks. y ∷ ks) rest

-- a list of the undecided places is the list of them
pub members_are : (p : Clearing) (f : List Mark) (members : List ℕ) → length f ≡ length p.items → ArePlaces p members → HasMarked p f Undecided members →
    members ≡ undecided_below f (length p.items)
members_are p f members size places has =
    let n : ℕ = length p.items in
    same_rising members (undecided_below f n) places.rising (below_rising f n) (λ j. by_test (is_in j members) {P = is_in j members ≡ is_in j (undecided_below f n)}
    (λ told.
    let undec : mark f j ≡ Undecided = has.marked j (contains_of members j told) in
    told ∙ sym (is_in_of (undecided_below f n) j (has_below f n j (omega (arith, within_undecided f j undec, size)) undec)))
    (λ out. by_test (is_in j (undecided_below f n)) {P = is_in j members ≡ is_in j (undecided_below f n)}
    (λ told.
    let undec : mark f j ≡ Undecided = below_has f n j (contains_of (undecided_below f n) j told) in
    is_in_of members j (has.all j (omega (arith, within_undecided f j undec, size)) undec) ∙ sym told)
    (λ off. out ∙ sym off)))

covered_holds : (p : Clearing) (g : List Mark) → AreDecided p g → IsCovered p g → Holds p g
covered_holds p g all covered = record {
  covered = (λ l below. nonneg_of (held p g l) (sym (short_decided p g l all) ∙ covered.covered l below));
}

-- a set that is stuck everywhere, and to which no rest can be added
pub grown_is : (p : Clearing) (f : List Mark) (k : Standing) (members s : List ℕ) → length f ≡ length p.items → IsStandOf p k → Holds p k.marks → GoesWith f k.marks →
    ArePlaces p members → HasMarked p f Undecided members → IsDone p k.marks members s →
    ((j : ℕ) → mark f j ≡ Undecided → mark k.marks j ≡ Left → IsStuck p f k.marks j) → IsGrown p f s
grown_is p f k members s size stand holds goes places has done stuck = record {
  places = done.places;
  feasible = holds_feasible p k.marks s done.places done.stands holds;
  agrees = goes_agrees p f k.marks s stand.marks done.stands goes;
  no_place = (λ can.
      let within : can.place < length p.items = omega (arith, within_undecided f can.place can.undecided, size) in
      let left : mark k.marks can.place ≡ Left = done.stands.left can.place within can.outside in
      (stuck can.place can.undecided left).alone (record {
        covered = (λ l below. omega (arith, ints, stands_held p s k.marks l done.places done.stands, held_chosen p k.marks can.place l stand.marks within left, can.feasible.covered l below));
      }));
  no_rest = subst (λ (ms : List ℕ). ¬ (CanAddRest p s ms)) (members_are p f members size places has) done.no_rest;
  no_swap = (λ can.
      let n : ℕ = length p.items in
      let ms : List ℕ = undecided_below f n in
      let i : ℕ = can.given in
      let still : length (set k.marks i Left) ≡ n = length-set k.marks i Left ∙ stand.marks in
      let better = swapped p s ms k.marks done.places done.stands stand.marks (below_range f n) can still in
      let j : ℕ = better.place in
      let apart : j ≢ i = λ same. absurd (let both : worth p j ≡ worth p i = ap (worth p) same in omega (arith, better.greater, both)) in
      let left : mark k.marks j ≡ Left = sym (mark_other k.marks i j Left apart) ∙ better.left in
      let undec : mark f j ≡ Undecided = below_has f n j better.member in
      let all = decided_set p (set k.marks i Left) j Chosen still (chosen_or Chosen refl) (decided_set p k.marks i Left stand.marks (left_or Left refl) stand.decided) in
      (stuck j undec left).exchange i (record {
        undecided = below_has f n i can.given_member;
        chosen = done.stands.chosen i can.given_in;
        less = better.greater;
        holds = covered_holds p (exchanged k.marks i j) all better.covered;
      }));
}

-- with all places undecided, a grown set is none that one place or the rest of all can be added to, or in which one can be exchanged
pub grown_whole : (p : Clearing) (f : List Mark) (members s : List ℕ) → length f ≡ length p.items → ArePlaces p members → HasMarked p f Undecided members →
    ((j : ℕ) → j < length p.items → mark f j ≡ Undecided) → IsGrown p f s →
    (¬ (CanAddOne p s)) × (¬ (CanAddRest p s members)) × (¬ (CanSwap p s members))
grown_whole p f members s size places has all grown =
    let same = members_are p f members size places has in (
      λ can. grown.no_place (record { place = can.place; undecided = all can.place can.in_range; outside = can.outside; feasible = can.feasible }),
      subst (λ (ms : List ℕ). ¬ (CanAddRest p s ms)) (sym same) grown.no_rest,
      subst (λ (ms : List ℕ). ¬ (CanSwap p s ms)) (sym same) grown.no_swap,
    )

-- no line is negative where no place is chosen
pub none_overdrawn : (p : Clearing) (f : List Mark) → ((j : ℕ) → mark f j ≢ Chosen) → ¬ (IsOverdrawn p f)
none_overdrawn p f none over =
    let nothing : sum_below (λ j. pick (is_chosen (mark f j)) (effect p j over.line)) (length p.items) ≡ pos 0 =
    sum_below_same (λ j. pick (is_chosen (mark f j)) (effect p j over.line)) (λ _. pos 0) (length p.items)
    (λ j below. ap (λ b. pick b (effect p j over.line)) (by_test (is_chosen (mark f j)) {P = is_chosen (mark f j) ≡ false}
    (λ told. absurd (none j (chosen_is (mark f j) told))) (λ off. off))) ∙ sum_below_zero (length p.items) in
    absurd (omega (arith, ints, over.negative, nothing))
