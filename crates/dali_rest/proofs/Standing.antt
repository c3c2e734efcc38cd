use Rattle.std.proofs.Common.{◌≡◌, ◌≢◌, inl, inr, ℕ, suc, ◌+◌, ◌<◌, ℤ, pos, ◌+ℤ◌, ◌-ℤ◌, ◌≤ℤ◌, Bool, true, false, not, List, [], ◌∷◌, length, get_or, set, cond, refl, ap, sym, ◌∙◌, subst, arith}
use Rattle.std.specs.List.{All, AllPairs, Contains}
use Rattle.std.proofs.lemmas.Bool.Decides.{eqb_tells}
use Rattle.std.proofs.lemmas.Bool.{cases_lt}
use Rattle.std.proofs.lemmas.Int.{ints}
use Rattle.std.proofs.lemmas.List.{get_or_default}
use Rattle.std.proofs.lemmas.List.Elements.{All-head, All-tail}
use Rattle.dali_problem.specs.declared.mark.Mark.{Mark}
use Rattle.dali_problem.specs.declared.mark.Mark.TheVariants.{Undecided, Chosen, Left}
use Rattle.dali_problem.specs.Sums.{sum_over, pick}
use Rattle.dali_problem.specs.Clearing.{Clearing, balance, worth, effect}
use Rattle.dali_problem.specs.Feasible.{ArePlaces, IsFeasible, booked}
use Rattle.dali_problem.specs.Partial.{mark, is_chosen, held}
use Rattle.dali_problem.specs.Rules.{is_negative}
use Rattle.dali_problem.proofs.SumLaws.{sum_below_same}
use Rattle.dali_problem.proofs.SetLaws.{is_in, is_in_of, contains_of, is_in_rest, booked_in}
use Rattle.dali_rest.specs.Addable.{CanAddOne}
use Rattle.dali_rest.specs.Room.{AreMarksOf, IsCovered}
use Rattle.dali_rest.specs.Sets.{without}
use Rattle.dali_rest.specs.Swappable.{CanSwap}
use Rattle.dali_rest.specs.Swaps.{AreDecided, HasBetter}
use Rattle.dali_rest.proofs.Marks.{mark_other}
use Rattle.dali_rest.proofs.Sides.{nonneg, nonneg_of, short_decided, held_chosen, held_left, decided_set, chosen_or, left_or}

pub by_test : (b : Bool) {P : Type 0} → (b ≡ true → P) → (b ≡ false → P) → P
by_test true told other = told refl
by_test false told other = other refl

pub not_contains : (s : List ℕ) (j : ℕ) → is_in j s ≡ false → ¬ (Contains s j)
not_contains s j out there = absurd (let told : is_in j s ≡ true = is_in_of s j there in cc (told, out))

-- a place that stands in the set is chosen, another is left
pub stands_is : (p : Clearing) (s : List ℕ) (f : List Mark) (j : ℕ) → AreMarksOf (length p.items) s f → j < length p.items →
    is_chosen (mark f j) ≡ is_in j s
stands_is p s f j stands below = by_test (is_in j s)
    (λ told. ap is_chosen (stands.chosen j (contains_of s j told)) ∙ sym told)
    (λ out. ap is_chosen (stands.left j below (not_contains s j out)) ∙ sym out)

pub stands_in : (p : Clearing) (s : List ℕ) (f : List Mark) (j : ℕ) → AreMarksOf (length p.items) s f → j < length p.items → mark f j ≡ Chosen → Contains s j
stands_in p s f j stands below chosen =
    contains_of s j (sym (stands_is p s f j stands below) ∙ ap is_chosen chosen)

pub stands_out : (p : Clearing) (s : List ℕ) (f : List Mark) (j : ℕ) → AreMarksOf (length p.items) s f → mark f j ≡ Left → ¬ (Contains s j)
stands_out p s f j stands left there = absurd (let chosen : mark f j ≡ Chosen = stands.chosen j there in cc (left, chosen))

pub stands_decided : (p : Clearing) (s : List ℕ) (f : List Mark) → AreMarksOf (length p.items) s f → AreDecided p f
stands_decided p s f stands = record {
  decided = (λ j below. by_test (is_in j s) {P = mark f j ≢ Undecided}
      (λ told. chosen_or (mark f j) (stands.chosen j (contains_of s j told)))
      (λ out. left_or (mark f j) (stands.left j below (not_contains s j out))));
}

pub stands_held : (p : Clearing) (s : List ℕ) (f : List Mark) (l : ℕ) → ArePlaces p s → AreMarksOf (length p.items) s f → held p f l ≡ booked p s l
stands_held p s f l places stands =
    ap (λ z. balance p l +ℤ z) (sum_below_same (λ j. pick (is_chosen (mark f j)) (effect p j l)) (λ j. pick (is_in j s) (effect p j l)) (length p.items)
    (λ j below. ap (λ b. pick b (effect p j l)) (stands_is p s f j stands below)))
    ∙ sym (booked_in p s l places)

pub stands_covered : (p : Clearing) (s : List ℕ) (f : List Mark) → ArePlaces p s → IsFeasible p s → AreMarksOf (length p.items) s f → IsCovered p f
stands_covered p s f places feasible stands = record {
  covered = (λ l below. short_decided p f l (stands_decided p s f stands)
      ∙ ap is_negative (stands_held p s f l places stands) ∙ nonneg (booked p s l) (feasible.covered l below));
}

-- no line is short exactly where a set with these booked lines is feasible
pub covered_feasible : (p : Clearing) (t : List ℕ) (g : List Mark) → AreDecided p g → ((l : ℕ) → booked p t l ≡ held p g l) → IsCovered p g → IsFeasible p t
covered_feasible p t g all same covered = record {
  covered = (λ l below. subst (λ z. pos 0 ≤ℤ z) (sym (same l)) (nonneg_of (held p g l) (sym (short_decided p g l all) ∙ covered.covered l below)));
}

pub feasible_covered : (p : Clearing) (t : List ℕ) (g : List Mark) → AreDecided p g → ((l : ℕ) → booked p t l ≡ held p g l) → IsFeasible p t → IsCovered p g
feasible_covered p t g all same feasible = record {
  covered = (λ l below. short_decided p g l all ∙ ap is_negative (sym (same l)) ∙ nonneg (booked p t l) (feasible.covered l below));
}

-- one place more
one_more : (p : Clearing) (s : List ℕ) (f : List Mark) (j l : ℕ) → ArePlaces p s → AreMarksOf (length p.items) s f → length f ≡ length p.items → j < length p.items →
    mark f j ≡ Left → booked p (j ∷ s) l ≡ held p (set f j Chosen) l
one_more p s f j l places stands size within left =
    omega (arith, ints, stands_held p s f l places stands, held_chosen p f j l size within left)

pub adds : (p : Clearing) (s : List ℕ) (f : List Mark) (j : ℕ) → ArePlaces p s → AreMarksOf (length p.items) s f → length f ≡ length p.items → j < length p.items →
    mark f j ≡ Left → IsCovered p (set f j Chosen) → CanAddOne p s
adds p s f j places stands size within left covered = record {
  place = j;
  in_range = within;
  outside = stands_out p s f j stands left;
  feasible = covered_feasible p (j ∷ s) (set f j Chosen) (decided_set p f j Chosen size (chosen_or Chosen refl) (stands_decided p s f stands))
      (λ l. one_more p s f j l places stands size within left) covered;
}

pub added : (p : Clearing) (s : List ℕ) (f : List Mark) → ArePlaces p s → AreMarksOf (length p.items) s f → length f ≡ length p.items →
    (can : CanAddOne p s) → IsCovered p (set f can.place Chosen)
added p s f places stands size can =
    let left : mark f can.place ≡ Left = stands.left can.place can.in_range can.outside in
    feasible_covered p (can.place ∷ s) (set f can.place Chosen) (decided_set p f can.place Chosen size (chosen_or Chosen refl) (stands_decided p s f stands))
    (λ l. one_more p s f can.place l places stands size can.in_range left) can.feasible

-- a sum over a set without one of its places
without_none : (i : ℕ) (s : List ℕ) → All (λ x. x ≢ i) s → without i s ≡ s
without_none i [] off = refl
without_none i (x ∷ xs) off =
    let rest = without_none i xs (All-tail (λ (y : ℕ). y ≢ i) x xs off) in
    elim (eqb_tells x i) as (λ _. without i (x ∷ xs) ≡ x ∷ xs) [
      | inl same ↦ absurd (All-head (λ (y : ℕ). y ≢ i) x xs off same.1)
      | inr other ↦ ap (λ b. cond (not b) (x ∷ without i xs) (without i xs)) other.0 ∙ ap (λ ys. x ∷ ys) rest
    ]

pub without_sum : (g : ℕ → ℤ) (i : ℕ) (s : List ℕ) → AllPairs (λ a b. a < b) s → is_in i s ≡ true → sum_over g (without i s) ≡ sum_over g s -ℤ g i
without_sum g i [] rising there = absurd (cc there)
without_sum g i (x ∷ xs) rising there = elim (eqb_tells x i) as (λ _. sum_over g (without i (x ∷ xs)) ≡ sum_over g (x ∷ xs) -ℤ g i) [
  | inl same ↦
      let later : All (λ (y : ℕ). y ≢ i) xs = λ k d below q.
      (let above : x < get_or xs k d = rising 0 (suc k) d (omega arith) (omega (arith, below)) in
      let at : get_or xs k d ≡ i = q in
      absurd (omega (arith, above, at, same.1))) in
      let gone : without i (x ∷ xs) ≡ xs = ap (λ b. cond (not b) (x ∷ without i xs) (without i xs)) same.0 ∙ without_none i xs later in
      let sum : sum_over g (without i (x ∷ xs)) ≡ sum_over g xs = ap (sum_over g) gone in
      let here : g x ≡ g i = ap g same.1 in
      omega (arith, ints, sum, here)
  | inr other ↦
      let kept : without i (x ∷ xs) ≡ x ∷ without i xs = ap (λ b. cond (not b) (x ∷ without i xs) (without i xs)) other.0 in
      let rest = without_sum g i xs (λ a b d before below. rising (suc a) (suc b) d (omega (arith, before)) (omega (arith, below))) (sym (is_in_rest i x xs other.1) ∙ there) in
      let sum : sum_over g (without i (x ∷ xs)) ≡ g x +ℤ sum_over g (without i xs) = ap (sum_over g) kept in
      omega (arith, ints, sum, rest)
]

-- one place for another
exchanged : (p : Clearing) (s : List ℕ) (f : List Mark) (i j l : ℕ) → ArePlaces p s → AreMarksOf (length p.items) s f → length f ≡ length p.items →
    i < length p.items → j < length p.items → Contains s i → mark (set f i Left) j ≡ Left → length (set f i Left) ≡ length p.items →
    booked p (j ∷ without i s) l ≡ held p (set (set f i Left) j Chosen) l
exchanged p s f i j l places stands size within inside there left still =
    let sum = without_sum (λ k. effect p k l) i s places.rising (is_in_of s i there) in
    omega (
      arith,
      ints,
      sum,
      stands_held p s f l places stands,
      held_left p f i l size within (stands.chosen i there),
      held_chosen p (set f i Left) j l still inside left,
    )

exchange_decided : (p : Clearing) (s : List ℕ) (f : List Mark) (i j : ℕ) → AreMarksOf (length p.items) s f → length f ≡ length p.items → length (set f i Left) ≡ length p.items →
    AreDecided p (set (set f i Left) j Chosen)
exchange_decided p s f i j stands size still =
    decided_set p (set f i Left) j Chosen still (chosen_or Chosen refl) (decided_set p f i Left size (left_or Left refl) (stands_decided p s f stands))

pub swaps : (p : Clearing) (s members : List ℕ) (f : List Mark) (i : ℕ) → ArePlaces p s → AreMarksOf (length p.items) s f → length f ≡ length p.items →
    length (set f i Left) ≡ length p.items → i < length p.items → All (λ j. j < length p.items) members → Contains members i → mark f i ≡ Chosen →
    HasBetter p (set f i Left) members i → CanSwap p s members
swaps p s members f i places stands size still within inside member chosen better =
    let there : Contains s i = stands_in p s f i stands within chosen in
    let apart : better.place ≢ i = λ q. absurd (let same : worth p better.place ≡ worth p i = ap (worth p) q in omega (arith, better.greater, same)) in
    let was : mark f better.place ≡ Left = sym (mark_other f i better.place Left apart) ∙ better.left in
    let range : better.place < length p.items = subst (λ j. j < length p.items) better.member.2 (inside better.member.0 better.place better.member.1) in
    record {
      given = i;
      taken = better.place;
      given_member = member;
      given_in = there;
      taken_member = better.member;
      taken_out = stands_out p s f better.place stands was;
      greater = better.greater;
      feasible = covered_feasible p (better.place ∷ without i s) (set (set f i Left) better.place Chosen) (exchange_decided p s f i better.place stands size still)
          (λ l. exchanged p s f i better.place l places stands size within range there better.left still) better.covered;
    }

pub swapped : (p : Clearing) (s members : List ℕ) (f : List Mark) → ArePlaces p s → AreMarksOf (length p.items) s f → length f ≡ length p.items →
    All (λ j. j < length p.items) members → (can : CanSwap p s members) → length (set f can.given Left) ≡ length p.items →
    HasBetter p (set f can.given Left) members can.given
swapped p s members f places stands size inside can still =
    let within : can.given < length p.items = subst (λ j. j < length p.items) can.given_member.2 (inside can.given_member.0 can.given can.given_member.1) in
    let range : can.taken < length p.items = subst (λ j. j < length p.items) can.taken_member.2 (inside can.taken_member.0 can.taken can.taken_member.1) in
    let apart : can.taken ≢ can.given = λ q. absurd (let same : worth p can.taken ≡ worth p can.given = ap (worth p) q in omega (arith, can.greater, same)) in
    let left : mark (set f can.given Left) can.taken ≡ Left = mark_other f can.given can.taken Left apart ∙ stands.left can.taken range can.taken_out in
    record {
      place = can.taken;
      member = can.taken_member;
      left = left;
      greater = can.greater;
      covered = feasible_covered p (can.taken ∷ without can.given s) (set (set f can.given Left) can.taken Chosen) (exchange_decided p s f can.given can.taken stands size still)
          (λ l. exchanged p s f can.given can.taken l places stands size within range can.given_in left still) can.feasible;
    }

-- no member so far can be exchanged, nor the one at i
pub none_more : (p : Clearing) (f g : List Mark) (listed : List ℕ) (i : ℕ) → g ≡ f →
    ((k : ℕ) → k < i → mark f (get_or listed k 0) ≡ Chosen → ¬ (HasBetter p (set f (get_or listed k 0) Left) listed (get_or listed k 0))) →
    (mark f (get_or listed i 0) ≡ Chosen → ¬ (HasBetter p (set f (get_or listed i 0) Left) listed (get_or listed i 0))) →
    (k : ℕ) → k < i + 1 → mark g (get_or listed k 0) ≡ Chosen → ¬ (HasBetter p (set g (get_or listed k 0) Left) listed (get_or listed k 0))
none_more p f g listed i same before here k below chosen better =
    let was : mark f (get_or listed k 0) ≡ Chosen = ap (λ (h : List Mark). mark h (get_or listed k 0)) (sym same) ∙ chosen in
    let had : HasBetter p (set f (get_or listed k 0) Left) listed (get_or listed k 0) =
    subst (λ (h : List Mark). HasBetter p (set h (get_or listed k 0) Left) listed (get_or listed k 0)) same better in
    elim (cases_lt k i) as (λ _. ⊥) [
      | inl earlier ↦ before k earlier was had
      | inr at ↦
          let is : k ≡ i = omega (arith, below, at) in
          here (subst (λ m. mark f (get_or listed m 0) ≡ Chosen) is was) (subst (λ m. HasBetter p (set f (get_or listed m 0) Left) listed (get_or listed m 0)) is had)
    ]

pub none_at : (p : Clearing) (f : List Mark) (listed : List ℕ) (i : ℕ) →
    ((k : ℕ) → k < length listed → mark f (get_or listed k 0) ≡ Chosen → ¬ (HasBetter p (set f (get_or listed k 0) Left) listed (get_or listed k 0))) →
    Contains listed i → mark f i ≡ Chosen → ¬ (HasBetter p (set f i Left) listed i)
none_at p f listed i none there chosen better =
    let is : get_or listed there.0 0 ≡ i = get_or_default listed there.0 0 i there.1 ∙ there.2 in
    none there.0 there.1 (subst (λ j. mark f j ≡ Chosen) (sym is) chosen) (subst (λ j. HasBetter p (set f j Left) listed j) (sym is) better)

-- the member at k is one
pub listed_at : (listed : List ℕ) (k : ℕ) → k < length listed → Contains listed (get_or listed k 0)
listed_at listed k within = (k, within, get_or_default listed k (get_or listed k 0) 0 within)
