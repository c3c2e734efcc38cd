use Rattle.std.proofs.Common.{◌≡◌, ◌≢◌, inl, inr, ℕ, ◌<◌, pos, ◌+ℤ◌, ◌≤ℤ◌, true, not, List, [], ◌∷◌, length, set, refl, ap, sym, ◌∙◌, subst, arith}
use Rattle.std.specs.List.{Contains}
use Rattle.std.proofs.lemmas.Bool.{cases_lt}
use Rattle.std.proofs.lemmas.Int.{ints}
use Rattle.std.proofs.lemmas.List.{get_or_past, set-get_or}
use Rattle.std.proofs.lemmas.List.Elements.{All-filter, All-contains, All-contains_itself}
use Rattle.dali_problem.specs.declared.mark.Mark.{Mark}
use Rattle.dali_problem.specs.declared.mark.Mark.TheVariants.{Stranger, Undecided, Chosen, Left}
use Rattle.dali_problem.specs.Sums.{pick}
use Rattle.dali_problem.specs.Clearing.{Clearing, balance, effect}
use Rattle.dali_problem.specs.Feasible.{has as is_member, ArePlaces, IsFeasible}
use Rattle.dali_problem.specs.Limits.{IsProblem}
use Rattle.dali_problem.specs.Partial.{mark, is_chosen, is_undecided, held, Agrees}
use Rattle.dali_problem.specs.Rest.{IsRest}
use Rattle.dali_problem.proofs.RuleTests.{undecided_is}
use Rattle.dali_problem.proofs.SetLaws.{is_in, contains_of}
use Rattle.dali_problem.proofs.SumLaws.{sum_below_same}
use Rattle.dali_rest.specs.Addable.{CanAddRest}
use Rattle.dali_rest.specs.Room.{AreMarksOf, undecided_below}
use Rattle.dali_rest.specs.Sets.{outside}
use Rattle.dali_rest.specs.Turns.{AreChosen}
use Rattle.dali_rest.proofs.Marks.{within_chosen}
use Rattle.dali_rest.proofs.Resting.{below_range, below_has, has_below}
use Rattle.dali_rest.proofs.Rests.{rest_chosen, same_rest, no_rest}
use Rattle.dali_rest.proofs.Standing.{by_test, not_contains, stands_in, stands_held}
use Rattle.dali_greedy.specs.Grown.{IsOverdrawn}
use Rattle.dali_greedy.specs.Standing.{Standing, IsStandOf, Holds, GoesWith, HasMarked, IsWithRest, agrees_at, left_worth}
use Rattle.dali_greedy.proofs.Worths.{chosen_is, worth_more, worth_one}

-- a mark that is none of the others
pub left_of : (m : Mark) → m ≢ Stranger → m ≢ Undecided → m ≢ Chosen → m ≡ Left
left_of Stranger a b c = absurd (a refl)
left_of Undecided a b c = absurd (b refl)
left_of Chosen a b c = absurd (c refl)
left_of Left a b c = refl

pub stand_left : (p : Clearing) (k : Standing) (j : ℕ) → IsStandOf p k → j < length p.items → mark k.marks j ≢ Chosen → mark k.marks j ≡ Left
stand_left p k j stand within other = left_of (mark k.marks j) (stand.members j within) (stand.decided.decided j within) other

-- a mark that is put where it stands
pub set_same : (f : List Mark) (j : ℕ) (m : Mark) → mark f j ≡ m → f ≡ set f j m
set_same f j m is = sym (ap (λ n. set f j n) (sym is) ∙ set-get_or f j Stranger)

-- what agrees with a partial choice, place by place
pub goes_at : (f g : List Mark) (j : ℕ) → GoesWith f g → agrees_at (mark f j) (is_chosen (mark g j)) ≡ true
goes_at f g j goes = at (mark f j) refl
  where
    out : (mark g j ≢ Chosen) → not (is_chosen (mark g j)) ≡ true
    out other = by_test (is_chosen (mark g j)) {P = not (is_chosen (mark g j)) ≡ true} (λ told. absurd (other (chosen_is (mark g j) told))) (λ off. ap not off)

    at : (m : Mark) → mark f j ≡ m → agrees_at m (is_chosen (mark g j)) ≡ true
    at Chosen is = ap is_chosen (goes.chosen j is)
    at Undecided is = refl
    at Left is = out (λ chosen. goes.left j chosen is)
    at Stranger is = out (λ chosen. goes.members j chosen is)

pub at_goes : (n : ℕ) (f g : List Mark) → length f ≡ n → length g ≡ n → ((j : ℕ) → j < n → agrees_at (mark f j) (is_chosen (mark g j)) ≡ true) → GoesWith f g
at_goes n f g size_f size_g all = record {
  members = (λ j chosen stranger. let told = here j chosen in
      absurd (let wrong : agrees_at Stranger true ≡ true = ap (λ m. agrees_at m true) (sym stranger) ∙ told in cc wrong));
  chosen = (λ j is. chosen_is (mark g j) (ap (λ m. agrees_at m (is_chosen (mark g j))) (sym is) ∙ all j (omega (arith, within_chosen f j is, size_f))));
  left = (λ j chosen left. let told = here j chosen in
      absurd (let wrong : agrees_at Left true ≡ true = ap (λ m. agrees_at m true) (sym left) ∙ told in cc wrong));
}
  where
    here : (j : ℕ) → mark g j ≡ Chosen → agrees_at (mark f j) true ≡ true
    here j chosen = ap (agrees_at (mark f j)) (sym (ap is_chosen chosen)) ∙ all j (omega (arith, within_chosen g j chosen, size_g))

-- the same of a set and its marks
pub agrees_goes : (p : Clearing) (f g : List Mark) (s : List ℕ) → length g ≡ length p.items → AreMarksOf (length p.items) s g → Agrees f s → GoesWith f g
agrees_goes p f g s size stands agrees = record {
  members = (λ j chosen. agrees.members j (stands_in p s g j stands (omega (arith, within_chosen g j chosen, size)) chosen));
  chosen = (λ j chosen. stands.chosen j (agrees.chosen j chosen));
  left = (λ j chosen. agrees.left j (stands_in p s g j stands (omega (arith, within_chosen g j chosen, size)) chosen));
}

pub goes_agrees : (p : Clearing) (f g : List Mark) (s : List ℕ) → length g ≡ length p.items → AreMarksOf (length p.items) s g → GoesWith f g → Agrees f s
goes_agrees p f g s size stands goes = record {
  members = (λ j there. goes.members j (stands.chosen j there));
  chosen = (λ j chosen. let now = goes.chosen j chosen in stands_in p s g j stands (omega (arith, within_chosen g j now, size)) now);
  left = (λ j there. goes.left j (stands.chosen j there));
}

pub holds_feasible : (p : Clearing) (g : List Mark) (s : List ℕ) → ArePlaces p s → AreMarksOf (length p.items) s g → Holds p g → IsFeasible p s
holds_feasible p g s places stands holds = record {
  covered = (λ l below. subst (λ z. pos 0 ≤ℤ z) (stands_held p s g l places stands) (holds.covered l below));
}

pub feasible_holds : (p : Clearing) (g : List Mark) (s : List ℕ) → ArePlaces p s → AreMarksOf (length p.items) s g → IsFeasible p s → Holds p g
feasible_holds p g s places stands feasible = record {
  covered = (λ l below. subst (λ z. pos 0 ≤ℤ z) (sym (stands_held p s g l places stands)) (feasible.covered l below));
}

pub overdrawn_not : (p : Clearing) (g : List Mark) → IsOverdrawn p g → ¬ (Holds p g)
overdrawn_not p g over holds = absurd (omega (arith, ints, over.negative, holds.covered over.line over.within))

-- the chosen places alone
pub chosen_goes : (p : Clearing) (f g : List Mark) (s : List ℕ) → length f ≡ length p.items → length g ≡ length p.items → HasMarked p f Chosen s → AreMarksOf (length p.items) s g → GoesWith f g
chosen_goes p f g s size_f size has stands = record {
  members = (λ j chosen stranger. let is : mark f j ≡ Chosen = has.marked j (stands_in p s g j stands (omega (arith, within_chosen g j chosen, size)) chosen) in absurd (cc (is, stranger)));
  chosen = (λ j chosen. stands.chosen j (has.all j (omega (arith, within_chosen f j chosen, size_f)) chosen));
  left = (λ j chosen left. let is : mark f j ≡ Chosen = has.marked j (stands_in p s g j stands (omega (arith, within_chosen g j chosen, size)) chosen) in absurd (cc (is, left)));
}

chosen_held : (p : Clearing) (f g : List Mark) (s : List ℕ) (l : ℕ) → HasMarked p f Chosen s → AreMarksOf (length p.items) s g → held p g l ≡ held p f l
chosen_held p f g s l has stands =
    ap (λ z. balance p l +ℤ z) (sum_below_same (λ j. pick (is_chosen (mark g j)) (effect p j l)) (λ j. pick (is_chosen (mark f j)) (effect p j l)) (length p.items)
    (λ j below. ap (λ b. pick b (effect p j l)) (by_test (is_in j s) {P = is_chosen (mark g j) ≡ is_chosen (mark f j)}
    (λ told. ap is_chosen (stands.chosen j (contains_of s j told)) ∙ sym (ap is_chosen (has.marked j (contains_of s j told))))
    (λ out. by_test (is_chosen (mark f j)) {P = is_chosen (mark g j) ≡ is_chosen (mark f j)}
    (λ chosen. absurd (not_contains s j out (has.all j below (chosen_is (mark f j) chosen))))
    (λ other. ap is_chosen (stands.left j below (not_contains s j out)) ∙ sym other)))))

pub chosen_overdrawn : (p : Clearing) (f g : List Mark) (s : List ℕ) → HasMarked p f Chosen s → AreMarksOf (length p.items) s g → IsOverdrawn p g → IsOverdrawn p f
chosen_overdrawn p f g s has stands over = record {
  line = over.line;
  within = over.within;
  negative = omega (arith, ints, chosen_held p f g s over.line has stands, over.negative);
}

-- the rest of the members outside a set
rest_within : (members s : List ℕ) (j : ℕ) → Contains (outside members s) j → Contains members j
rest_within members s j there =
    All-contains (Contains members) (outside members s) j (All-filter (λ k. not (is_member s k)) (Contains members) members (All-contains_itself members)) there

some_in : (xs : List ℕ) → xs ≢ [] → (x : ℕ) × Contains xs x
some_in [] other = absurd (other refl)
some_in (x ∷ xs) other = (x, (0, omega arith, refl))

-- a stand for s, and room in which the rest of the members outside s was found
pub record FoundRest (p : Clearing) (s members : List ℕ) (f r : List Mark) : Type 0 where
  pub places : ArePlaces p s
  pub stands : AreMarksOf (length p.items) s f
  pub size_f : length f ≡ length p.items
  pub size_r : length r ≡ length p.items
  pub inside : (j : ℕ) → j < length p.items → mark r j ≢ Stranger
  pub set_told : (j : ℕ) → mark r j ≡ Chosen → Contains s j
  pub set_of : (j : ℕ) → Contains s j → mark r j ≡ Chosen
  pub rest : IsRest p s (outside members s) (undecided_below r (length p.items))
  pub can : CanAddRest p s members

rest_left : (p : Clearing) (s members : List ℕ) (f r : List Mark) (j : ℕ) → FoundRest p s members f r → j < length p.items → mark r j ≡ Undecided → mark f j ≡ Left
rest_left p s members f r j found within undec =
    found.stands.left j within (λ there. absurd (let chosen : mark r j ≡ Chosen = found.set_of j there in cc (chosen, undec)))

rest_others : (p : Clearing) (s members : List ℕ) (f r : List Mark) (j : ℕ) → FoundRest p s members f r → mark r j ≢ Undecided → mark f j ≡ mark r j
rest_others p s members f r j found other = elim (cases_lt j (length p.items)) as (λ _. mark f j ≡ mark r j) [
  | inl within ↦ by_test (is_in j s) {P = mark f j ≡ mark r j}
      (λ told. found.stands.chosen j (contains_of s j told) ∙ sym (found.set_of j (contains_of s j told)))
      (λ out. found.stands.left j within (not_contains s j out)
      ∙ sym (left_of (mark r j) (found.inside j within) other (λ chosen. not_contains s j out (found.set_told j chosen))))
  | inr past ↦ get_or_past f j Stranger (omega (arith, past, found.size_f)) ∙ sym (get_or_past r j Stranger (omega (arith, past, found.size_r)))
]

pub rest_holds : (p : Clearing) (s members : List ℕ) (f r g : List Mark) → FoundRest p s members f r → IsWithRest p r f g → Holds p g
rest_holds p s members f r g found with_rest =
    let all : AreChosen (length p.items) r g = record {
      chosen = with_rest.chosen;
      others = (λ j other. with_rest.others j other ∙ rest_others p s members f r j found other);
    } in
    record {
      covered = (λ l below.
          let whole = rest_chosen p s r g l found.places (λ j. (found.set_told j, found.set_of j)) all in
          let same = same_rest p s (outside members s) (undecided_below r (length p.items)) found.can.rest l found.places found.rest found.can.is_rest in
          let up = found.can.feasible.covered l below in
          omega (arith, ints, whole, same, up));
    }

undec_or : (m : Mark) (P : Type 0) → (m ≡ Undecided → P) → (m ≢ Undecided → P) → P
undec_or m P told other = by_test (is_undecided m) {P = P} (λ is. told (undecided_is m is)) (λ off. other (λ is. absurd (let yes_ : is_undecided m ≡ true = ap is_undecided is in cc (yes_, off))))

rest_more : (p : Clearing) (s members : List ℕ) (f r g : List Mark) → FoundRest p s members f r → IsWithRest p r f g → (j : ℕ) → j < length p.items → mark f j ≡ Chosen → mark g j ≡ Chosen
rest_more p s members f r g found with_rest j within chosen =
    undec_or (mark r j) (mark g j ≡ Chosen) (with_rest.chosen j within) (λ other. with_rest.others j other ∙ chosen)

pub rest_worth : (p : Clearing) (s members : List ℕ) (f r g : List Mark) → IsProblem p → FoundRest p s members f r → IsWithRest p r f g →
    left_worth p g (length p.items) < left_worth p f (length p.items)
rest_worth p s members f r g limits found with_rest =
    let n = length p.items in
    let one = some_in (undecided_below r n) (λ none. found.can.not_empty (no_rest p s (outside members s) (undecided_below r n) found.can.rest found.rest found.can.is_rest none)) in
    let x : ℕ = one.0 in
    let undec : mark r x ≡ Undecided = below_has r n x one.1 in
    let within : x < n = All-contains (λ (j : ℕ). j < n) (undecided_below r n) x (below_range r n) one.1 in
    worth_more p f g n x (rest_more p s members f r g found with_rest) within (with_rest.chosen x within undec)
    (rest_left p s members f r x found within undec) (worth_one p x limits within)

pub rest_goes : (p : Clearing) (s members : List ℕ) (h f r g : List Mark) → length g ≡ length p.items → FoundRest p s members f r → IsWithRest p r f g →
    HasMarked p h Undecided members → GoesWith h f → GoesWith h g
rest_goes p s members h f r g size_g found with_rest marked goes = record {
  members = (λ j chosen. cases j chosen (mark h j ≢ Stranger) (λ undec. (λ q. absurd (cc (undec, q)))) (λ was. goes.members j was));
  chosen = (λ j chosen. let was = goes.chosen j chosen in rest_more p s members f r g found with_rest j (omega (arith, within_chosen f j was, found.size_f)) was);
  left = (λ j chosen. cases j chosen (mark h j ≢ Left) (λ undec. (λ q. absurd (cc (undec, q)))) (λ was. goes.left j was));
}
  where
    cases : (j : ℕ) → mark g j ≡ Chosen → (P : Type 0) → (mark h j ≡ Undecided → P) → (mark f j ≡ Chosen → P) → P
    cases j chosen P fresh old = undec_or (mark r j) P
        (λ undec. fresh (marked.marked j (rest_within members s j (found.rest.within.part j (has_it j undec (omega (arith, within_chosen g j chosen, size_g)))))))
        (λ other. old (sym (with_rest.others j other) ∙ chosen))
      where
        has_it : (j : ℕ) → mark r j ≡ Undecided → j < length p.items → Contains (undecided_below r (length p.items)) j
        has_it j undec within = has_below r (length p.items) j within undec
