use Rattle.std.proofs.Common.{◌≡◌, inl, inr, ℕ, suc, ◌+◌, ◌<◌, ◌≤◌, ℤ, pos, ◌+ℤ◌, ◌≤ℤ◌, Bool, true, false, ◌&&◌, ◌||◌, not, List, [], ◌∷◌, length, get_or, if◌then◌else◌, refl, ap, sym, ◌∙◌, subst, arith}
use Rattle.std.specs.List.{All}
use Rattle.std.specs.Ordering.{int_eq}
use Rattle.std.proofs.lemmas.Bool.{cases_Bool, cases_order, false_from_ne_true}
use Rattle.std.proofs.lemmas.Bool.Decides.{Decides-int_eq}
use Rattle.std.proofs.lemmas.Int.{ints}
use Rattle.std.proofs.lemmas.List.Elements.{All-head, All-tail}
use Rattle.std.proofs.lemmas.List.Sums.{sum_by-cons}
use Rattle.dali_problem.specs.declared.mark.Mark.TheVariants.{Stranger, Undecided, Chosen, Left}
use Rattle.dali_problem.specs.Sums.{pick}
use Rattle.dali_problem.specs.Clearing.{Clearing, worth, effect}
use Rattle.dali_problem.specs.Limits.{IsProblem}
use Rattle.dali_problem.specs.Feasible.{ArePlaces, IsFeasible, value_of, has}
use Rattle.dali_problem.specs.Partial.{mark}
use Rattle.dali_problem.proofs.SumLaws.{sum_below_zero, sum_below_add, sum_below_same}
use Rattle.dali_problem.proofs.SetLaws.{is_in, value_in}
use Rattle.dali_problem.proofs.Lines.{balance_small}
use Rattle.dali_tree.specs.declared.choice.Part.{Part}
use Rattle.dali_tree.specs.declared.choice.Choice.{Choice}
use Rattle.dali_tree.specs.Fits.{AreRising}
use Rattle.dali_tree.specs.Range.{IsInRange}
use Rattle.dali_fixes.proofs.Sets.{total, worth_of, Covers, Goes, covers_of}
use Rattle.dali_check.specs.Sides.{opened}
use Rattle.dali_check.specs.Proves.{proves_part}
use Rattle.dali_check.specs.Parts.{some_has, ArePartition, changes, AreSeparate, bound_of}
use Rattle.dali_check.specs.Allowed.{IsWhole}
use Rattle.dali_check.proofs.Bounded.{opened_marks}
use Rattle.dali_check.proofs.Entering.{contains_has, opened_at, opened_length}
use Rattle.dali_check.proofs.Lining.{any_at, any_finds}
use Rattle.dali_check.proofs.Parting.{Apart}
use Rattle.dali_check.proofs.Trees.{tree_bounds}

false_true : false ≡ true → ⊥
false_true is = cc

-- a set cut to the places that pass a test
abbrev cut : (ℕ → Bool) → (ℕ → Bool) → ℕ → Bool
cut w keys j = w j && keys j

and_left_true : (a b : Bool) → (a && b) ≡ true → b ≡ true
and_left_true true b told = told
and_left_true false b told = absurd (false_true told)

-- a set of the members goes with them undecided
goes_within : (n : ℕ) (members : List ℕ) (w : ℕ → Bool) → AreRising n members → ((j : ℕ) → w j ≡ true → has members j ≡ true) →
    Goes (opened n members) w
goes_within n members w rising within = record {
  chosen = (λ j is. absurd (opened_marks (λ m. m ≡ Chosen → ⊥) n members j (λ e. cc) (λ e. cc) is));
  stranger = (λ j is. false_from_ne_true (w j) (λ told.
      let there = contains_has members j (within j told) in
      let inside : j < n = subst (λ (i : ℕ). i < n) there.2 (rising.in_range there.0 j there.1) in
      let undecided : mark (opened n members) j ≡ Undecided =
      opened_at n members j inside ∙ ap (λ b. if b then Undecided else Stranger) (within j told) in
      undecided_stranger (sym undecided ∙ is)));
  left = (λ j is. absurd (opened_marks (λ m. m ≡ Left → ⊥) n members j (λ e. cc) (λ e. cc) is));
}
  where
    undecided_stranger : Undecided ≡ Stranger → ⊥
    undecided_stranger is = cc

part_most : (p : Clearing) (part : Part) (w : ℕ → Bool) → IsProblem p → AreRising (length p.items) part.members → proves_part p part ≡ true →
    Covers p w → ((j : ℕ) → w j ≡ true → has part.members j ≡ true) → worth_of p w ≤ℤ pos part.bound
part_most p part w limits rising told covers within =
    ((tree_bounds p part.bound limits part.tree).bounds (opened (length p.items) part.members)
    (opened_length (length p.items) part.members) told).most w covers (goes_within (length p.items) part.members w rising within)

-- a line that a part doesn't change, none of its members changes
quiet_member : (p : Clearing) (part : Part) (j l : ℕ) → changes p part l ≡ false → has part.members j ≡ true → effect p j l ≡ pos 0
quiet_member p part j l quiet told = elim (cases_Bool (int_eq (effect p j l) (pos 0))) as (λ _. effect p j l ≡ pos 0) [
  | inl zero_there ↦ (Decides-int_eq (effect p j l) (pos 0)).0 zero_there
  | inr other ↦
      let there = contains_has part.members j told in
      let moves : not (int_eq (effect p (get_or part.members there.0 j) l) (pos 0)) ≡ true =
      ap (λ i. not (int_eq (effect p i l) (pos 0))) there.2 ∙ ap not other in
      absurd (false_true (sym quiet ∙ any_at (λ i. not (int_eq (effect p i l) (pos 0))) part.members there.0 j there.1 moves))
]

cut_pick : (a b : Bool) (e : ℤ) → (a ≡ true → b ≡ false → e ≡ pos 0) → pick (a && b) e ≡ pick a e
cut_pick true true e foreign = refl
cut_pick true false e foreign = sym (foreign refl refl)
cut_pick false b e foreign = refl

cut_none : (a b : Bool) (e : ℤ) → (b ≡ true → e ≡ pos 0) → pick (a && b) e ≡ pos 0
cut_none true true e quiet = quiet refl
cut_none true false e quiet = refl
cut_none false b e quiet = refl

-- what other places do on the lines of a part: nothing
pub record Foreign (p : Clearing) (w : ℕ → Bool) (part : Part) : Type 0 where
  pub foreign : (j l : ℕ) → j < length p.items → w j ≡ true → has part.members j ≡ false → changes p part l ≡ true → effect p j l ≡ pos 0

-- cut to a part, a set leaves no line negative
covers_cut : (p : Clearing) (w : ℕ → Bool) (part : Part) → IsProblem p → Covers p w → Foreign p w part → Covers p (cut w (has part.members))
covers_cut p w part limits covers alone = record {
  covered = (λ l. elim (cases_Bool (changes p part l)) as (λ _. pos 0 ≤ℤ total p (cut w (has part.members)) l) [
    | inl moved ↦
        let same = sum_below_same (λ j. pick (w j && has part.members j) (effect p j l)) (λ j. pick (w j) (effect p j l)) (length p.items)
        (λ j below. cut_pick (w j) (has part.members j) (effect p j l) (λ there out. alone.foreign j l below there out moved)) in
        let up = covers.covered l in
        omega (arith, ints, same, up)
    | inr quiet ↦
        let none = sum_below_same (λ j. pick (w j && has part.members j) (effect p j l)) (λ _. pos 0) (length p.items)
        (λ j below. cut_none (w j) (has part.members j) (effect p j l) (quiet_member p part j l quiet)) in
        let bal = balance_small p l limits in
        omega (arith, ints, none, sum_below_zero (length p.items), bal.0)
  ]);
}

pub split_pick : (a b c : Bool) (x : ℤ) → (b && c) ≡ false → pick (a && (b || c)) x ≡ pick (a && b) x +ℤ pick (a && c) x
split_pick true true true x apart = absurd (false_true (sym apart))
split_pick true true false x apart = omega (arith, ints)
split_pick true false true x apart = omega (arith, ints)
split_pick true false false x apart = omega (arith, ints)
split_pick false b c x apart = omega (arith, ints)

-- no place is in the first part and in a later one
pub apart_head : (q : Part) (parts : List Part) → Apart (λ (part : Part). has part.members) (q ∷ parts) → (j : ℕ) → (has q.members j && some_has parts j) ≡ false
apart_head q parts apart j = false_from_ne_true (has q.members j && some_has parts j) (λ told.
    let later : some_has parts j ≡ true = and_left_true (has q.members j) (some_has parts j) told in
    let found = any_finds (λ (part : Part). has part.members j) parts q later in
    let none : (has q.members j && has (get_or parts found.0 q).members j) ≡ false = apart 0 (suc found.0) q (omega arith) (omega (arith, found.1)) j in
    let first : has q.members j ≡ true = and_right_true (has q.members j) (some_has parts j) told in
    false_true (sym none ∙ ap (λ b. b && has (get_or parts found.0 q).members j) first ∙ found.2))
  where
    and_right_true : (a b : Bool) → (a && b) ≡ true → a ≡ true
    and_right_true true b told = refl
    and_right_true false b told = absurd (false_true told)

-- what parts that are apart have of a set is worth no more than their bounds together
parts_most : (p : Clearing) (w : ℕ → Bool) (parts : List Part) → IsProblem p → All (λ part. AreRising (length p.items) part.members) parts →
    All (λ part. proves_part p part ≡ true) parts → Apart (λ (part : Part). has part.members) parts → All (Foreign p w) parts → Covers p w →
    worth_of p (cut w (some_has parts)) ≤ℤ pos (bound_of parts)
parts_most p w [] limits rising proved apart alone covers =
    let none = sum_below_same (λ j. pick (w j && false) (pos (worth p j))) (λ _. pos 0) (length p.items)
    (λ j below. cut_none (w j) false (pos (worth p j)) (λ is. absurd (false_true is))) in
    omega (arith, ints, none, sum_below_zero (length p.items))
parts_most p w (q ∷ parts) limits rising proved apart alone covers =
    let first = part_most p q (cut w (has q.members)) limits
    (All-head (λ (part : Part). AreRising (length p.items) part.members) q parts rising)
    (All-head (λ (part : Part). proves_part p part ≡ true) q parts proved)
    (covers_cut p w q limits covers (All-head (Foreign p w) q parts alone))
    (λ j told. and_left_true (w j) (has q.members j) told) in
    let rest = parts_most p w parts limits (All-tail (λ (part : Part). AreRising (length p.items) part.members) q parts rising)
    (All-tail (λ (part : Part). proves_part p part ≡ true) q parts proved)
    (λ i k d before within. apart (suc i) (suc k) d (omega arith) (omega arith))
    (All-tail (Foreign p w) q parts alone) covers in
    let split = sum_below_same (λ j. pick (w j && (has q.members j || some_has parts j)) (pos (worth p j)))
    (λ j. pick (w j && has q.members j) (pos (worth p j)) +ℤ pick (w j && some_has parts j) (pos (worth p j))) (length p.items)
    (λ j below. split_pick (w j) (has q.members j) (some_has parts j) (pos (worth p j)) (apart_head q parts apart j)) in
    let joined = sum_below_add (λ j. pick (w j && has q.members j) (pos (worth p j))) (λ j. pick (w j && some_has parts j) (pos (worth p j))) (length p.items) in
    let bounds : bound_of (q ∷ parts) ≡ q.bound + bound_of parts = sum_by-cons (λ (part : Part). part.bound) q parts in
    omega (arith, ints, first, rest, split, joined, bounds)

-- in a partition that shares no line, other places do nothing on the lines of a part
foreign_of : (p : Clearing) (w : ℕ → Bool) (parts : List Part) → ArePartition (length p.items) parts → AreSeparate p parts → All (Foreign p w) parts
foreign_of p w parts partition separate k d within = record {
  foreign = (λ j l below there out moved.
      let found = any_finds (λ (part : Part). has part.members j) parts d (partition.covered j below) in
      elim (cases_order found.0 k) as (λ _. effect p j l ≡ pos 0) [
        | inl same ↦ absurd (false_true (sym out ∙ ap (λ i. has (get_or parts i d).members j) (sym same) ∙ found.2))
        | inr other ↦ elim other as (λ _. effect p j l ≡ pos 0) [
          | inl before ↦
              let none = separate.separate found.0 k d before within l in
              quiet_member p (get_or parts found.0 d) j l (first_false (changes p (get_or parts found.0 d) l) (changes p (get_or parts k d) l) moved none) found.2
          | inr after ↦
              let none = separate.separate k found.0 d after found.1 l in
              quiet_member p (get_or parts found.0 d) j l (sym (ap (λ b. b && changes p (get_or parts found.0 d) l) moved) ∙ none) found.2
        ]
      ]);
}
  where
    first_false : (a b : Bool) → b ≡ true → (a && b) ≡ false → a ≡ false
    first_false true b is none = absurd (false_true (sym none ∙ is))
    first_false false b is none = refl

-- no feasible set is worth more than the bounds of all parts together
pub whole_bounds : (p : Clearing) (choice : Choice) (t : List ℕ) → IsProblem p → IsInRange (length p.items) (length p.lines) choice → IsWhole p choice →
    All (λ part. proves_part p part ≡ true) choice.parts → ArePlaces p t → IsFeasible p t → value_of p t ≤ bound_of choice.parts
whole_bounds p choice t limits ranges whole proved places feasible =
    let w : ℕ → Bool = λ (j : ℕ). is_in j t in
    let most = parts_most p w choice.parts limits (λ k d within. (ranges.parts k d within).members) proved whole.partition.apart
    (foreign_of p w choice.parts whole.partition whole.separate) (covers_of p t limits places feasible) in
    let all = sum_below_same (λ j. pick (is_in j t && some_has choice.parts j) (pos (worth p j))) (λ j. pick (is_in j t) (pos (worth p j))) (length p.items)
    (λ j below. cut_pick (is_in j t) (some_has choice.parts j) (pos (worth p j)) (λ there out. absurd (false_true (sym out ∙ whole.partition.covered j below)))) in
    let value = value_in p t places in
    omega (arith, ints, most, all, value)
