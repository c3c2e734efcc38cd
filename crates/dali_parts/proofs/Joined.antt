use Rattle.std.proofs.Common.{◌≡◌, ◌≢◌, ◌⊎◌, inl, inr, ℕ, zero, suc, ◌+◌, ◌-◌, ◌*◌, ◌^◌, ◌<◌, ◌≤◌, ◌==◌, ℤ, pos, ◌+ℤ◌, ◌≤ℤ◌, Bool, true, false, ◌&&◌, ◌||◌, not, List, [], ◌∷◌, length, map, take, get_or, eqb, if◌then◌else◌, sum_by, refl, ap, sym, ◌∙◌, subst, arith}
use Rattle.std.specs.List.{All, Any, AllPairs, Contains, filter, list_any, range_with_len}
use Rattle.std.specs.Ordering.{int_eq}
use Rattle.std.proofs.lemmas.Bool.{cases_Bool, cases_eq, cases_lt, and_parts, false_from_ne_true}
use Rattle.std.proofs.lemmas.Bool.Decides.{eqb_tells, Decides-int_eq}
use Rattle.std.proofs.lemmas.Int.{ints}
use Rattle.std.proofs.lemmas.List.{length-map, get_or-map, get_or_default, ext_get_or}
use Rattle.std.proofs.Math.Nat.{pow-le-pow_right}
use Rattle.std.proofs.lemmas.List.Sums.{sum_by-cons, sum_by_more, sum_by-take-le}
use Rattle.dali_problem.specs.declared.mark.Mark.{Mark}
use Rattle.dali_problem.specs.Clearing.{Clearing, balance, worth, effect}
use Rattle.dali_problem.specs.Limits.{IsProblem}
use Rattle.dali_problem.specs.Sums.{sum_below, sum_over, pick}
use Rattle.dali_problem.specs.Rules.{all_below}
use Rattle.dali_problem.specs.Feasible.{ArePlaces, IsFeasible, booked, value_of, has}
use Rattle.dali_problem.proofs.SumLaws.{sum_below_same, sum_below_zero}
use Rattle.dali_problem.proofs.SetLaws.{is_in, is_in_of, contains_of, booked_in}
use Rattle.dali_tree.specs.declared.tree.End.TheVariants as ends
use Rattle.dali_tree.specs.declared.choice.Part.{Part}
use Rattle.dali_tree.specs.declared.choice.Choice.{Choice}
use Rattle.dali_tree.specs.Fits.{AreRising, PartFits, Fits, first_member}
use Rattle.dali_tree.specs.Range.{IsPartInRange}
use Rattle.dali_tree.specs.Tree.{branch_count}
use Rattle.dali_tree.proofs.Ranges.{part_ranges, choice_ranges}
use Rattle.dali_rest.specs.Addable.{CanAddOne, CanAddRest}
use Rattle.dali_rest.specs.Swappable.{CanSwap}
use Rattle.dali_check.specs.Allowed.{Allowed, IsCertified}
use Rattle.dali_check.specs.Lean.{lean_part}
use Rattle.dali_check.specs.Proves.{proves_part}
use Rattle.dali_check.specs.Sides.{opened}
use Rattle.dali_check.specs.Parts.{some_has, ArePartition, changes, AreSeparate, bound_of, branchings_of, value_in_part}
use Rattle.dali_check.proofs.Certified.{certified, allowed_of}
use Rattle.dali_check.proofs.Entering.{has_of, contains_has, opened_length}
use Rattle.dali_check.proofs.Lining.{any_at, any_finds}
use Rattle.dali_check.proofs.Reducing.{all_below_finds}
use Rattle.dali_check.proofs.Summing.{whole_bounds}
use Rattle.dali_reduce.specs.Reduced.{undecided_count}
use Rattle.dali_search.proofs.Members.{count_most}
use Rattle.dali_search.specs.Start.{all_places}
use Rattle.dali_search.specs.Whole.{IsWhole}
use Rattle.dali_search.proofs.Starting.{places_length, places_at}
use Rattle.dali_restrict.specs.Below.{places_below}
use Rattle.dali_restrict.specs.Restriction.{old_of, IsRestriction}
use Rattle.dali_restrict.specs.Widened.{wide_part}
use Rattle.dali_restrict.proofs.Spread.{false_true, IsRise, sum_by_place, all_below_at, found}
use Rattle.dali_restrict.proofs.Below.{below_range, below_rising, below_has, has_below}
use Rattle.dali_restrict.proofs.Renumber.{IsPart, part_of}
use Rattle.dali_restrict.proofs.Pieces.{IsPiece, piece_booked, any_is, piece_one, piece_swap, piece_rest}
use Rattle.dali_restrict.proofs.Fitting.{tree_widens, part_widens}
use Rattle.dali_restrict.proofs.Parted.{part_proves, part_lean}
use Rattle.dali_parts.specs.Finest.{Linked, IsClass, AreFinest}
use Rattle.dali_parts.specs.Joined.{IsSearched, AreSearched}
use Rattle.dali_parts.proofs.Links.{linked_share}
use Rattle.dali_parts.proofs.Spent.{FewBranches, members_of, tree_few, parts_fewer, members_most, part_value, parts_value, some_above}

no_part : Part
no_part = record { members = []; bound = 0; tree = record { fixes = []; end = ends.Short 0 } }

-- two classes of the finest parts have no place in common
pub finest_apart : (p : Clearing) (lists : List (List ℕ)) (i k j : ℕ) → AreFinest p lists → i < k → k < length lists →
    Contains (get_or lists i []) j → Contains (get_or lists k []) j → ⊥
finest_apart p lists i k j finest less within one two =
    let a : IsClass p (get_or lists i []) = finest.each i [] (omega (arith, less, within)) in
    let b : IsClass p (get_or lists k []) = finest.each k [] within in
    let first : ℕ = get_or (get_or lists i []) 0 0 in
    let there : Contains (get_or lists i []) first = (0, a.some, get_or_default (get_or lists i []) 0 first 0 a.some) in
    let moved : Contains (get_or lists k []) first = b.whole j first two (a.linked j first one there) in
    let at : get_or (get_or lists k []) moved.0 0 ≡ first = get_or_default (get_or lists k []) moved.0 0 first moved.1 ∙ moved.2 in
    let order : first < get_or (get_or lists k []) 0 0 = finest.order i k [] less within in
    elim (cases_eq moved.0 0) as (λ _. ⊥) [
      | inl here ↦
          let same : get_or (get_or lists k []) moved.0 0 ≡ get_or (get_or lists k []) 0 0 = ap (λ m. get_or (get_or lists k []) m 0) here in
          absurd (omega (arith, order, at, same))
      | inr later ↦
          let up = b.places.rising 0 moved.0 0 (omega (arith, later)) moved.1 in
          absurd (omega (arith, up, at, order))
    ]

pub not_zero : (n : ℕ) → 0 < n → eqb n 0 ≡ false
not_zero n some = elim (eqb_tells n 0) as (λ _. eqb n 0 ≡ false) [
  | inl same ↦ absurd (omega (arith, some, same.1))
  | inr other ↦ other.0
]

-- the one part of a whole choice
pub whole_one : (n : ℕ) (choice : Choice) (one : Part) → 0 < n → IsWhole n choice → choice.parts ≡ one ∷ [] → one.members ≡ all_places n
whole_one n choice one some whole is =
    ap (λ (xs : List (List ℕ)). get_or xs 0 []) (ap (map (λ (part : Part). part.members)) (sym is) ∙ whole ∙ ap (λ b. if b then [] else all_places n ∷ []) (not_zero n some))

map_all : (xs : List ℕ) → map (old_of xs) (all_places (length xs)) ≡ xs
map_all xs = ext_get_or 0 (map (old_of xs) (all_places (length xs))) xs
    (length-map (all_places (length xs)) (old_of xs) ∙ places_length (length xs))
    (λ k below.
    let inside : k < length xs = omega (arith, below, length-map (all_places (length xs)) (old_of xs), places_length (length xs)) in
    get_or-map (old_of xs) (all_places (length xs)) k 0 0 (omega (arith, inside, places_length (length xs))) ∙ ap (old_of xs) (places_at (length xs) k 0 inside))

-- the sets and the parts of the whole
module _ (p : Clearing) (budget : ℕ) (lists : List (List ℕ)) (parts : List Part) (marks : List Bool) (limits : IsProblem p) (finest : AreFinest p lists)
    (searched : AreSearched p budget lists marks parts) where
  abbrev pub joined_set : List ℕ
  joined_set = places_below (λ j. get_or marks j false) (length p.items)

  pub set_rise : IsRise (length p.items) joined_set
  set_rise = record { rising = below_rising (λ j. get_or marks j false) (length p.items); in_range = below_range (λ j. get_or marks j false) (length p.items) }

  set_has : (j : ℕ) (b : Bool) → j < length p.items → get_or marks j false ≡ b → is_in j joined_set ≡ b
  set_has j true within is = is_in_of joined_set j (has_below (λ k. get_or marks k false) (length p.items) j within is)
  set_has j false within is = false_from_ne_true (is_in j joined_set) (λ told.
      false_true (sym is ∙ below_has (λ k. get_or marks k false) (length p.items) j (contains_of joined_set j told)))

  class : (k : ℕ) → k < length lists → IsClass p (get_or lists k [])
  class k below = finest.each k [] below

  member_below : (k j : ℕ) → k < length lists → Contains (get_or lists k []) j → j < length p.items
  member_below k j below there = subst (λ (i : ℕ). i < length p.items) there.2 ((class k below).places.in_range there.0 j there.1)

  -- what was searched for list k
  pub at : (k : ℕ) (d : Part) → k < length lists → IsSearched p (budget - branchings_of (take k parts)) (get_or lists k []) marks (get_or parts k d)
  at k d below = searched.each k d below

  part_at : (k : ℕ) (d : Part) (below : k < length lists) → IsPart p (at k d below).inner (get_or lists k []) (at k d below).numbers
  part_at k d below = part_of p (at k d below).inner (get_or lists k []) (at k d below).numbers limits (at k d below).restriction

  certified_at : (k : ℕ) (d : Part) (below : k < length lists) → IsCertified (at k d below).inner (budget - branchings_of (take k parts)) (at k d below).choice
  certified_at k d below = certified (at k d below).inner (budget - branchings_of (take k parts)) (at k d below).choice (at k d below).allowed

  some_at : (k : ℕ) (d : Part) (below : k < length lists) → 0 < length (at k d below).inner.items
  some_at k d below = omega (arith, (class k below).some, (part_at k d below).items_size)

  one_members : (k : ℕ) (d : Part) (below : k < length lists) → (at k d below).one.members ≡ all_places (length (get_or lists k []))
  one_members k d below =
      whole_one (length (at k d below).inner.items) (at k d below).choice (at k d below).one (some_at k d below) (at k d below).whole (at k d below).parts
      ∙ ap all_places (part_at k d below).items_size

  pub members_at : (k : ℕ) (d : Part) → k < length lists → (get_or parts k d).members ≡ get_or lists k []
  members_at k d below =
      ap (λ (part : Part). part.members) (at k d below).wide ∙ ap (map (old_of (get_or lists k []))) (one_members k d below) ∙ map_all (get_or lists k [])

  -- a place that changes a line of a class is in it
  pub piece_at : (k : ℕ) (d : Part) (below : k < length lists) → IsPiece p (at k d below).inner (get_or lists k []) (at k d below).numbers joined_set (at k d below).choice.places
  piece_at k d below = record {
    part = part_at k d below;
    own = (λ j l within out there. elim (cases_Bool (int_eq (effect p j l) (pos 0))) as (λ _. effect p j l ≡ pos 0) [
      | inl none ↦ (Decides-int_eq (effect p j l) (pos 0)).0 none
      | inr some ↦
          let by = ((at k d below).restriction.changed.changed l).0 (contains_of (at k d below).numbers l there) in
          let member : Contains (get_or lists k []) by.1 = (by.0, by.2, by.3) in
          let linked : Linked p by.1 j = linked_share p by.1 j (record {
            line = l;
            first = by.4;
            second = (λ same. false_true (sym some ∙ (Decides-int_eq (effect p j l) (pos 0)).1 same));
          }) in
          absurd (false_true (sym out ∙ is_in_of (get_or lists k []) j ((class k below).whole by.1 j member linked)))
    ]);
    outer = set_rise;
    inner = record {
      rising = (at k d below).fits.set.rising;
      in_range = (λ a e under. omega (arith, (at k d below).fits.set.in_range a e under, (part_at k d below).items_size));
    };
    match = record {
      same = (λ i within.
          let inside : old_of (get_or lists k []) i < length p.items = (class k below).places.in_range i 0 within in
          elim (cases_Bool (is_in i (at k d below).choice.places)) as (λ _. is_in (old_of (get_or lists k []) i) joined_set ≡ is_in i (at k d below).choice.places) [
            | inl told ↦ set_has (old_of (get_or lists k []) i) true inside ((at k d below).marked i within (contains_of (at k d below).choice.places i told)) ∙ sym told
            | inr off ↦ set_has (old_of (get_or lists k []) i) false inside ((at k d below).unmarked i within (λ there. absurd (false_true (sym off ∙ is_in_of (at k d below).choice.places i there)))) ∙ sym off
          ]);
    };
  }

  -- each place is in one class
  home : (j : ℕ) → j < length p.items → (k : ℕ) × (k < length lists) × Contains (get_or lists k []) j
  home j within =
      let any = finest.covered j within in
      (any.0, any.2, subst (λ (xs : List ℕ). Contains xs j) (sym (get_or_default lists any.0 [] any.1 any.2 ∙ any.3)) any.4)

  part_below : (k : ℕ) → k < length parts → k < length lists
  part_below k below = omega (arith, below, searched.size)

  pub joined_partition : ArePartition (length p.items) parts
  joined_partition = record {
    some = (λ k d below. subst (λ (xs : List ℕ). 0 < length xs) (sym (members_at k d (part_below k below))) (class k (part_below k below)).some);
    covered = (λ j below.
        let place = home j below in
        let d : Part = no_part in
        any_at (λ (part : Part). has part.members j) parts place.0 d (omega (arith, place.1, searched.size))
        (ap (λ xs. has xs j) (members_at place.0 d place.1) ∙ has_of (get_or lists place.0 []) j place.2));
    apart = (λ i k d less below j. false_from_ne_true (has (get_or parts i d).members j && has (get_or parts k d).members j) (λ told.
        let both = and_parts (has (get_or parts i d).members j) (has (get_or parts k d).members j) told in
        let high : k < length lists = part_below k below in
        let low : i < length lists = omega (arith, less, high) in
        finest_apart p lists i k j finest less high
        (contains_has (get_or lists i []) j (ap (λ xs. has xs j) (sym (members_at i d low)) ∙ both.0))
        (contains_has (get_or lists k []) j (ap (λ xs. has xs j) (sym (members_at k d high)) ∙ both.1))));
  }

  changed_by : (k : ℕ) (d : Part) (l : ℕ) → k < length lists → changes p (get_or parts k d) l ≡ true → (j : ℕ) × Contains (get_or lists k []) j × (effect p j l ≢ pos 0)
  changed_by k d l below told =
      let by = any_finds (λ j. not (int_eq (effect p j l) (pos 0))) (get_or lists k []) 0 (ap (λ xs. list_any (λ j. not (int_eq (effect p j l) (pos 0))) xs) (sym (members_at k d below)) ∙ told) in (
        get_or (get_or lists k []) by.0 0,
        (by.0, by.1, get_or_default (get_or lists k []) by.0 (get_or (get_or lists k []) by.0 0) 0 by.1),
        λ same. false_true (sym (ap not ((Decides-int_eq (effect p (get_or (get_or lists k []) by.0 0) l) (pos 0)).1 same)) ∙ by.2),
      )

  pub joined_separate : AreSeparate p parts
  joined_separate = record {
    separate = (λ i k d less below l. false_from_ne_true (changes p (get_or parts i d) l && changes p (get_or parts k d) l) (λ told.
        let both = and_parts (changes p (get_or parts i d) l) (changes p (get_or parts k d) l) told in
        let high : k < length lists = part_below k below in
        let low : i < length lists = omega (arith, less, high) in
        let one = changed_by i d l low both.0 in
        let two = changed_by k d l high both.1 in
        finest_apart p lists i k two.0 finest less high
        ((class i low).whole one.0 two.0 one.1 (linked_share p one.0 two.0 (record { line = l; first = one.2; second = two.2 }))) two.1));
  }

  -- on a line that nothing changes the set leaves the balance; on one that a class changes it is what that class's set is
  pub joined_feasible : IsFeasible p joined_set
  joined_feasible = record {
    covered = (λ l under. elim (cases_Bool (all_below (λ j. int_eq (effect p j l) (pos 0)) (length p.items))) as (λ _. pos 0 ≤ℤ booked p joined_set l) [
      | inl quiet ↦
          let sum = booked_in p joined_set l (record { rising = set_rise.rising; in_range = set_rise.in_range }) in
          let none = sum_below_same (λ j. pick (is_in j joined_set) (effect p j l)) (λ _. pos 0) (length p.items)
          (λ j below. pick_none (is_in j joined_set) (effect p j l)
          ((Decides-int_eq (effect p j l) (pos 0)).0 (all_below_at (λ i. int_eq (effect p i l) (pos 0)) (length p.items) j quiet below))) in
          omega (arith, ints, sum, none, sum_below_zero (length p.items))
      | inr some ↦
          let by = all_below_finds (λ j. int_eq (effect p j l) (pos 0)) (length p.items) some in
          let place = home by.0 by.1 in
          let k : ℕ = place.0 in
          let moved : effect p by.0 l ≢ pos 0 = λ same. false_true (sym by.2 ∙ (Decides-int_eq (effect p by.0 l) (pos 0)).1 same) in
          let found_at = at k no_part place.1 in
          let there = (found_at.restriction.changed.changed l).1 (place.2.0, by.0, place.2.1, place.2.2, moved) in
          let line = found found_at.numbers l (is_in_of found_at.numbers l there) in
          let same = piece_booked p found_at.inner (get_or lists k []) found_at.numbers joined_set found_at.choice.places line.0 (piece_at k no_part place.1) line.1 in
          let equal : booked p joined_set l ≡ booked found_at.inner found_at.choice.places line.0 = ap (booked p joined_set) (sym line.2) ∙ same in
          let up = (certified_at k no_part place.1).whole.feasible.covered line.0 (omega (arith, line.1, (part_at k no_part place.1).lines_size)) in
          omega (arith, ints, equal, up)
    ]);
  }
    where
      pick_none : (b : Bool) (z : ℤ) → z ≡ pos 0 → pick b z ≡ pos 0
      pick_none true z is = is
      pick_none false z is = refl

  pub joined_none_more : ¬ (CanAddOne p joined_set)
  joined_none_more add =
      let place = home add.place add.in_range in
      let k : ℕ = place.0 in
      let index = found (get_or lists k []) add.place (is_in_of (get_or lists k []) add.place place.2) in
      let out : is_in add.place joined_set ≡ false = false_from_ne_true (is_in add.place joined_set) (λ told. add.outside (contains_of joined_set add.place told)) in
      (certified_at k no_part place.1).none_more
      (piece_one p (at k no_part place.1).inner (get_or lists k []) (at k no_part place.1).numbers joined_set (at k no_part place.1).choice.places index.0
      (piece_at k no_part place.1) index.1 (ap (λ j. is_in j joined_set) index.2 ∙ out)
      (subst (λ (j : ℕ). IsFeasible p (j ∷ joined_set)) (sym index.2) add.feasible))

  inner_all : (k : ℕ) (d : Part) (below : k < length lists) (i : ℕ) → i < length (get_or lists k []) → Contains (at k d below).one.members i
  inner_all k d below i within = subst (λ (xs : List ℕ). Contains xs i) (sym (one_members k d below))
      (i, omega (arith, within, places_length (length (get_or lists k []))), places_at (length (get_or lists k [])) i i within)

  inner_only : (k : ℕ) (d : Part) (below : k < length lists) (i : ℕ) → Contains (at k d below).one.members i → i < length (get_or lists k [])
  inner_only k d below i there =
      let moved : Contains (all_places (length (get_or lists k []))) i = subst (λ (xs : List ℕ). Contains xs i) (one_members k d below) there in
      let within : moved.0 < length (get_or lists k []) = omega (arith, moved.1, places_length (length (get_or lists k []))) in
      omega (arith, within, sym (places_at (length (get_or lists k [])) moved.0 i within) ∙ moved.2)

  -- what is said of the one part of each choice
  one_part : (P : Part → Type 0) (k : ℕ) (d : Part) (below : k < length lists) → All P (at k d below).choice.parts → P (at k d below).one
  one_part P k d below all = (subst (λ (ps : List Part). All P ps) (at k d below).parts all) 0 (at k d below).one (omega arith)

  pub joined_no_rest : All (λ (part : Part). ¬ (CanAddRest p joined_set part.members)) parts
  joined_no_rest k d within add =
      let below = part_below k within in
      one_part (λ (part : Part). ¬ (CanAddRest (at k d below).inner (at k d below).choice.places part.members)) k d below (certified_at k d below).no_rest
      (piece_rest p (at k d below).inner (get_or lists k []) (at k d below).numbers joined_set (at k d below).choice.places (at k d below).one.members
      (piece_at k d below) (inner_all k d below) (inner_only k d below)
      (subst (λ (xs : List ℕ). CanAddRest p joined_set xs) (members_at k d below) add))

  pub joined_no_better : All (λ (part : Part). ¬ (CanSwap p joined_set part.members)) parts
  joined_no_better k d within swap =
      let below = part_below k within in
      one_part (λ (part : Part). ¬ (CanSwap (at k d below).inner (at k d below).choice.places part.members)) k d below (certified_at k d below).no_better
      (piece_swap p (at k d below).inner (get_or lists k []) (at k d below).numbers joined_set (at k d below).choice.places (at k d below).one.members
      (piece_at k d below) (inner_all k d below)
      (subst (λ (xs : List ℕ). CanSwap p joined_set xs) (members_at k d below) swap))

  wide_fits : (k : ℕ) (d : Part) (below : k < length lists) → PartFits (length p.items) (length p.lines) (get_or parts k d)
  wide_fits k d below = subst (λ (part : Part). PartFits (length p.items) (length p.lines) part) (sym (at k d below).wide)
      (part_widens (length p.items) (length p.lines) (get_or lists k []) (at k d below).numbers (at k d below).one (part_at k d below).members (part_at k d below).changed
      (inner_fits (length (at k d below).inner.items) (length (at k d below).inner.lines) (part_at k d below).items_size (part_at k d below).lines_size
      (one_part (PartFits (length (at k d below).inner.items) (length (at k d below).inner.lines)) k d below (at k d below).fits.parts)))
    where
      inner_fits : (a b : ℕ) → a ≡ length (get_or lists k []) → b ≡ length (at k d below).numbers → PartFits a b (at k d below).one →
          PartFits (length (get_or lists k [])) (length (at k d below).numbers) (at k d below).one
      inner_fits a b one two fits = subst (λ (y : ℕ). PartFits (length (get_or lists k [])) y (at k d below).one) two (subst (λ (x : ℕ). PartFits x b (at k d below).one) one fits)

  one_range : (k : ℕ) (d : Part) (below : k < length lists) → IsPartInRange (length (at k d below).inner.items) (length (at k d below).inner.lines) (at k d below).one
  one_range k d below = part_ranges (length (at k d below).inner.items) (length (at k d below).inner.lines) (at k d below).one
      (one_part (PartFits (length (at k d below).inner.items) (length (at k d below).inner.lines)) k d below (at k d below).fits.parts)

  one_proved : (k : ℕ) (d : Part) (below : k < length lists) → proves_part (at k d below).inner (at k d below).one ≡ true
  one_proved k d below = one_part (λ (part : Part). proves_part (at k d below).inner part ≡ true) k d below (certified_at k d below).proved

  pub joined_proved : All (λ (part : Part). proves_part p part ≡ true) parts
  joined_proved k d within =
      let below = part_below k within in
      ap (proves_part p) (at k d below).wide
      ∙ part_proves p (at k d below).inner (get_or lists k []) (at k d below).numbers (at k d below).one (part_at k d below) (one_range k d below)
      ∙ one_proved k d below

  -- what the set is worth in a part, and in the restriction
  value_at : (k : ℕ) (d : Part) (below : k < length lists) → value_in_part p joined_set (get_or parts k d) ≡ value_in_part (at k d below).inner (at k d below).choice.places (at k d below).one
  value_at k d below =
      let ms : List ℕ = get_or lists k [] in
      let q : Clearing = (at k d below).inner in
      let y : List ℕ = (at k d below).choice.places in
      let outer = part_value p joined_set (get_or parts k d) in
      let inner = part_value q y (at k d below).one in
      let outer_at : sum_over (λ j. pick (has joined_set j) (pos (worth p j))) (get_or parts k d).members ≡ sum_below (λ i. pick (has joined_set (old_of ms i)) (pos (worth p (old_of ms i)))) (length ms) =
      ap (sum_over (λ j. pick (has joined_set j) (pos (worth p j)))) (members_at k d below) ∙ sum_by_place (λ j. pick (has joined_set j) (pos (worth p j))) ms in
      let inner_at : sum_over (λ i. pick (has y i) (pos (worth q i))) (at k d below).one.members ≡ sum_below (λ i. pick (has y (old_of (all_places (length ms)) i)) (pos (worth q (old_of (all_places (length ms)) i)))) (length (all_places (length ms))) =
      ap (sum_over (λ i. pick (has y i) (pos (worth q i)))) (one_members k d below) ∙ sum_by_place (λ i. pick (has y i) (pos (worth q i))) (all_places (length ms)) in
      let size : length (all_places (length ms)) ≡ length ms = places_length (length ms) in
      let sized : sum_below (λ i. pick (has y (old_of (all_places (length ms)) i)) (pos (worth q (old_of (all_places (length ms)) i)))) (length (all_places (length ms)))
      ≡ sum_below (λ i. pick (has y (old_of (all_places (length ms)) i)) (pos (worth q (old_of (all_places (length ms)) i)))) (length ms) =
      ap (sum_below (λ i. pick (has y (old_of (all_places (length ms)) i)) (pos (worth q (old_of (all_places (length ms)) i))))) size in
      let same = sum_below_same (λ i. pick (has joined_set (old_of ms i)) (pos (worth p (old_of ms i))))
      (λ i. pick (has y (old_of (all_places (length ms)) i)) (pos (worth q (old_of (all_places (length ms)) i)))) (length ms)
      (λ i within.
      ap (λ b. pick b (pos (worth p (old_of ms i)))) (any_is joined_set (old_of ms i) ∙ (piece_at k d below).match.same i within ∙ sym (any_is y i))
      ∙ ap (λ (v : ℕ). pick (has y i) (pos v)) (sym ((part_at k d below).same_worth i within))
      ∙ ap (λ m. pick (has y m) (pos (worth q m))) (sym (places_at (length ms) i 0 within))) in
      omega (arith, ints, outer, inner, outer_at, inner_at, sized, same)

  pub joined_lean : All (λ (part : Part). lean_part p part (value_in_part p joined_set part) ≡ true) parts
  joined_lean k d within =
      let below = part_below k within in
      ap (λ v. lean_part p (get_or parts k d) v) (value_at k d below)
      ∙ ap (λ (part : Part). lean_part p part (value_in_part (at k d below).inner (at k d below).choice.places (at k d below).one)) (at k d below).wide
      ∙ part_lean p (at k d below).inner (get_or lists k []) (at k d below).numbers (at k d below).one (part_at k d below) (one_range k d below)
      (value_in_part (at k d below).inner (at k d below).choice.places (at k d below).one)
      ∙ one_part (λ (part : Part). lean_part (at k d below).inner part (value_in_part (at k d below).inner (at k d below).choice.places part) ≡ true) k d below (certified_at k d below).lean

  -- branches
  branches_at : (k : ℕ) (d : Part) (below : k < length lists) → branch_count (get_or parts k d).tree ≡ branch_count (at k d below).one.tree
  branches_at k d below = ap (λ (part : Part). branch_count part.tree) (at k d below).wide
      ∙ (tree_widens (length p.items) (length p.lines) (get_or lists k []) (at k d below).numbers (part_at k d below).members (part_at k d below).changed (at k d below).one.tree).count

  pub joined_few : All FewBranches parts
  joined_few k d within =
      let below = part_below k within in
      let q : Clearing = (at k d below).inner in
      let start : List Mark = opened (length q.items) (at k d below).one.members in
      let few = (tree_few q (at k d below).one.bound (at k d below).one.tree).few start (one_proved k d below) in
      let most : undecided_count start ≤ length (get_or parts k d).members =
      omega (arith, count_most start, opened_length (length q.items) (at k d below).one.members, (part_at k d below).items_size, ap length (members_at k d below)) in
      let power : 2 ^ undecided_count start ≤ 2 ^ length (get_or parts k d).members = pow-le-pow_right {n = 2} (omega arith) {i = undecided_count start} {j = length (get_or parts k d).members} most in
      omega (arith, few, power, branches_at k d below)

  pub members_rise : All (λ (part : Part). AreRising (length p.items) part.members) parts
  members_rise k d within = (wide_fits k d (part_below k within)).members

  one_alone : (k : ℕ) (d : Part) (below : k < length lists) → value_of (at k d below).inner (at k d below).choice.places ≡ value_in_part (at k d below).inner (at k d below).choice.places (at k d below).one
  one_alone k d below =
      let q : Clearing = (at k d below).inner in
      let c : Choice = (at k d below).choice in
      parts_value q c.places c.parts (record { rising = (at k d below).fits.set.rising; in_range = (at k d below).fits.set.in_range }) (certified_at k d below).whole.partition
      (λ i e inside. ((at k d below).fits.parts i e inside).members)
      ∙ ap (sum_by (value_in_part q c.places)) (at k d below).parts ∙ sum_by-cons (value_in_part q c.places) (at k d below).one [] ∙ omega arith

  pub joined_spent : value_of p joined_set < bound_of parts → (branchings_of parts ≡ budget) × (budget + 1 < 2 ^ length p.items)
  joined_spent above =
      let value = parts_value p joined_set parts (record { rising = set_rise.rising; in_range = set_rise.in_range }) joined_partition members_rise in
      let some = some_above (value_in_part p joined_set) (λ (part : Part). part.bound) parts (omega (arith, above, value)) in
      let k : ℕ = some.0 in
      let d : Part = no_part in
      let below : k < length lists = part_below k some.1 in
      let q : Clearing = (at k d below).inner in
      let c : Choice = (at k d below).choice in
      let bound : (get_or parts k d).bound ≡ (at k d below).one.bound = ap (λ (part : Part). part.bound) (at k d below).wide in
      let bounds : bound_of c.parts ≡ (at k d below).one.bound =
      ap (λ (ps : List Part). bound_of ps) (at k d below).parts ∙ sum_by-cons (λ (part : Part). part.bound) (at k d below).one [] ∙ omega arith in
      let branches : branchings_of c.parts ≡ branch_count (at k d below).one.tree =
      ap (λ (ps : List Part). branchings_of ps) (at k d below).parts ∙ sum_by-cons (λ (part : Part). branch_count part.tree) (at k d below).one [] ∙ omega arith in
      let over : value_of q c.places < bound_of c.parts = omega (arith, some.2 d, value_at k d below, one_alone k d below, bound, bounds) in
      let all = (certified_at k d below).spent over in
      let front = sum_by_more (λ (part : Part). branch_count part.tree) parts k d some.1 in
      let most = sum_by-take-le (λ (part : Part). branch_count part.tree) parts (k + 1) in
      let spent : branchings_of parts ≡ budget = omega (arith, all.0, branches, branches_at k d below, front, most, searched.within) in
      let size : length q.items ≡ length (get_or parts k d).members = (part_at k d below).items_size ∙ sym (ap length (members_at k d below)) in
      let less : branch_count (get_or parts k d).tree + 1 < 2 ^ length (get_or parts k d).members =
      subst (λ (m : ℕ). branch_count (get_or parts k d).tree + 1 < 2 ^ m) size (omega (arith, all.0, all.1, branches, branches_at k d below)) in
      let fewer = parts_fewer parts k d joined_few some.1 less in
      let count = members_most (length p.items) parts members_rise joined_partition.apart in
      let power : 2 ^ members_of parts ≤ 2 ^ length p.items = pow-le-pow_right {n = 2} (omega arith) {i = members_of parts} {j = length p.items} count in
      (spent, omega (arith, spent, fewer, power))

  abbrev pub joined_choice : Choice
  joined_choice = record { places = joined_set; parts = parts }

  joined_certified : IsCertified p budget joined_choice
  joined_certified = record {
    whole = record { partition = joined_partition; separate = joined_separate; feasible = joined_feasible };
    none_more = joined_none_more;
    no_rest = joined_no_rest;
    no_better = joined_no_better;
    proved = joined_proved;
    lean = joined_lean;
    within = searched.within;
    spent = joined_spent;
  }

  pub joined_allowed : Allowed p budget joined_choice
  joined_allowed = allowed_of p budget joined_choice joined_certified

  pub joined_fits : Fits (length p.items) (length p.lines) joined_choice
  joined_fits = record {
    set = record { rising = set_rise.rising; in_range = set_rise.in_range };
    parts = (λ k d within. wide_fits k d (part_below k within));
    order = (λ i k d before within.
        let high : k < length lists = part_below k within in
        let low : i < length lists = omega (arith, before, high) in
        let order : get_or (get_or lists i []) 0 0 < get_or (get_or lists k []) 0 0 = finest.order i k [] before high in
        let one : first_member (get_or parts i d) ≡ get_or (get_or lists i []) 0 0 = ap (λ (xs : List ℕ). get_or xs 0 0) (members_at i d low) in
        let two : first_member (get_or parts k d) ≡ get_or (get_or lists k []) 0 0 = ap (λ (xs : List ℕ). get_or xs 0 0) (members_at k d high) in
        omega (arith, order, one, two));
  }

  pub joined_best : 2 ^ length p.items ≤ budget + 1 → value_of p joined_set ≡ bound_of parts
  joined_best enough =
      let most = whole_bounds p joined_choice joined_set limits (choice_ranges (length p.items) (length p.lines) joined_choice joined_fits) joined_certified.whole joined_proved
      (record { rising = set_rise.rising; in_range = set_rise.in_range }) joined_feasible in
      elim (cases_lt (value_of p joined_set) (bound_of parts)) as (λ _. value_of p joined_set ≡ bound_of parts) [
        | inl above ↦
            let less = (joined_spent above).1 in
            absurd (omega (arith, less, enough))
        | inr under ↦ omega (arith, most, under)
      ]

  pub joined_members : AreFinest p (map (λ (part : Part). part.members) parts)
  joined_members = subst (AreFinest p) (sym same) finest
    where
      same : map (λ (part : Part). part.members) parts ≡ lists
      same = ext_get_or [] (map (λ (part : Part). part.members) parts) lists
          (length-map parts (λ (part : Part). part.members) ∙ searched.size)
          (λ k below.
          let inside : k < length parts = omega (arith, below, length-map parts (λ (part : Part). part.members)) in
          get_or-map (λ (part : Part). part.members) parts k no_part [] inside ∙ members_at k no_part (part_below k inside))
