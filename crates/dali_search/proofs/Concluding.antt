use Rattle.std.proofs.Common.{◌≡◌, inl, inr, ℕ, zero, suc, ◌+◌, ◌^◌, ◌<◌, ◌≤◌, ◌==◌, max, pos, ◌+ℤ◌, Bool, true, false, ◌&&◌, ◌||◌, List, [], ◌∷◌, length, sum_by, if◌then◌else◌, refl, ap, sym, ◌∙◌, subst, add-zero, arith}
use Rattle.std.specs.List.{All, AllPairs, Any, filter}
use Rattle.std.proofs.Math.Nat.{pow-le-pow_right}
use Rattle.std.proofs.lemmas.Bool.{cases_lt, and_from, or_left, or_right, eq-eqb}
use Rattle.std.proofs.lemmas.Int.{ints}
use Rattle.std.proofs.lemmas.List.Elements.{All-nil, All-cons, filter-append}
use Rattle.std.proofs.lemmas.List.Sums.{sum_by-cons, sum_by-append}
use Rattle.dali_base.specs.Limits.{most_bound}
use Rattle.dali_problem.specs.Sums.{sum_below, pick}
use Rattle.dali_problem.specs.Clearing.{Clearing, worth}
use Rattle.dali_problem.specs.Limits.{IsProblem}
use Rattle.dali_problem.specs.Feasible.{ArePlaces, value_of, has}
use Rattle.dali_problem.proofs.SumLaws.{sum_below_same}
use Rattle.dali_problem.proofs.SetLaws.{is_in, value_in}
use Rattle.dali_problem.proofs.Values.{value_within}
use Rattle.dali_tree.specs.declared.tree.Tree.{Tree}
use Rattle.dali_tree.specs.declared.choice.Part.{Part}
use Rattle.dali_tree.specs.declared.choice.Choice.{Choice}
use Rattle.dali_tree.specs.Tree.{branch_count}
use Rattle.dali_tree.specs.Fits.{PartFits, first_member, Fits}
use Rattle.dali_rest.specs.Addable.{CanAddRest}
use Rattle.dali_rest.specs.Swappable.{CanSwap}
use Rattle.dali_reduce.specs.Reduced.{undecided_count}
use Rattle.dali_greedy.specs.Grown.{IsGrown}
use Rattle.dali_check.specs.Proves.{proves_part}
use Rattle.dali_check.specs.Lean.{lean_tree, tight_tree, lean_part}
use Rattle.dali_check.specs.Parts.{changes, ArePartition, value_in_part, bound_of, branchings_of}
use Rattle.dali_check.specs.declared.reason.NotAllowed.TheVariants.{Idle}
use Rattle.dali_check.specs.Allowed.{Allowed}
use Rattle.dali_check.proofs.Reasons.{CanAdd, CanSwapIn, set_passed, parts_passed, budget_passed}
use Rattle.dali_search.specs.declared.node.Total.{Total}
use Rattle.dali_search.specs.Start.{all_places, start_of}
use Rattle.dali_search.specs.Stands.{Stands}
use Rattle.dali_search.proofs.Members.{count_most}
use Rattle.dali_search.proofs.Starting.{places_length, has_place, places_rise, places_more, start_at, start_length, all_undecided, none_feasible}

-- one pair is no pair
one_pair : {X : Type 0} (R : X → X → Type 0) (x : X) → AllPairs R (x ∷ [])
one_pair R x = λ i j d before within. absurd (omega (arith, before, within))

none_pair : {X : Type 0} (R : X → X → Type 0) → AllPairs R []
none_pair R = λ i j d before within. absurd (omega (arith, within))

-- what is among one item is that item
any_one : {X : Type 0} (P : X → Type 0) (x : X) → Any P (x ∷ []) → P x
any_one P x (zero, y, below, is, holds) = subst P (sym is) holds
any_one P x (suc k, y, below, is, holds) = absurd (omega (arith, below))

any_none : {X : Type 0} (P : X → Type 0) → Any P [] → ⊥
any_none P (k, y, below, is, holds) = absurd (omega (arith, below))

in_has : (j : ℕ) (xs : List ℕ) → is_in j xs ≡ has xs j
in_has j [] = refl
in_has j (x ∷ xs) = ap (λ b. (x == j) || b) (in_has j xs)

-- the places of a set among all places are worth what the set is worth
chosen_next : (p : Clearing) (s : List ℕ) (n : ℕ) (b : Bool) → has s n ≡ b →
    pos (sum_by (worth p) (filter (has s) (all_places n))) ≡ sum_below (λ j. pick (has s j) (pos (worth p j))) n →
    pos (sum_by (worth p) (filter (has s) (all_places n)) + sum_by (worth p) (filter (has s) (n ∷ [])))
    ≡ sum_below (λ j. pick (has s j) (pos (worth p j))) n +ℤ pick (has s n) (pos (worth p n))
chosen_next p s n true is before =
    let one : sum_by (worth p) (filter (has s) (n ∷ [])) ≡ worth p n = ap (λ c. sum_by (worth p) (if c then n ∷ [] else [])) is ∙ sum_by-cons (worth p) n [] ∙ add-zero (worth p n) in
    let own : pick (has s n) (pos (worth p n)) ≡ pos (worth p n) = ap (λ c. pick c (pos (worth p n))) is in
    omega (arith, ints, before, one, own)
chosen_next p s n false is before =
    let one : sum_by (worth p) (filter (has s) (n ∷ [])) ≡ 0 = ap (λ c. sum_by (worth p) (if c then n ∷ [] else [])) is in
    let own : pick (has s n) (pos (worth p n)) ≡ pos 0 = ap (λ c. pick c (pos (worth p n))) is in
    omega (arith, ints, before, one, own)

chosen_below : (p : Clearing) (s : List ℕ) (n : ℕ) → pos (sum_by (worth p) (filter (has s) (all_places n))) ≡ sum_below (λ j. pick (has s j) (pos (worth p j))) n
chosen_below p s zero = refl
chosen_below p s (suc n) =
    ap (λ (xs : List ℕ). pos (sum_by (worth p) (filter (has s) xs))) (places_more n)
    ∙ ap (λ (xs : List ℕ). pos (sum_by (worth p) xs)) (filter-append (has s) (all_places n) (n ∷ []))
    ∙ ap pos (sum_by-append (worth p) (filter (has s) (all_places n)) (filter (has s) (n ∷ [])))
    ∙ chosen_next p s n (has s n) refl (chosen_below p s n)

chosen_worth : (p : Clearing) (s : List ℕ) → ArePlaces p s → value_of p (filter (has s) (all_places (length p.items))) ≡ value_of p s
chosen_worth p s places =
    let whole = chosen_below p s (length p.items) in
    let value = value_in p s places in
    let same = sum_below_same (λ j. pick (is_in j s) (pos (worth p j))) (λ j. pick (has s j) (pos (worth p j))) (length p.items)
    (λ j below. ap (λ b. pick b (pos (worth p j))) (in_has j s)) in
    omega (arith, ints, whole, value, same)

-- the choice that a search ends with
abbrev pub whole_part : Clearing → ℕ → Tree → Part
whole_part p bound tree = record { members = all_places (length p.items); bound = bound; tree = tree }

abbrev pub whole_choice : Clearing → List ℕ → ℕ → Tree → Choice
whole_choice p s bound tree = record { places = s; parts = whole_part p bound tree ∷ [] }

-- what is known of it
pub record Ends (p : Clearing) (budget v bound : ℕ) (total : Total) (s : List ℕ) (tree : Tree) : Type 0 where
  pub some : 0 < length p.items
  pub grown : IsGrown p (start_of p) s
  pub value : v ≡ value_of p s
  pub bound_is : bound ≡ max v total.greatest
  pub small : total.greatest ≤ most_bound
  pub stands : Stands p bound v (start_of p) total tree
  pub within : total.branches ≤ budget
  pub ended : total.branches < budget → total.greatest ≤ v

pub whole_fits : (p : Clearing) (budget v bound : ℕ) (total : Total) (s : List ℕ) (tree : Tree) → IsProblem p → Ends p budget v bound total s tree →
    Fits (length p.items) (length p.lines) (whole_choice p s bound tree)
whole_fits p budget v bound total s tree limits ends =
    let most = value_within p s limits ends.grown.places in
    record {
      set = record { rising = ends.grown.places.rising; in_range = ends.grown.places.in_range };
      parts = All-cons (PartFits (length p.items) (length p.lines)) (whole_part p bound tree) []
          (record {
            some = omega (arith, places_length (length p.items), ends.some);
            members = places_rise (length p.items);
            bound = omega (arith, ends.bound_is, ends.small, most, ends.value);
            tree = ends.stands.fits;
            depth = omega (arith, ends.stands.depth, count_most (start_of p), start_length p, limits.items);
          }) (All-nil (PartFits (length p.items) (length p.lines)));
      order = one_pair (λ a b. first_member a < first_member b) (whole_part p bound tree);
    }

-- a grown set can't be added to, nor bettered by one exchange
whole_add : (p : Clearing) (s : List ℕ) (bound : ℕ) (tree : Tree) → IsGrown p (start_of p) s → CanAdd p (whole_choice p s bound tree) → ⊥
whole_add p s bound tree grown (inl one) = grown.no_place (record {
  place = one.place;
  undecided = start_at p one.place one.in_range;
  outside = one.outside;
  feasible = one.feasible;
})
whole_add p s bound tree grown (inr rest) = grown.no_rest
    (subst (λ (xs : List ℕ). CanAddRest p s xs) (sym (all_undecided p)) (any_one (λ (part : Part). CanAddRest p s part.members) (whole_part p bound tree) rest))

whole_swap : (p : Clearing) (s : List ℕ) (bound : ℕ) (tree : Tree) → IsGrown p (start_of p) s → CanSwapIn p (whole_choice p s bound tree) → ⊥
whole_swap p s bound tree grown swap = grown.no_swap
    (subst (λ (xs : List ℕ). CanSwap p s xs) (sym (all_undecided p)) (any_one (λ (part : Part). CanSwap p s part.members) (whole_part p bound tree) swap))

whole_partition : (p : Clearing) (bound : ℕ) (tree : Tree) → 0 < length p.items → ArePartition (length p.items) (whole_part p bound tree ∷ [])
whole_partition p bound tree some = record {
  some = All-cons (λ (part : Part). 0 < length part.members) (whole_part p bound tree) [] (omega (arith, places_length (length p.items), some))
      (All-nil (λ (part : Part). 0 < length part.members));
  covered = (λ j below. or_left (has (all_places (length p.items)) j) false (has_place (length p.items) j below));
  apart = one_pair (λ a b. (j : ℕ) → (has a.members j && has b.members j) ≡ false) (whole_part p bound tree);
}

lean_of : (p : Clearing) (v bound : ℕ) (total : Total) (tree : Tree) → bound ≡ max v total.greatest → Stands p bound v (start_of p) total tree →
    lean_part p (whole_part p bound tree) v ≡ true
lean_of p v bound total tree is stands =
    and_from (lean_tree p bound v tree (start_of p)) ((bound == v) || tight_tree p bound tree (start_of p)) stands.lean
    (elim (cases_lt v total.greatest) as (λ _. ((bound == v) || tight_tree p bound tree (start_of p)) ≡ true) [
      | inl over ↦ or_right (bound == v) (tight_tree p bound tree (start_of p)) (stands.tight (omega (arith, is, over)) (omega (arith, is, over)))
      | inr under ↦ or_left (bound == v) (tight_tree p bound tree (start_of p)) (eq-eqb bound v (omega (arith, is, under)))
    ])

pub whole_allowed : (p : Clearing) (budget v bound : ℕ) (total : Total) (s : List ℕ) (tree : Tree) → IsProblem p → Ends p budget v bound total s tree →
    Allowed p budget (whole_choice p s bound tree)
whole_allowed p budget v bound total s tree limits ends =
    let choice : Choice = whole_choice p s bound tree in
    let part : Part = whole_part p bound tree in
    let least : total.greatest ≤ bound = omega (arith, ends.bound_is) in
    let worth_is : value_in_part p s part ≡ v = chosen_worth p s ends.grown.places ∙ sym ends.value in
    let branchings : branchings_of choice.parts ≡ total.branches = sum_by-cons (λ (d : Part). branch_count d.tree) part [] ∙ (omega (arith, ends.stands.branches)) in
    let bounds : bound_of choice.parts ≡ bound = sum_by-cons (λ (d : Part). d.bound) part [] ∙ omega arith in
    let passed = set_passed p budget choice (whole_partition p bound tree ends.some)
    (record { separate = one_pair (λ a b. (l : ℕ) → (changes p a l && changes p b l) ≡ false) part })
    ends.grown.feasible (whole_add p s bound tree ends.grown) (whole_swap p s bound tree ends.grown) in
    let proved : All (λ (d : Part). proves_part p d ≡ true) choice.parts =
    All-cons (λ (d : Part). proves_part p d ≡ true) part [] (ends.stands.proves least) (All-nil (λ (d : Part). proves_part p d ≡ true)) in
    let lean : All (λ (d : Part). lean_part p d (value_in_part p s d) ≡ true) choice.parts =
    All-cons (λ (d : Part). lean_part p d (value_in_part p s d) ≡ true) part []
    (subst (λ (n : ℕ). lean_part p part n ≡ true) (sym worth_is) (lean_of p v bound total tree ends.bound_is ends.stands))
    (All-nil (λ (d : Part). lean_part p d (value_in_part p s d) ≡ true)) in
    budget_passed p budget choice (parts_passed p budget choice passed proved lean)
    (λ over. absurd (omega (arith, over, branchings, ends.within)))
    (λ idle.
    let over : v < total.greatest = omega (arith, idle.above, bounds, ends.value, ends.bound_is) in
    let spent : total.branches ≡ budget = elim (cases_lt total.branches budget) as (λ _. total.branches ≡ budget) [
      | inl under ↦ absurd (omega (arith, ends.ended under, over))
      | inr all ↦ omega (arith, all, ends.within)
    ] in
    elim idle.unspent as (λ _. ⊥) [
      | inl other ↦ other (branchings ∙ spent)
      | inr enough ↦
          let fewer = ends.stands.fewer over in
          let size : undecided_count (start_of p) ≤ length p.items = omega (arith, count_most (start_of p), start_length p) in
          let power : 2 ^ undecided_count (start_of p) ≤ 2 ^ length p.items = pow-le-pow_right {n = 2} (omega arith) {i = undecided_count (start_of p)} {j = length p.items} size in
          absurd (omega (arith, enough, fewer, power, ends.stands.branches, spent))
    ])

-- an allowed choice whose bounds aren't above what it is worth, where the budget is enough for every set
pub allowed_best : (p : Clearing) (budget : ℕ) (choice : Choice) → Allowed p budget choice → value_of p choice.places ≤ bound_of choice.parts →
    2 ^ length p.items ≤ budget + 1 → value_of p choice.places ≡ bound_of choice.parts
allowed_best p budget choice allowed least enough = elim (cases_lt (value_of p choice.places) (bound_of choice.parts)) as (λ _. value_of p choice.places ≡ bound_of choice.parts) [
  | inl above ↦ absurd (allowed.none Idle (record { above = above; unspent = inr enough }))
  | inr under ↦ omega (arith, under, least)
]

pub whole_least : (p : Clearing) (budget v bound : ℕ) (total : Total) (s : List ℕ) (tree : Tree) → Ends p budget v bound total s tree →
    value_of p s ≤ bound_of (whole_choice p s bound tree).parts
whole_least p budget v bound total s tree ends =
    let bounds : bound_of (whole_choice p s bound tree).parts ≡ bound = sum_by-cons (λ (d : Part). d.bound) (whole_part p bound tree) [] ∙ omega arith in
    omega (arith, bounds, ends.bound_is, ends.value)

-- the choice of an empty problem
abbrev pub no_choice : Choice
no_choice = record { places = []; parts = [] }

pub none_fits : (items lines : ℕ) → Fits items lines no_choice
none_fits items lines = record {
  set = record { rising = none_pair (λ i j. i < j); in_range = All-nil (λ (i : ℕ). i < items) };
  parts = All-nil (PartFits items lines);
  order = none_pair (λ a b. first_member a < first_member b);
}

pub none_allowed : (p : Clearing) (budget : ℕ) → length p.items ≡ 0 → Allowed p budget no_choice
none_allowed p budget none =
    let passed = set_passed p budget no_choice
    (record {
      some = All-nil (λ (part : Part). 0 < length part.members);
      covered = (λ j below. absurd (omega (arith, below, none)));
      apart = none_pair (λ a b. (j : ℕ) → (has a.members j && has b.members j) ≡ false);
    })
    (record { separate = none_pair (λ a b. (l : ℕ) → (changes p a l && changes p b l) ≡ false) })
    (none_feasible p)
    (λ add. none_add add)
    (λ swap. any_none (λ (part : Part). CanSwap p [] part.members) swap) in
    budget_passed p budget no_choice
    (parts_passed p budget no_choice passed (All-nil (λ (part : Part). proves_part p part ≡ true))
    (All-nil (λ (part : Part). lean_part p part (value_in_part p [] part) ≡ true)))
    (λ over. absurd (omega (arith, over)))
    (λ idle. absurd (omega (arith, idle.above)))
  where
    none_add : CanAdd p no_choice → ⊥
    none_add (inl one) = absurd (omega (arith, one.in_range, none))
    none_add (inr rest) = any_none (λ (part : Part). CanAddRest p [] part.members) rest
