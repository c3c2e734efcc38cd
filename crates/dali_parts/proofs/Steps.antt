use Rattle.std.proofs.Common.{◌≡◌, ◌≢◌, inl, inr, ℕ, zero, suc, ◌+◌, ◌-◌, ◌<◌, ◌≤◌, Bool, true, false, List, [], ◌∷◌, ◌++◌, length, take, get_or, set, if◌then◌else◌, refl, ap, sym, ◌∙◌, subst, arith}
use Rattle.std.specs.List.{All, AllPairs, Contains}
use Rattle.std.proofs.Math.ListN.{replicate}
use Rattle.std.proofs.lemmas.Bool.{cases_Bool, cases_eq, cases_lt}
use Rattle.std.proofs.lemmas.List.{length-map, get_or-set_same, get_or-set_other, get_or_default, get_or-take, length-take-le, length-append, get_or_append_left, get_or_at, take_more, get_or-replicate, get_or_past, length-replicate}
use Rattle.std.proofs.lemmas.List.Sums.{sum_by-cons, sum_by_push}
use Rattle.std.proofs.lemmas.List.Elements.{Contains-append_left, Contains-push, Contains-push_cases}
use Rattle.dali_problem.specs.Clearing.{Clearing}
use Rattle.dali_problem.specs.Limits.{IsProblem}
use Rattle.dali_tree.specs.declared.choice.Choice.{Choice}
use Rattle.dali_tree.specs.Fits.{PartFits, Fits}
use Rattle.dali_tree.specs.Range.{IsPartInRange}
use Rattle.dali_tree.proofs.Ranges.{part_ranges}
use Rattle.dali_check.specs.Allowed.{Allowed}
use Rattle.dali_check.proofs.Certified.{certified}
use Rattle.dali_search.specs.Start.{all_places}
use Rattle.dali_search.specs.Whole.{IsWhole}
use Rattle.dali_restrict.specs.Restriction.{IsRestriction}
use Rattle.dali_restrict.specs.Widened.{wide_part}
use Rattle.dali_restrict.proofs.Renumber.{IsPart, part_of}
use Rattle.dali_tree.specs.declared.choice.Part.{Part}
use Rattle.dali_tree.specs.Tree.{branch_count}
use Rattle.dali_check.specs.Parts.{branchings_of}
use Rattle.dali_restrict.specs.Restriction.{old_of}
use Rattle.dali_restrict.proofs.Spread.{old_same}
use Rattle.dali_parts.specs.Finest.{IsClass, AreFinest}
use Rattle.dali_parts.specs.Joined.{IsSearched, AreSearched, AreFree, AreChosen}
use Rattle.dali_parts.proofs.Joined.{finest_apart, not_zero}

-- one number more is marked
pub chosen_more : (members numbers : List ℕ) (i : ℕ) (start before after : List Bool) → i < length numbers → old_of members (get_or numbers i 0) < length before →
    after ≡ set before (old_of members (get_or numbers i 0)) true → AreChosen members (take i numbers) start before → AreChosen members (take (i + 1) numbers) start after
chosen_more members numbers i start before after within inside is so_far =
    let at : ℕ = old_of members (get_or numbers i 0) in
    let more : take (i + 1) numbers ≡ take i numbers ++ get_or numbers i 0 ∷ [] = take_more numbers i 0 within in
    record {
      chosen = (λ n there. ap (λ (m : List Bool). get_or m (old_of members n) false) is
          ∙ elim (cases_eq (old_of members n) at) as (λ _. get_or (set before at true) (old_of members n) false ≡ true) [
            | inl here ↦ ap (λ j. get_or (set before at true) j false) here ∙ get_or-set_same before at true false inside
            | inr other ↦
                get_or-set_other before at (old_of members n) true false other
                ∙ elim (Contains-push_cases (take i numbers) (get_or numbers i 0) n (subst (λ (xs : List ℕ). Contains xs n) more there)) as (λ _. get_or before (old_of members n) false ≡ true) [
                  | inl old ↦ so_far.chosen n old
                  | inr new_one ↦ absurd (other (ap (old_of members) (sym new_one)))
                ]
          ]);
      others = (λ j off.
          let first : at ≢ j = off (get_or numbers i 0) (subst (λ (xs : List ℕ). Contains xs (get_or numbers i 0)) (sym more) (Contains-push (take i numbers) (get_or numbers i 0))) in
          ap (λ (m : List Bool). get_or m j false) is ∙ get_or-set_other before at j true false (λ same. first (sym same))
          ∙ so_far.others j (λ n there. off n (subst (λ (xs : List ℕ). Contains xs n) (sym more) (Contains-append_left (take i numbers) (get_or numbers i 0 ∷ []) n there))));
    }

pub chosen_none : (members : List ℕ) (start : List Bool) → AreChosen members [] start start
chosen_none members start = record { chosen = (λ i there. absurd (omega (arith, there.1))); others = (λ j off. refl) }

-- nothing is marked at the start
pub none_marked : (n : ℕ) (lists : List (List ℕ)) → AreFree lists 0 (replicate n false)
none_marked n lists = record {
  free = (λ k j from within there. elim (cases_lt j n) as (λ _. get_or (replicate n false) j false ≡ false) [
    | inl below ↦ get_or-replicate n j false false below
    | inr past ↦ get_or_past (replicate n false) j false (omega (arith, past, length-replicate n false))
  ]);
}

-- one part more was searched
pub searched_more : (p : Clearing) (budget left : ℕ) (lists : List (List ℕ)) (i : ℕ) (before after : List Bool) (parts : List Part) (part : Part) → AreFinest p lists → i < length lists →
    left ≡ budget - branchings_of parts → AreSearched p budget (take i lists) before parts → IsSearched p left (get_or lists i []) after part → branch_count part.tree ≤ left →
    ((j : ℕ) → ¬ (Contains (get_or lists i []) j) → get_or after j false ≡ get_or before j false) → AreSearched p budget (take (i + 1) lists) after (parts ++ part ∷ [])
searched_more p budget left lists i before after parts part finest within is so_far now few others =
    let short : length (take i lists) ≡ i = length-take-le i lists (omega (arith, within)) in
    let count : length (parts ++ part ∷ []) ≡ length parts + 1 = length-append parts (part ∷ []) in
    record {
      size = omega (arith, count, so_far.size, short, length-take-le (i + 1) lists (omega (arith, within)));
      each = (λ k d below.
          let under : k < i + 1 = omega (arith, below, length-take-le (i + 1) lists (omega (arith, within))) in
          subst (λ (xs : List ℕ). IsSearched p (budget - branchings_of (take k (parts ++ part ∷ []))) xs after (get_or (parts ++ part ∷ []) k d)) (sym (get_or-take (i + 1) lists k [] under))
          (elim (cases_eq k i) as (λ _. IsSearched p (budget - branchings_of (take k (parts ++ part ∷ []))) (get_or lists k []) after (get_or (parts ++ part ∷ []) k d)) [
            | inl here ↦
                let at : get_or (parts ++ part ∷ []) k d ≡ part = get_or_at parts part [] d k (omega (arith, here, so_far.size, short)) in
                let front : take k (parts ++ part ∷ []) ≡ parts = front_of parts (part ∷ []) k (omega (arith, here, so_far.size, short)) in
                subst (λ (x : Part). IsSearched p (budget - branchings_of (take k (parts ++ part ∷ []))) (get_or lists k []) after x) (sym at)
                (subst (λ (ps : List Part). IsSearched p (budget - branchings_of ps) (get_or lists k []) after part) (sym front)
                (subst (λ (m : ℕ). IsSearched p (budget - branchings_of parts) (get_or lists m []) after part) (sym here)
                (subst (λ (b : ℕ). IsSearched p b (get_or lists i []) after part) is now)))
            | inr other ↦
                let less : k < i = omega (arith, under, other) in
                let old : IsSearched p (budget - branchings_of (take k parts)) (get_or (take i lists) k []) before (get_or parts k d) = so_far.each k d (omega (arith, less, short)) in
                let moved : IsSearched p (budget - branchings_of (take k parts)) (get_or lists k []) before (get_or parts k d) =
                subst (λ (xs : List ℕ). IsSearched p (budget - branchings_of (take k parts)) xs before (get_or parts k d)) (get_or-take i lists k [] less) old in
                let inside : k < length parts = omega (arith, less, so_far.size, short) in
                let at : get_or (parts ++ part ∷ []) k d ≡ get_or parts k d = get_or_append_left parts (part ∷ []) d k inside in
                let front : take k (parts ++ part ∷ []) ≡ take k parts = take_left parts (part ∷ []) k (omega (arith, inside)) in
                subst (λ (x : Part). IsSearched p (budget - branchings_of (take k (parts ++ part ∷ []))) (get_or lists k []) after x) (sym at)
                (subst (λ (ps : List Part). IsSearched p (budget - branchings_of ps) (get_or lists k []) after (get_or parts k d)) (sym front)
                (remarked p (budget - branchings_of (take k parts)) (get_or lists k []) (get_or parts k d) (λ m inner_one.
                others (old_of (get_or lists k []) m) (λ there. finest_apart p lists k i (old_of (get_or lists k []) m) finest less within
                (m, inner_one, get_or_default (get_or lists k []) m (old_of (get_or lists k []) m) 0 inner_one) there)) moved))
          ]));
      within = omega (arith, sum_by_push (λ (x : Part). branch_count x.tree) parts part, so_far.within, few, is);
    }
  where
    front_of : (xs ys : List Part) (k : ℕ) → k ≡ length xs → take k (xs ++ ys) ≡ xs
    front_of [] ys zero is = refl
    front_of [] ys (suc k) is = absurd (omega (arith, is))
    front_of (x ∷ xs) ys zero is = absurd (omega (arith, is))
    front_of (x ∷ xs) ys (suc k) is = ap (λ zs. x ∷ zs) (front_of xs ys k (omega (arith, is)))

    take_left : (xs ys : List Part) (k : ℕ) → k ≤ length xs → take k (xs ++ ys) ≡ take k xs
    take_left xs ys zero most = refl
    take_left [] ys (suc k) most = absurd (omega (arith, most))
    take_left (x ∷ xs) ys (suc k) most = ap (λ zs. x ∷ zs) (take_left xs ys k (omega (arith, most)))

    remarked : (p : Clearing) (spare : ℕ) (members : List ℕ) (x : Part) → ((m : ℕ) → m < length members → get_or after (old_of members m) false ≡ get_or before (old_of members m) false) →
        IsSearched p spare members before x → IsSearched p spare members after x
    remarked p spare members x same s = record {
      inner = s.inner;
      numbers = s.numbers;
      choice = s.choice;
      one = s.one;
      restriction = s.restriction;
      bounds = s.bounds;
      fits = s.fits;
      allowed = s.allowed;
      whole = s.whole;
      parts = s.parts;
      wide = s.wide;
      marked = (λ m below there. same m below ∙ s.marked m below there);
      unmarked = (λ m below off. same m below ∙ s.unmarked m below off);
    }

pub free_more : (p : Clearing) (lists : List (List ℕ)) (i : ℕ) (before after : List Bool) → AreFinest p lists → i < length lists → AreFree lists i before →
    ((j : ℕ) → ¬ (Contains (get_or lists i []) j) → get_or after j false ≡ get_or before j false) → AreFree lists (i + 1) after
free_more p lists i before after finest within free others = record {
  free = (λ k j from below there.
      others j (λ here. finest_apart p lists i k j finest (omega (arith, from)) below here there) ∙ free.free k j (omega (arith, from)) below there);
}

-- what the search of one part came to
whole_size : (n : ℕ) (choice : Choice) → 0 < n → IsWhole n choice → length choice.parts ≡ 1
whole_size n choice some whole = sym (length-map choice.parts (λ (part : Part). part.members))
    ∙ ap length (whole ∙ ap (λ b. if b then [] else all_places n ∷ []) (not_zero n some))

single : (xs : List Part) (one : Part) → length xs ≡ 1 → one ≡ get_or xs 0 one → xs ≡ one ∷ []
single [] one size is = absurd (omega (arith, size))
single (x ∷ []) one size is = ap (λ (y : Part). y ∷ []) (sym is)
single (x ∷ y ∷ xs) one size is = absurd (omega (arith, size))

module _ (p inner : Clearing) (members numbers : List ℕ) (choice : Choice) (limits : IsProblem p) (class : IsClass p members) (restriction : IsRestriction p members inner numbers)
    (fits : Fits (length inner.items) (length inner.lines) choice) (whole : IsWhole (length inner.items) choice) where
  whole_part : IsPart p inner members numbers
  whole_part = part_of p inner members numbers limits restriction

  pub one_size : length choice.parts ≡ 1
  one_size = whole_size (length inner.items) choice (omega (arith, class.some, whole_part.items_size)) whole

  pub one_range : (one : Part) → one ≡ get_or choice.parts 0 one → IsPartInRange (length inner.items) (length inner.lines) one
  one_range one is = part_ranges (length inner.items) (length inner.lines) one
      (subst (PartFits (length inner.items) (length inner.lines)) (sym is) (fits.parts 0 one (omega (arith, one_size))))

  pub places_range : All (λ (i : ℕ). i < length members) choice.places
  places_range k d below = omega (arith, fits.set.in_range k d below, whole_part.items_size)

  pub one_within : (budget : ℕ) (one part : Part) → Allowed inner budget choice → one ≡ get_or choice.parts 0 one → branch_count part.tree ≡ branch_count one.tree → branch_count part.tree ≤ budget
  one_within budget one part allowed is same =
      let all = (certified inner budget choice allowed).within in
      let sum : branchings_of choice.parts ≡ branch_count one.tree =
      ap (λ (ps : List Part). branchings_of ps) (single choice.parts one one_size is) ∙ sum_by-cons (λ (x : Part). branch_count x.tree) one [] ∙ omega arith in
      omega (arith, all, sum, same)

  pub one_others : (before after : List Bool) → AreChosen members choice.places before after → (j : ℕ) → ¬ (Contains members j) → get_or after j false ≡ get_or before j false
  one_others before after chosen j out = chosen.others j (λ i there same. out (
    i,
    subst (λ (k : ℕ). k < length members) there.2 (places_range there.0 i there.1),
    get_or_default members i j 0
        (subst (λ (k : ℕ). k < length members) there.2 (places_range there.0 i there.1)) ∙ same,
  ))

  pub one_searched : (budget : ℕ) (places : List ℕ) (one part : Part) (before after : List Bool) → IsProblem inner → Allowed inner budget choice → places ≡ members →
      one ≡ get_or choice.parts 0 one → part ≡ wide_part places numbers one → AreChosen members choice.places before after →
      ((j : ℕ) → Contains members j → get_or before j false ≡ false) → IsSearched p budget members after part
  one_searched budget places one part before after bounds allowed same is wide chosen free = record {
    inner = inner;
    numbers = numbers;
    choice = choice;
    one = one;
    restriction = restriction;
    bounds = bounds;
    fits = fits;
    allowed = allowed;
    whole = whole;
    parts = single choice.parts one one_size is;
    wide = wide ∙ ap (λ (xs : List ℕ). wide_part xs numbers one) same;
    marked = (λ i below there. chosen.chosen i there);
    unmarked = (λ i below off.
        chosen.others (old_of members i) (λ k there equal.
        let inside : k < length members = subst (λ (m : ℕ). m < length members) there.2 (places_range there.0 k there.1) in
        off (subst (Contains choice.places) (old_same (length p.items) members k i whole_part.members inside below equal) there))
        ∙ free (old_of members i) (i, below, get_or_default members i (old_of members i) 0 below));
  }

pub searched_none : (p : Clearing) (budget : ℕ) (marks : List Bool) → AreSearched p budget [] marks []
searched_none p budget marks = record {
  size = refl;
  each = (λ k d below. absurd (omega (arith, below)));
  within = omega arith;
}
