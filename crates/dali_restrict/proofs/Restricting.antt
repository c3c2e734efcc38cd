use Rattle.std.proofs.Common.{◌≡◌, ◌≢◌, inl, inr, ℕ, zero, suc, ◌+◌, ◌-◌, ◌*◌, ◌^◌, ◌<◌, ◌≤◌, pos, true, ltb, List, [], ◌∷◌, ◌++◌, length, map, take, get_or, Err, sum_by, refl, ap, sym, ◌∙◌, subst, arith}
use Rattle.std.specs.List.{All, Any, AllPairs, Contains, flat_map}
use Rattle.std.specs.List.Sorted.{IsBinarySearchResult}
use Rattle.std.specs.Ordering.{nat_cmp}
use Rattle.std.specs.Cmp.Lexicographic.{slice_cmp, nat_list_cmp_total}
use Rattle.std.specs.declared.cmp.Ordering.TheVariants.{Less}
use Rattle.std.proofs.lemmas.Bool.{cases_eq, cases_lt}
use Rattle.std.proofs.lemmas.List.{length-map, get_or-map, get_or_default, get_or-take, length-take-le, map_more, map_push}
use Rattle.std.proofs.lemmas.List.Sorted.{searched}
use Rattle.std.proofs.lemmas.List.Sums.{sum_by-cons, sum_by_more, sum_by-take-le}
use Rattle.std.proofs.lemmas.List.Elements.{All-head, All-tail, All-push, Contains-append_cases, Contains-append_left, Contains-append_right}
use Rattle.dali_problem.specs.declared.row.Effect.{Effect}
use Rattle.dali_problem.specs.declared.row.LineRow.{LineRow}
use Rattle.dali_problem.specs.Clearing.{Item, Clearing, no_item, no_line, line_at, item_at, effect, worth, on_line}
use Rattle.dali_problem.specs.Sums.{sum_over}
use Rattle.dali_problem.specs.Limits.{Within, IsProblem, IsBefore, AreEffects}
use Rattle.dali_problem.specs.Feasible.{ArePlaces}
use Rattle.dali_problem.proofs.Lines.{item_limits}
use Rattle.dali_problem.proofs.RuleTests.{present}
use Rattle.dali_problem.proofs.Turned.{one_on_line}
use Rattle.dali_problem.proofs.Values.{value_within, places_length, rising_length}
use Rattle.dali_fixes.proofs.Sets.{past_line}
use Rattle.dali_restrict.specs.Restriction.{old_of, wide_effect, wide_item, AreChanged, CoverEffects, IsAdding}
use Rattle.dali_restrict.proofs.Spread.{IsRise, old_order}

-- a number that stands in a rising list is found there
pub search_finds : (xs : List ℕ) (x i : ℕ) → IsBinarySearchResult (λ y. nat_cmp y x) xs (Err i) → AllPairs (λ a b. a < b) xs → Contains xs x → ⊥
search_finds xs x i is rising there =
    let none = searched xs x (Err i) is (λ a b most within. ordered a b most within) in
    let at : get_or xs there.0 0 ≡ x = get_or_default xs there.0 0 x there.1 ∙ there.2 in
    elim (cases_lt there.0 i) as (λ _. ⊥) [
      | inl before ↦
          let low = none.1 there.0 before in
          absurd (omega (arith, low, at))
      | inr behind ↦
          let high = none.2 there.0 behind there.1 in
          absurd (omega (arith, high, at))
    ]
  where
    ordered : (a b : ℕ) → a ≤ b → b < length xs → get_or xs a 0 ≤ get_or xs b 0
    ordered a b most within = elim (cases_eq a b) as (λ _. get_or xs a 0 ≤ get_or xs b 0) [
      | inl same ↦
          let equal : get_or xs a 0 ≡ get_or xs b 0 = ap (λ k. get_or xs k 0) same in
          omega (arith, equal)
      | inr other ↦
          let less = rising a b 0 (omega (arith, most, other)) within in
          omega (arith, less)
    ]

-- the lines of a place's effects are those that it changes
abbrev pub lines_of : Clearing → ℕ → List ℕ
lines_of p j = map (λ (e : Effect). e.line) (item_at p j).effects

of_place : (p : Clearing) (j l : ℕ) → IsProblem p → j < length p.items → Contains (lines_of p j) l → effect p j l ≢ pos 0
of_place p j l limits within there none =
    let es : List Effect = (item_at p j).effects in
    let are : AreEffects (length p.lines) es = (item_limits p j limits within).effects in
    let below : there.0 < length es = omega (arith, there.1, length-map es (λ (e : Effect). e.line)) in
    let d : Effect = record { line = 0; amount = pos 0 } in
    let line : (get_or es there.0 d).line ≡ l = sym (get_or-map (λ (e : Effect). e.line) es there.0 d l below) ∙ there.2 in
    are.not_zero there.0 d below (sym (one_on_line es there.0 d are.rising below) ∙ ap (λ k. sum_over (on_line k) es) line ∙ none)

to_place : (p : Clearing) (j l : ℕ) → effect p j l ≢ pos 0 → Contains (lines_of p j) l
to_place p j l some =
    let es : List Effect = (item_at p j).effects in
    let d : Effect = record { line = 0; amount = pos 0 } in
    elim (present l d es) as (λ _. Contains (lines_of p j) l) [
      | inl none ↦ absurd (some none)
      | inr found ↦ (
        found.0,
        omega (arith, found.1, length-map es (λ (e : Effect). e.line)),
        get_or-map (λ (e : Effect). e.line) es found.0 d l found.1 ∙ found.2,
      )
    ]

-- the lines of several
of_places : (p : Clearing) (js : List ℕ) (l : ℕ) → IsProblem p → All (λ j. j < length p.items) js → Contains (flat_map (lines_of p) js) l → Any (λ j. effect p j l ≢ pos 0) js
of_places p [] l limits within there = absurd (omega (arith, there.1))
of_places p (j ∷ js) l limits within there = elim (Contains-append_cases (lines_of p j) (flat_map (lines_of p) js) l there) as (λ _. Any (λ j. effect p j l ≢ pos 0) (j ∷ js)) [
  | inl first ↦ (0, j, omega arith, refl, of_place p j l limits (All-head (λ (i : ℕ). i < length p.items) j js within) first)
  | inr later ↦
      let rest = of_places p js l limits (All-tail (λ (i : ℕ). i < length p.items) j js within) later in
      (suc rest.0, rest.1, omega (arith, rest.2), rest.3, rest.4)
]

to_places : (p : Clearing) (js : List ℕ) (k l : ℕ) → k < length js → effect p (get_or js k 0) l ≢ pos 0 → Contains (flat_map (lines_of p) js) l
to_places p [] k l within some = absurd (omega (arith, within))
to_places p (j ∷ js) zero l within some = Contains-append_left (lines_of p j) (flat_map (lines_of p) js) l (to_place p j l some)
to_places p (j ∷ js) (suc k) l within some = Contains-append_right (lines_of p j) (flat_map (lines_of p) js) l (to_places p js k l (omega (arith, within)) some)

-- the same lines, rising
pub are_changed : (p : Clearing) (js lines : List ℕ) → IsProblem p → All (λ j. j < length p.items) js → AllPairs (λ k l. k < l) lines →
    ((l : ℕ) → Contains lines l → Contains (flat_map (lines_of p) js) l) → ((l : ℕ) → Contains (flat_map (lines_of p) js) l → Contains lines l) → AreChanged p js lines
are_changed p js lines limits within rising there back = record {
  rising = rising;
  changed = (λ l. (
    λ has. of_places p js l limits within (there l has),
    λ some. back l (to_places p js some.0 l some.2
        (λ none. some.4 (ap (λ j. effect p j l) (sym (get_or_default js some.0 0 some.1 some.2 ∙ some.3)) ∙ none))),
  ));
}

-- the lines of a problem have an order
pub before_later : (p : Clearing) (k m : ℕ) → IsProblem p → k < m → m < length p.lines → IsBefore (line_at p k) (line_at p m)
before_later p k zero limits less within = absurd (omega (arith, less))
before_later p k (suc m) limits less within =
    let next : IsBefore (line_at p m) (line_at p (suc m)) = subst (λ (n : ℕ). IsBefore (line_at p m) (line_at p n)) (sym one) (limits.ordered m (omega (arith, within))) in
    elim (cases_eq k m) as (λ _. IsBefore (line_at p k) (line_at p (suc m))) [
      | inl here ↦ subst (λ (n : ℕ). IsBefore (line_at p n) (line_at p (suc m))) (sym here) next
      | inr other ↦ through (line_at p k) (line_at p m) (line_at p (suc m)) (before_later p k m limits (omega (arith, less, other)) (omega (arith, within))) next
    ]
  where
    one : suc m ≡ m + 1
    one = omega arith

    through : (a b c : LineRow) → IsBefore a b → IsBefore b c → IsBefore a c
    through a b c (inl x) (inl y) = inl (nat_list_cmp_total.trans a.account b.account c.account x y)
    through a b c (inl x) (inr y) = inl (subst (λ (n : List ℕ). slice_cmp nat_cmp a.account n ≡ Less) y.0 x)
    through a b c (inr x) (inl y) = inl (subst (λ (n : List ℕ). slice_cmp nat_cmp n c.account ≡ Less) (sym x.0) y)
    through a b c (inr x) (inr y) = inr (x.0 ∙ y.0, nat_list_cmp_total.trans a.asset b.asset c.asset x.1 y.1)

-- a line more, and the one before it
pub line_more : (p : Clearing) (lines : List ℕ) (i : ℕ) (before after : Clearing) (row : LineRow) (line : ℕ) → i < length lines → line ≡ get_or lines i 0 →
    before ≡ record { lines = map (line_at p) (take i lines); items = [] } → after ≡ record before { lines = before.lines ++ row ∷ [] } → row ≡ line_at p line →
    after ≡ record { lines = map (line_at p) (take (i + 1) lines); items = [] }
line_more p lines i before after row line within is so_far added own =
    added ∙ ap (λ (b : Clearing). record b { lines = b.lines ++ row ∷ [] }) so_far
    ∙ ap (λ (r : LineRow). record { lines = map (line_at p) (take i lines) ++ r ∷ []; items = [] }) (own ∙ ap (line_at p) is)
    ∙ ap (λ (rows : List LineRow). record { lines = rows; items = [] }) (sym (map_more (line_at p) lines i 0 within))

pub line_after : (p : Clearing) (lines : List ℕ) (i k : ℕ) (inner : Clearing) → IsProblem p → AllPairs (λ a b. a < b) lines → All (λ l. l < length p.lines) lines → i < length lines →
    inner ≡ record { lines = map (line_at p) (take i lines); items = [] } → k + 1 ≡ length inner.lines → IsBefore (line_at inner k) (line_at p (get_or lines i 0))
line_after p lines i k inner limits rising within below is next =
    let size : length inner.lines ≡ length (map (line_at p) (take i lines)) = ap (λ (c : Clearing). length c.lines) is in
    let short : length (take i lines) ≡ i = length-take-le i lines (omega (arith, below)) in
    let inside : k < length (take i lines) = omega (arith, next, size, short, length-map (take i lines) (line_at p)) in
    let row : line_at inner k ≡ line_at p (get_or lines k 0) =
    ap (λ (c : Clearing). line_at c k) is ∙ get_or-map (line_at p) (take i lines) k 0 no_line inside
    ∙ ap (line_at p) (get_or-take i lines k 0 (omega (arith, inside, short))) in
    subst (λ (r : LineRow). IsBefore r (line_at p (get_or lines i 0))) (sym row)
    (before_later p (get_or lines k 0) (get_or lines i 0) limits (rising k i 0 (omega (arith, inside, short)) below) (within i 0 below))

pub line_few : (p : Clearing) (lines : List ℕ) (i : ℕ) (inner : Clearing) → i ≤ length lines → inner ≡ record { lines = map (line_at p) (take i lines); items = [] } → length inner.lines ≡ i
line_few p lines i inner most is =
    ap (λ (c : Clearing). length c.lines) is ∙ length-map (take i lines) (line_at p) ∙ length-take-le i lines most

-- a rising list of lines is no longer than there are lines
pub lines_few : (n : ℕ) (lines : List ℕ) → AllPairs (λ a b. a < b) lines → All (λ l. l < n) lines → length lines ≤ n
lines_few n lines rising within =
    let short : length lines ≤ n - 0 = rising_length n lines 0 rising within (λ k d below. omega arith) in
    omega (arith, short)

-- an item more
pub item_more : (p : Clearing) (rows : List LineRow) (numbers members : List ℕ) (i : ℕ) (before after : Clearing) (item : Item) (place : ℕ) → i < length members → place ≡ get_or members i 0 →
    IsAdding p rows numbers (take i members) before → after ≡ record before { items = before.items ++ item ∷ [] } → wide_item numbers item ≡ item_at p place →
    All (λ (e : Effect). e.line < length numbers) item.effects → IsAdding p rows numbers (take (i + 1) members) after
item_more p rows numbers members i before after item place within is so_far added own inside =
    subst (IsAdding p rows numbers (take (i + 1) members)) (sym added) (record {
      lines = so_far.lines;
      items =
          map_push (wide_item numbers) before.items item
          ∙ ap (λ xs. xs ++ wide_item numbers item ∷ []) so_far.items
          ∙ ap (λ (x : Item). map (item_at p) (take i members) ++ x ∷ []) (own ∙ ap (item_at p) is)
          ∙ sym (map_more (item_at p) members i 0 within);
      within = All-push (λ (x : Item). All (λ (e : Effect). e.line < length numbers) x.effects) before.items item so_far.within inside;
    })

-- what adding the next member asks
module _ (p : Clearing) (rows : List LineRow) (numbers members : List ℕ) (i : ℕ) (inner : Clearing) (limits : IsProblem p) (places : ArePlaces p members) (within : i < length members)
    (adding : IsAdding p rows numbers (take i members) inner) where
  pub adding_count : length inner.items ≡ i
  adding_count = sym (length-map inner.items (wide_item numbers)) ∙ ap length adding.items ∙ length-map (take i members) (item_at p) ∙ length-take-le i members (omega (arith, within))

  pub adding_few : length inner.items < 1024
  adding_few = omega (arith, adding_count, within, places_length p members places, limits.items)

  added_is : (k : ℕ) (d : Item) → k < length inner.items → wide_item numbers (get_or inner.items k d) ≡ item_at p (get_or members k 0)
  added_is k d below =
      let under : k < length (take i members) = omega (arith, below, adding_count, length-take-le i members (omega (arith, within))) in
      sym (get_or-map (wide_item numbers) inner.items k d no_item below) ∙ ap (λ (items : List Item). get_or items k no_item) adding.items
      ∙ get_or-map (item_at p) (take i members) k 0 no_item under ∙ ap (item_at p) (get_or-take i members k 0 (omega (arith, below, adding_count)))

  pub adding_new : All (λ (item : Item). item.id ≢ (item_at p (get_or members i 0)).id) inner.items
  adding_new k d below same =
      let less : get_or members k 0 < get_or members i 0 = places.rising k i 0 (omega (arith, below, adding_count)) within in
      limits.ids (get_or members k 0) (get_or members i 0) no_item less (places.in_range i 0 within)
      (sym (ap (λ (x : Item). x.id) (added_is k d below)) ∙ same)

  values_of : (js : List ℕ) (items : List Item) → map (wide_item numbers) items ≡ map (item_at p) js → sum_by (λ (item : Item). item.value) items ≡ sum_by (worth p) js
  values_of [] [] is = refl
  values_of [] (x ∷ items) is = absurd (omega (arith, ap length is))
  values_of (j ∷ js) [] is = absurd (omega (arith, ap length is))
  values_of (j ∷ js) (x ∷ items) is =
      let first : x.value ≡ worth p j = ap (λ (xs : List Item). (get_or xs 0 no_item).value) is in
      let rest = values_of js items (ap tail is) in
      sum_by-cons (λ (item : Item). item.value) x items ∙ (omega (arith, first, rest, sum_by-cons (worth p) j js))
    where
      tail : List Item → List Item
      tail [] = []
      tail (y ∷ ys) = ys

  pub adding_total : sum_by (λ (item : Item). item.value) inner.items + worth p (get_or members i 0) ≤ 16384 * 10 ^ 15
  adding_total =
      omega (arith, values_of (take i members) inner.items adding.items, sum_by_more (worth p) members i 0 within, sum_by-take-le (worth p) members (i + 1), value_within p members limits places)

-- effects on the new lines are effects
pub inner_effects : (n m : ℕ) (numbers : List ℕ) (inner outer : List Effect) → AreEffects n outer → IsRise n numbers → map (wide_effect numbers) inner ≡ outer → m ≡ length numbers →
    All (λ (e : Effect). e.line < length numbers) inner → AreEffects m inner
inner_effects n m numbers inner outer are rise is same within = record {
  size = omega (arith, are.size, count);
  rising = (λ a b d before below.
      let high : a < length inner = omega (arith, before, below) in
      let up = are.rising a b (wide_effect numbers d) before (omega (arith, below, count)) in
      let one : (get_or outer a (wide_effect numbers d)).line ≡ old_of numbers (get_or inner a d).line = ap (λ (e : Effect). e.line) (at a d high) in
      let two : (get_or outer b (wide_effect numbers d)).line ≡ old_of numbers (get_or inner b d).line = ap (λ (e : Effect). e.line) (at b d below) in
      less_told (get_or inner a d).line (get_or inner b d).line
      (sym (old_order n numbers (get_or inner a d).line (get_or inner b d).line rise (within a d high) (within b d below))
      ∙ told (old_of numbers (get_or inner a d).line) (old_of numbers (get_or inner b d).line) (omega (arith, up, one, two))));
  in_range = (λ a d below. omega (arith, within a d below, same));
  not_zero = (λ a d below none. are.not_zero a (wide_effect numbers d) (omega (arith, below, count)) (ap (λ (e : Effect). e.amount) (at a d below) ∙ none));
  bounded = (λ a d below.
      let small = are.bounded a (wide_effect numbers d) (omega (arith, below, count)) in
      subst (λ (e : Effect). Within (8 * 10 ^ 15) e.amount) (at a d below) small);
}
  where
    count : length inner ≡ length outer
    count = sym (length-map inner (wide_effect numbers)) ∙ ap length is

    at : (k : ℕ) (d : Effect) → k < length inner → get_or outer k (wide_effect numbers d) ≡ wide_effect numbers (get_or inner k d)
    at k d below = ap (λ (es : List Effect). get_or es k (wide_effect numbers d)) (sym is) ∙ get_or-map (wide_effect numbers) inner k d (wide_effect numbers d) below

    less_told : (a b : ℕ) → ltb a b ≡ true → a < b
    less_told a b t = grind arith

    told : (a b : ℕ) → a < b → ltb a b ≡ true
    told a b less = grind arith

-- a place's effects stand on the lines that the members change
pub member_effects : (p : Clearing) (members numbers : List ℕ) (i : ℕ) → IsProblem p → ArePlaces p members → AreChanged p members numbers → length numbers ≤ 4096 → i < length members →
    CoverEffects numbers (item_at p (get_or members i 0)).effects
member_effects p members numbers i limits places changed few within = record {
  rising = changed.rising;
  few = few;
  there = (λ k d below.
      let j : ℕ = get_or members i 0 in
      let es : List Effect = (item_at p j).effects in
      (changed.changed (get_or es k d).line).1 (
        i,
        j,
        within,
        get_or_default members i j 0 within,
        of_place p j (get_or es k d).line limits (places.in_range i 0 within)
            (k, omega (arith, below, length-map es (λ (e : Effect). e.line)), get_or-map (λ (e : Effect). e.line) es k d (get_or es k d).line below),
      ));
}

-- the changed lines are lines
pub changed_range : (p : Clearing) (members numbers : List ℕ) → IsProblem p → All (λ j. j < length p.items) members → AreChanged p members numbers → All (λ l. l < length p.lines) numbers
changed_range p members numbers limits places changed k d below =
    let l : ℕ = get_or numbers k d in
    let some = (changed.changed l).0 (k, below, get_or_default numbers k l d below) in
    elim (cases_lt l (length p.lines)) as (λ _. l < length p.lines) [
      | inl within ↦ within
      | inr past ↦ absurd (some.4 (past_line p some.1 l limits past))
    ]
