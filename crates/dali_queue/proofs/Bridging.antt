use Rattle.std.proofs.Common.{◌≡◌, ℕ, ◌<◌, zero, suc, ℤ, pos, ◌+ℤ◌, ◌≤ℤ◌, Bool, true, false, cond, ◌&&◌, ◌||◌, true≢false, List, [], ◌∷◌, map, length, get_or, eqb, ltb, refl, sym, ap, ◌∙◌, subst, arith}
use Rattle.std.specs.Prelude.{flat_map, unwrap_or, slice_get}
use Rattle.std.specs.List.{All, AllPairs, AllByRecursion, list_any, filter}
use Rattle.std.proofs.lemmas.Int.{ints}
use Rattle.std.proofs.lemmas.Bool.Decides.{nat_tests}
use Rattle.std.proofs.lemmas.List.{get_or-map, length-map}
use Rattle.std.proofs.lemmas.List.Folds.{list_any-append}
use Rattle.std.proofs.lemmas.List.Elements.{All-nil, All-cons, recursion_from_All}
use Rattle.std.proofs.lemmas.Map.Keys.{IsDistinct-from_sorted, apart_from_distinct}
use Rattle.dali_base.specs.NameList.{knows, place_of}
use Rattle.dali_base.specs.Readers.{same_bytes}
use Rattle.dali_account.specs.declared.net.Move.{Move}
use Rattle.dali_account.specs.Book.{BookRecord}
use Rattle.dali_account.specs.Net.{pair_of}
use Rattle.dali_account.specs.Units.{PairKey, pair_cmp, units_of}
use Rattle.dali_account.proofs.SumLemmas.{same_name_is, same_name_refl, same_name_symm}
use Rattle.dali_account.proofs.UnitsLemmas.{pair_ties, same_pair, same_pair_is}
use Rattle.dali_problem.specs.declared.row.LineRow.{LineRow}
use Rattle.dali_problem.specs.Clearing.{Item, Clearing, no_item, no_line, item_at, balance, on_line}
use Rattle.dali_problem.specs.Clearing as clearing
use Rattle.dali_problem.specs.Feasible.{IsFeasible}
use Rattle.dali_problem.specs.Sums.{pick, sum_over}
use Rattle.dali_queue.specs.declared.instruction.Instruction.{Instruction}
use Rattle.dali_queue.specs.CycleProblem.{may_settle, groups_at, members_of, memberships, changed_by, line_of, effect_on, item_of_members, line_row, problem_of, places_from, chosen_of}
use Rattle.dali_queue.specs.Groups.{in_group, is_eligible}
use Rattle.dali_queue.specs.Instruction.{at_pair, effect}
use Rattle.dali_queue.specs.NetOf.{delta_of, items_at, net_of}
use Rattle.dali_queue.specs.Queue.{Queued, QueueRecord}
use Rattle.dali_queue.proofs.Grouping.{each_distinct, each_all, each_known, IsPlaceOf, place_found, sum_one, sum_swapped, sum_of_group, sum_of_set}
use Rattle.dali_queue.proofs.NetItems.{total, net_of_is}
use Rattle.dali_queue.proofs.PairOrder.{tied, tied_itself, tied_is, in_order_same, in_order_rises}

-- A feasible set of a cycle's problem leaves no balance of the book negative.

same_over : {X : Type 0} (f g : X → ℤ) (xs : List X) → AllByRecursion (λ x. f x ≡ g x) xs → sum_over f xs ≡ sum_over g xs
same_over f g [] h = refl
same_over f g (x ∷ xs) h = let rest = same_over f g xs h.1 in let first = h.0 in omega (arith, ints, rest, first)

tied_symm : (p r : PairKey) → tied p r ≡ tied r p
tied_symm p r = sym (pair_ties p r) ∙ ap (λ t. t && same_bytes p.1 r.1) (same_name_symm p.0 r.0) ∙ ap (λ t. same_bytes r.0 p.0 && t) (same_name_symm p.1 r.1) ∙ pair_ties r p

or_right : (a b : Bool) → b ≡ true → (a || b) ≡ true
or_right true b h = refl
or_right false b h = h

any_joined : {X Y : Type 0} (p : Y → Bool) (f : X → List Y) (xs : List X) (k : ℕ) (d : X) → k < length xs → list_any p (f (get_or xs k d)) ≡ true → list_any p (flat_map f xs) ≡ true
any_joined p f [] k d within h = absurd (omega (arith, within))
any_joined p f (x ∷ xs) zero d within h = list_any-append p (f x) (flat_map f xs) ∙ ap (λ b. b || list_any p (flat_map f xs)) h
any_joined p f (x ∷ xs) (suc k) d within h =
    list_any-append p (f x) (flat_map f xs) ∙ or_right (list_any p (f x)) (list_any p (flat_map f xs)) (any_joined p f xs k d (omega (arith, within)) h)

weaken : {X : Type 0} (P Q : X → Type 0) (xs : List X) → ((x : X) → P x → Q x) → AllByRecursion P xs → AllByRecursion Q xs
weaken P Q [] f h = tt
weaken P Q (x ∷ xs) f h = (f x h.0, weaken P Q xs f h.1)

-- each element passes a test that it passes itself
all_there : {X Y : Type 0} (test : Y → Y → Bool) (own : (y : Y) → test y y ≡ true) (key : X → Y) (xs : List X) → AllByRecursion (λ x. list_any (test (key x)) (map key xs) ≡ true) xs
all_there test own key [] = tt
all_there test own key (x ∷ xs) = (
  ap (λ b. b || list_any (test (key x)) (map key xs)) (own (key x)),
  weaken (λ y. list_any (test (key y)) (map key xs) ≡ true) (λ y. list_any (test (key y)) (key x ∷ map key xs) ≡ true) xs (λ y h. or_right (test (key y) (key x)) (list_any (test (key y)) (map key xs)) h) (all_there test own key xs),
)

sum_nothing : {X : Type 0} (f : X → ℤ) (xs : List X) → AllByRecursion (λ x. f x ≡ pos 0) xs → sum_over f xs ≡ pos 0
sum_nothing f [] h = refl
sum_nothing f (x ∷ xs) h = let rest = sum_nothing f xs h.1 in let first = h.0 in omega (arith, ints, rest, first)

-- the groups of the instructions that pass a test
groups_pass : (P : List ℕ → Bool) (ws : List Queued) → All (λ g. P g ≡ true) (map (λ w. w.group) (filter (λ w. P w.group) ws))
groups_pass P [] = All-nil (λ g. P g ≡ true)
groups_pass P (w ∷ ws) = by (P w.group) refl (groups_pass P ws)
  where
    by : (b : Bool) → P w.group ≡ b → All (λ g. P g ≡ true) (map (λ w. w.group) (filter (λ w. P w.group) ws)) →
        All (λ g. P g ≡ true) (map (λ (v : Queued). v.group) (cond b (w ∷ filter (λ w. P w.group) ws) (filter (λ w. P w.group) ws)))
    by true e rest = All-cons (λ g. P g ≡ true) w.group (map (λ w. w.group) (filter (λ w. P w.group) ws)) e rest
    by false e rest = rest

groups_there : (test : Queued → Bool) (ws : List Queued) → AllByRecursion (λ w. test w ≡ true → knows (map (λ w. w.group) (filter test ws)) w.group ≡ true) ws
groups_there test [] = tt
groups_there test (w ∷ ws) = by (test w) refl (groups_there test ws)
  where
    by : (b : Bool) → test w ≡ b → AllByRecursion (λ w. test w ≡ true → knows (map (λ (w : Queued). w.group) (filter test ws)) w.group ≡ true) ws →
        AllByRecursion (λ v. test v ≡ true → knows (map (λ (v : Queued). v.group) (cond b (w ∷ filter test ws) (filter test ws))) v.group ≡ true) (w ∷ ws)
    by true e rest = (
      λ h. ap (λ b. b || knows (map (λ (w : Queued). w.group) (filter test ws)) w.group) (same_name_refl w.group),
      weaken (λ v. test v ≡ true → knows (map (λ (w : Queued). w.group) (filter test ws)) v.group ≡ true) (λ v. test v ≡ true → knows (w.group ∷ map (λ (w : Queued). w.group) (filter test ws)) v.group ≡ true) ws
          (λ v k h. or_right (same_bytes v.group w.group) (knows (map (λ (w : Queued). w.group) (filter test ws)) v.group) (k h)) rest,
    )
    by false e rest = (λ h. absurd (true≢false (sym h ∙ e)), rest)

module _ (book : BookRecord) (q : QueueRecord) (t : ℕ) where
  abbrev gs : List (List ℕ)
  gs = groups_at q t

  abbrev names : List (List ℕ)
  names = map (λ (w : Queued). w.group) (filter (may_settle q t) q.waiting)

  abbrev pub number : Queued → ℕ
  number w = unwrap_or (place_of gs w.group) 0

  abbrev group : ℕ → List ℕ
  group j = get_or gs j []

  abbrev nets : List (List Move)
  nets = map net_of (memberships q t)

  abbrev pairs : List PairKey
  pairs = changed_by nets

  -- group j is the instruction's own exactly where j is its number
  tells_group : (w : Queued) (k : ℕ) → k < length gs → same_bytes w.group (group k) ≡ true → (j : ℕ) → j < length gs → in_group (group j) w ≡ eqb j k
  tells_group w k within own j fits = by (eqb j k) refl
    where
      is : w.group ≡ group k
      is = same_name_is w.group (group k) own

      by : (b : Bool) → eqb j k ≡ b → same_bytes (group j) w.group ≡ b
      by true e =
          let same : j ≡ k = grind (arith, nat_tests, e) in
          ap (λ i. same_bytes (group i) w.group) same ∙ same_name_symm (group k) w.group ∙ own
      by false e = ap (same_bytes (group j)) is ∙ apart (ltb j k) refl
        where
          apart : (b : Bool) → ltb j k ≡ b → same_bytes (group j) (group k) ≡ false
          apart true less = apart_from_distinct same_bytes gs j k [] (each_distinct names) (grind (arith, nat_tests, less)) within
          apart false less = same_name_symm (group j) (group k) ∙ apart_from_distinct same_bytes gs k j [] (each_distinct names) (grind (arith, nat_tests, less, e)) fits

  gs_eligible : All (λ g. is_eligible q t g ≡ true) gs
  gs_eligible = each_all (λ g. is_eligible q t g ≡ true) names (groups_pass (is_eligible q t) q.waiting)

  module _ (set : List ℕ) (rising : AllPairs (λ i j. i < j) set) (fits : All (λ j. j < length gs) set) where
    -- an instruction is of the set exactly where it is of one of the set's groups
    of_set : (x : ℤ) (w : Queued) → (may_settle q t w ≡ true → knows names w.group ≡ true) →
        pick (may_settle q t w && list_any (λ i. eqb i (number w)) set) x ≡ sum_over (λ j. pick (in_group (group j) w) x) set
    of_set x w known = by (may_settle q t w) refl
      where
        by : (b : Bool) → may_settle q t w ≡ b → pick (b && list_any (λ i. eqb i (number w)) set) x ≡ sum_over (λ j. pick (in_group (group j) w) x) set
        by true e =
            let found = place_found (same_bytes w.group) gs (each_known names w.group (known e)) in
            let k : ℕ = found.0 in
            let here : IsPlaceOf (same_bytes w.group) gs k = found.1 in
            ap (λ o. pick (list_any (λ i. eqb i (unwrap_or o 0)) set) x) here.is
            ∙ sym (sum_one x k (length gs) (λ j. in_group (group j) w) (tells_group w k here.within (here.passes [])) set rising fits)
        by false e = sym (sum_nothing (λ j. pick (in_group (group j) w) x) set (weaken (λ j. j < length gs) (λ j. pick (in_group (group j) w) x ≡ pos 0) set (λ j less. none j less) (recursion_from_All (λ j. j < length gs) set fits)))
          where
            none : (j : ℕ) → j < length gs → pick (in_group (group j) w) x ≡ pos 0
            none j less = ap (λ b. pick b x) (off (in_group (group j) w) refl)
              where
                off : (b : Bool) → in_group (group j) w ≡ b → b ≡ false
                off false told = refl
                off true told =
                    let own : may_settle q t w ≡ true = ap (is_eligible q t) (sym (same_name_is (group j) w.group told)) ∙ gs_eligible j [] less in
                    absurd (true≢false (sym own ∙ e))

    abbrev pub settled : List Instruction
    settled = items_at q.waiting (chosen_of set (places_from (may_settle q t) 0 q.waiting) (map number (filter (may_settle q t) q.waiting)))

    -- the sum over the instructions of a set is the sum over its groups
    pub set_sum : (f : Instruction → ℤ) → sum_over f settled ≡ sum_over (λ j. sum_over f (members_of q.waiting (group j))) set
    set_sum f =
        sum_of_set f q.waiting (may_settle q t) number set q.waiting 0 (λ j. ap (slice_get q.waiting) (omega arith))
        ∙ same_over (λ w. pick (may_settle q t w && list_any (λ i. eqb i (number w)) set) (f w.item)) (λ w. sum_over (λ j. pick (in_group (group j) w) (f w.item)) set) q.waiting
        (weaken (λ w. may_settle q t w ≡ true → knows names w.group ≡ true) (λ w. pick (may_settle q t w && list_any (λ i. eqb i (number w)) set) (f w.item) ≡ sum_over (λ j. pick (in_group (group j) w) (f w.item)) set) q.waiting
        (λ w known. of_set (f w.item) w known) (groups_there (may_settle q t) q.waiting))
        ∙ sum_swapped (λ w j. pick (in_group (group j) w) (f w.item)) q.waiting set
        ∙ same_over (λ j. sum_over (λ w. pick (in_group (group j) w) (f w.item)) q.waiting) (λ j. sum_over f (members_of q.waiting (group j))) set (each_group set)
      where
        each_group : (js : List ℕ) → AllByRecursion (λ j. sum_over (λ w. pick (in_group (group j) w) (f w.item)) q.waiting ≡ sum_over f (members_of q.waiting (group j))) js
        each_group [] = tt
        each_group (j ∷ js) = (sum_of_group f (group j) q.waiting, each_group js)

  -- the net of group j, whose pairs are among the lines'
  abbrev net : ℕ → List Move
  net j = net_of (members_of q.waiting (group j))

  net_there : (j : ℕ) → j < length gs → get_or nets j [] ≡ net j
  net_there j fits =
      get_or-map net_of (memberships q t) j [] [] (subst (λ n. j < n) (sym (length-map gs (members_of q.waiting))) fits)
      ∙ ap net_of (get_or-map (members_of q.waiting) gs j [] [] fits)

  net_pairs : (j : ℕ) → j < length gs → AllByRecursion (λ (m : Move). list_any (tied (pair_of m)) pairs ≡ true) (net j)
  net_pairs j fits = weaken (λ (m : Move). list_any (tied (pair_of m)) (map pair_of (net j)) ≡ true) (λ (m : Move). list_any (tied (pair_of m)) pairs ≡ true) (net j)
      (λ m there. in_order_same (flat_map (map pair_of) nets) (pair_of m) ∙ any_joined (tied (pair_of m)) (map pair_of) nets j []
      (subst (λ n. j < n) (sym (length-map (memberships q t) net_of ∙ length-map gs (members_of q.waiting))) fits)
      (ap (λ (ms : List Move). list_any (tied (pair_of m)) (map pair_of ms)) (net_there j fits) ∙ there))
      (all_there tied tied_itself pair_of (net j))

  pairs_apart : (k l : ℕ) (d : PairKey) → k < l → l < length pairs → tied (get_or pairs k d) (get_or pairs l d) ≡ false
  pairs_apart k l d less within = apart_from_distinct tied pairs k l d (IsDistinct-from_sorted pair_cmp pairs (in_order_rises (flat_map (map pair_of) nets))) less within

  -- an effect is on the line of its move's pair
  on_found : (l : ℕ) (pair : PairKey) → l < length pairs → get_or pairs l pair ≡ pair → (m : Move) (k : ℕ) → IsPlaceOf (same_pair (pair_of m)) pairs k → eqb (line_of pairs (pair_of m)) l ≡ same_pair (pair_of m) pair
  on_found l pair within is m k here = ap (λ o. eqb (unwrap_or o 0) l) here.is ∙ by (eqb k l) refl
    where
      by : (b : Bool) → eqb k l ≡ b → b ≡ same_pair (pair_of m) pair
      by true e =
          let same : k ≡ l = grind (arith, nat_tests, e) in
          sym (ap (same_pair (pair_of m)) (sym is ∙ ap (λ i. get_or pairs i pair) (sym same)) ∙ here.passes pair)
      by false e =
          let at_k : pair_of m ≡ get_or pairs k pair = same_pair_is (pair_of m) (get_or pairs k pair) (here.passes pair) in
          sym (ap (λ p. same_pair p pair) at_k ∙ ap (same_pair (get_or pairs k pair)) (sym is) ∙ pair_ties (get_or pairs k pair) (get_or pairs l pair) ∙ apart (ltb k l) refl)
        where
          apart : (b : Bool) → ltb k l ≡ b → tied (get_or pairs k pair) (get_or pairs l pair) ≡ false
          apart true less = pairs_apart k l pair (grind (arith, nat_tests, less)) within
          apart false less = tied_symm (get_or pairs k pair) (get_or pairs l pair) ∙ pairs_apart l k pair (grind (arith, nat_tests, less, e)) here.within

  on_pair : (l : ℕ) (pair : PairKey) → l < length pairs → get_or pairs l pair ≡ pair → (m : Move) → list_any (tied (pair_of m)) pairs ≡ true → eqb (line_of pairs (pair_of m)) l ≡ same_pair (pair_of m) pair
  on_pair l pair within is m there =
      let as_any : list_any (same_pair (pair_of m)) pairs ≡ true = ap (λ (f : PairKey → Bool). list_any f pairs) (λ i other. pair_ties (pair_of m) other i) ∙ there in
      let found = place_found (same_pair (pair_of m)) pairs as_any in
      on_found l pair within is m found.0 found.1

  effects_on : (l : ℕ) (pair : PairKey) → l < length pairs → get_or pairs l pair ≡ pair → (ms : List Move) → AllByRecursion (λ (m : Move). list_any (tied (pair_of m)) pairs ≡ true) ms →
      sum_over (on_line l) (map (effect_on pairs) ms) ≡ delta_of ms pair
  effects_on l pair within is [] there = refl
  effects_on l pair within is (m ∷ ms) there =
      let rest = effects_on l pair within is ms there.1 in
      let first : pick (eqb (line_of pairs (pair_of m)) l) m.delta ≡ at_pair m.account m.asset m.delta pair = ap (λ b. pick b m.delta) (on_pair l pair within is m there.0) in
      omega (arith, ints, rest, first)

  item_is : (j : ℕ) → j < length gs → item_at (problem_of book q t) j ≡ item_of_members pairs (members_of q.waiting (group j))
  unfolding problem_of
  item_is j fits =
      get_or-map (item_of_members pairs) (memberships q t) j [] no_item (subst (λ n. j < n) (sym (length-map gs (members_of q.waiting))) fits)
      ∙ ap (item_of_members pairs) (get_or-map (members_of q.waiting) gs j [] [] fits)

  effect_is : (j l : ℕ) (pair : PairKey) → j < length gs → l < length pairs → get_or pairs l pair ≡ pair → clearing.effect (problem_of book q t) j l ≡ total (members_of q.waiting (group j)) pair
  effect_is j l pair fits within is =
      ap (λ (i : Item). sum_over (on_line l) i.effects) (item_is j fits)
      ∙ effects_on l pair within is (net j) (net_pairs j fits)
      ∙ (net_of_is (members_of q.waiting (group j))).deltas pair

  lines_are : length (problem_of book q t).lines ≡ length pairs
  unfolding problem_of
  lines_are = length-map pairs (line_row book)

  balance_is : (l : ℕ) (pair : PairKey) → l < length pairs → get_or pairs l pair ≡ pair → balance (problem_of book q t) l ≡ pos (units_of book.balances pair)
  unfolding problem_of
  balance_is l pair within is = ap (λ (r : LineRow). pos r.balance) (get_or-map (line_row book) pairs l pair no_line within ∙ ap (line_row book) is)

  -- a pair of no line is changed by no group
  not_changed : (pair : PairKey) → list_any (tied pair) pairs ≡ false → (ms : List Move) → AllByRecursion (λ (m : Move). list_any (tied (pair_of m)) pairs ≡ true) ms → delta_of ms pair ≡ pos 0
  not_changed pair none [] there = refl
  not_changed pair none (m ∷ ms) there =
      let rest = not_changed pair none ms there.1 in
      let first : at_pair m.account m.asset m.delta pair ≡ pos 0 = ap (λ b. pick b m.delta) (off (same_pair (pair_of m) pair) refl) in
      omega (arith, ints, rest, first)
    where
      off : (b : Bool) → same_pair (pair_of m) pair ≡ b → b ≡ false
      off false told = refl
      off true told = absurd (true≢false (sym there.0 ∙ ap (λ p. list_any (tied p) pairs) (same_pair_is (pair_of m) pair told) ∙ none))

  pub items_are : length (problem_of book q t).items ≡ length gs
  unfolding problem_of
  items_are = length-map (memberships q t) (item_of_members pairs) ∙ length-map gs (members_of q.waiting)

  module _ (set : List ℕ) (rising : AllPairs (λ i j. i < j) set) (fits : All (λ j. j < length gs) set) (feasible : IsFeasible (problem_of book q t) set) (pair : PairKey) where
    by_groups : total (settled set rising fits) pair ≡ sum_over (λ j. total (members_of q.waiting (group j)) pair) set
    by_groups = set_sum set rising fits (λ i. effect i pair)

    on_line_of : (l : ℕ) → IsPlaceOf (tied pair) pairs l → pos 0 ≤ℤ (pos (units_of book.balances pair) +ℤ total (settled set rising fits) pair)
    on_line_of l here =
        let is : get_or pairs l pair ≡ pair = sym (tied_is pair (get_or pairs l pair) (here.passes pair)) in
        let enough = feasible.covered l (subst (λ n. l < n) (sym lines_are) here.within) in
        let before = balance_is l pair here.within is in
        let same : sum_over (λ j. clearing.effect (problem_of book q t) j l) set ≡ sum_over (λ j. total (members_of q.waiting (group j)) pair) set = same_over (λ j. clearing.effect (problem_of book q t) j l) (λ j. total (members_of q.waiting (group j)) pair) set
        (weaken (λ j. j < length gs) (λ j. clearing.effect (problem_of book q t) j l ≡ total (members_of q.waiting (group j)) pair) set (λ j less. effect_is j l pair less here.within is) (recursion_from_All (λ j. j < length gs) set fits)) in
        let all = by_groups in
        omega (arith, ints, enough, before, same, all)

    -- no balance becomes negative by a feasible set
    pub none_negative : pos 0 ≤ℤ (pos (units_of book.balances pair) +ℤ total (settled set rising fits) pair)
    none_negative = by (list_any (tied pair) pairs) refl
      where
        by : (b : Bool) → list_any (tied pair) pairs ≡ b → pos 0 ≤ℤ (pos (units_of book.balances pair) +ℤ total (settled set rising fits) pair)
        by true there = let found = place_found (tied pair) pairs there in on_line_of found.0 found.1
        by false none =
            let nothing : sum_over (λ j. total (members_of q.waiting (group j)) pair) set ≡ pos 0 = sum_nothing (λ j. total (members_of q.waiting (group j)) pair) set
            (weaken (λ j. j < length gs) (λ j. total (members_of q.waiting (group j)) pair ≡ pos 0) set
            (λ j less. sym ((net_of_is (members_of q.waiting (group j))).deltas pair) ∙ not_changed pair none (net j) (net_pairs j less)) (recursion_from_All (λ j. j < length gs) set fits)) in
            let all = by_groups in
            omega (arith, ints, nothing, all)
