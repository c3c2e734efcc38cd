use Rattle.std.proofs.Common.{◌≡◌, ◌≢◌, ℕ, suc, ◌+◌, ◌*◌, ◌^◌, ◌<◌, ◌≤◌, ℤ, pos, ◌+ℤ◌, Bool, true, false, cond, T, ◌&&◌, ◌||◌, List, [], ◌∷◌, length, map, get_or, Option, Some, None, is_some, refl, sym, ap, ◌∙◌, subst, arith, true≢false}
use Rattle.std.specs.Prelude.{unwrap_or, position, flat_map, sum_by}
use Rattle.std.specs.FinMap.Entries.{is_sorted, below_all, find, same_entries}
use Rattle.std.specs.List.{AllPairs, AllByRecursion, IsDistinct, list_any}
use Rattle.std.specs.List.Sorted.{IsStrictlySortedBy, IsSorted}
use Rattle.std.specs.Option.{option_map}
use Rattle.std.specs.Ordering.{is_lt, is_eq, int_eq, ordering_reverse}
use Rattle.std.specs.declared.cmp.Ordering.{Ordering}
use Rattle.std.specs.declared.cmp.Ordering.TheVariants.{Less, Equal, Greater}
use Rattle.std.proofs.lemmas.Cmp.{eq_by_cmp_equiv}
use Rattle.std.proofs.lemmas.Int.{ints}
use Rattle.std.proofs.lemmas.List.{length-map}
use Rattle.std.proofs.lemmas.List.Concat.{length-flat_map}
use Rattle.std.proofs.lemmas.List.Elements.{All-from_recursion, All-map}
use Rattle.std.proofs.lemmas.List.Sums.{sum_by-cons}
use Rattle.std.proofs.lemmas.List.Kept.{AllPairs-cons}
use Rattle.std.proofs.lemmas.Map.Keys.{IsDistinct-from_sorted, apart_from_distinct, sorted_from_all_adjacent, sorted_head, sorted_tail}
use Rattle.std.proofs.lemmas.Map.Made.{length-le_from_is_member}
use Rattle.dali_account.specs.declared.net.Move.{Move}
use Rattle.dali_account.specs.Book.{cash}
use Rattle.dali_account.specs.Net.{pair_of}
use Rattle.dali_account.specs.Units.{PairKey, pair_cmp}
use Rattle.dali_account.proofs.SumLemmas.{same_name_is, same_name_symm, and_false}
use Rattle.dali_account.proofs.UnitsLemmas.{same_pair, pair_total, pair_antisymmetric, pair_ties}
use Rattle.dali_base.specs.declared.kind.Kind.{Kind}
use Rattle.dali_base.specs.declared.kind.Kind.TheVariants.{Dvp, Fop, Pay}
use Rattle.dali_base.specs.Readers.{same_bytes}
use Rattle.dali_problem.specs.declared.row.Effect.{Effect}
use Rattle.dali_problem.specs.Limits.{Within, AreEffects}
use Rattle.dali_problem.specs.Sums.{pick}
use Rattle.dali_queue.specs.declared.instruction.Instruction.{Instruction}
use Rattle.dali_queue.specs.Instruction.{IsInstruction, IsCash, is_payment, at_pair, moved, effect, changed_pairs}
use Rattle.dali_queue.specs.NetOf.{moves_at, in_order, all_changed_pairs, net_of}
use Rattle.dali_queue.specs.CycleProblem.{line_of, effect_on}
use Rattle.dali_queue.proofs.NetLemmas.{moved_within, moved_none, cash_fits}
use Rattle.dali_queue.proofs.NetItems.{total, net_of_is, net_of_all}
use Rattle.dali_queue.proofs.NameLemmas.{position_yes, position_no}
use Rattle.dali_queue.proofs.PairOrder.{tied, tied_itself, tied_is, in_order_same, in_order_rises}

-- two rising lists of the same pairs are equal
abbrev unit_entry : PairKey → PairKey × Unit {0}
unit_entry p = (p, tt)

below_is : (x : PairKey) (ps : List PairKey) → AllByRecursion (λ q. pair_cmp x q ≡ Less) ps → below_all pair_cmp x (map unit_entry ps) ≡ true
below_is x [] h = refl
below_is x (p ∷ ps) h = ap (λ o. is_lt o && below_all pair_cmp x (map unit_entry ps)) h.0 ∙ below_is x ps h.1

sorted_is : (ps : List PairKey) → IsStrictlySortedBy pair_cmp ps → is_sorted pair_cmp (map unit_entry ps) ≡ true
unfolding IsStrictlySortedBy
sorted_is [] h = refl
sorted_is (p ∷ ps) h = ap (λ b. b && is_sorted pair_cmp (map unit_entry ps)) (below_is p ps h.0) ∙ sorted_is ps h.1

found_in : (q : PairKey) (ps : List PairKey) → find pair_cmp q (map unit_entry ps) ≡ cond (list_any (tied q) ps) (Some (tt {0})) None
found_in q [] = refl
found_in q (p ∷ ps) = by (tied q p) (found_in q ps)
  where
    by : (b : Bool) → find pair_cmp q (map unit_entry ps) ≡ cond (list_any (tied q) ps) (Some (tt {0})) None →
        cond b (Some (tt {0})) (find pair_cmp q (map unit_entry ps)) ≡ cond (b || list_any (tied q) ps) (Some (tt {0})) None
    by true rest = refl
    by false rest = rest

firsts : (ps : List PairKey) → map (λ (e : PairKey × Unit {0}). e.0) (map unit_entry ps) ≡ ps
firsts [] = refl
firsts (p ∷ ps) = ap (λ qs. p ∷ qs) (firsts ps)

pub same_rising : (ps qs : List PairKey) → IsStrictlySortedBy pair_cmp ps → IsStrictlySortedBy pair_cmp qs → ((q : PairKey) → list_any (tied q) ps ≡ list_any (tied q) qs) → ps ≡ qs
same_rising ps qs one two same =
    sym (firsts ps)
    ∙ ap (map (λ (e : PairKey × Unit {0}). e.0)) (same_entries pair_cmp pair_total pair_antisymmetric (map unit_entry ps) (map unit_entry qs)
    (subst T (sym (sorted_is ps one)) tt) (subst T (sym (sorted_is qs two)) tt)
    (λ q. found_in q ps ∙ ap (λ b. cond b (Some (tt {0})) None) (same q) ∙ sym (found_in q qs)))
    ∙ firsts qs

-- pairs that are sorted and differ rise
strictly : (p q : PairKey) → is_lt (pair_cmp q p) ≡ false → same_pair p q ≡ false → pair_cmp p q ≡ Less
strictly p q sorted apart = by (pair_cmp p q) refl
  where
    by : (o : Ordering) → pair_cmp p q ≡ o → o ≡ Less
    by Less e = refl
    by Equal e = absurd (true≢false (sym (pair_ties p q ∙ ap is_eq e) ∙ apart))
    by Greater e = absurd (true≢false (sym (ap is_lt (pair_total.antisymm q p ∙ ap ordering_reverse e)) ∙ sorted))

pub rising_keys : (ps : List PairKey) → IsSorted pair_cmp ps → IsDistinct same_pair ps → IsStrictlySortedBy pair_cmp ps
rising_keys ps sorted distinct = sorted_from_all_adjacent pair_total ps ([], []) (λ k within.
    strictly (get_or ps k ([], [])) (get_or ps (k + 1) ([], [])) (sorted k ([], []) (omega arith) within)
    (apart_from_distinct same_pair ps k (k + 1) ([], []) distinct (omega arith) within))

-- in order they are no more
pub in_order_length : (ps : List PairKey) → length (in_order ps) ≤ length ps
in_order_length ps = length-le_from_is_member (eq_by_cmp_equiv pair_total) (in_order ps) ps (IsDistinct-from_sorted pair_cmp (in_order ps) (in_order_rises ps)) (λ q e. sym (in_order_same ps q) ∙ e)

moves_length : (f : PairKey → ℤ) (ps : List PairKey) → length (moves_at f ps) ≤ length ps
moves_length f [] = omega arith
moves_length f (p ∷ ps) = by (int_eq (f p) (pos 0)) (moves_length f ps)
  where
    by : (b : Bool) → length (moves_at f ps) ≤ length ps → length (cond b (moves_at f ps) (record { account = p.0; asset = p.1; delta = f p } ∷ moves_at f ps)) ≤ suc (length ps)
    by true rest = omega (arith, rest)
    by false rest = omega (arith, rest)

pub sum_const : (items : List Instruction) → sum_by (λ (i : Instruction). 4) items ≡ length items * 4
sum_const [] = refl
sum_const (i ∷ items) = omega (arith, sum_by-cons (λ (j : Instruction). 4) i items, sum_const items)

-- four pairs for each instruction
pub net_of_length : (items : List Instruction) → length (net_of items) ≤ sum_by (λ (i : Instruction). 4) items
unfolding net_of
net_of_length items =
    let one = moves_length (total items) (all_changed_pairs items) in
    let two = in_order_length (flat_map changed_pairs items) in
    let three : length (flat_map changed_pairs items) ≡ sum_by (λ (i : Instruction). 4) items = length-flat_map changed_pairs items in
    omega (arith, one, two, three)

-- the number of a pair's line
some_position : {X : Type 0} (p : X → Bool) (xs : List X) → is_some (position p xs) ≡ list_any p xs
some_position p [] = refl
some_position p (x ∷ xs) = by (p x) refl (some_position p xs)
  where
    kept : (o : Option ℕ) → is_some (option_map (λ k. suc k) o) ≡ is_some o
    kept None = refl
    kept (Some k) = refl

    by : (b : Bool) → p x ≡ b → is_some (position p xs) ≡ list_any p xs → is_some (position p (x ∷ xs)) ≡ (b || list_any p xs)
    by true e rest = ap is_some (position_yes p x xs e)
    by false e rest = ap is_some (position_no p x xs e) ∙ kept (position p xs) ∙ rest

next : (o : Option ℕ) → is_some o ≡ true → unwrap_or (option_map (λ k. suc k) o) 0 ≡ suc (unwrap_or o 0)
next None e = absurd (true≢false (sym e))
next (Some k) e = refl

tested : (q : PairKey) (ps : List PairKey) → list_any (same_pair q) ps ≡ list_any (tied q) ps
tested q [] = refl
tested q (p ∷ ps) = ap (λ b. b || list_any (same_pair q) ps) (pair_ties q p) ∙ ap (λ b. tied q p || b) (tested q ps)

pub tested_alike : (q : PairKey) (ps : List PairKey) → list_any (same_pair q) ps ≡ list_any (tied q) ps
tested_alike = tested

line_first : (q p : PairKey) (ps : List PairKey) → tied q p ≡ true → line_of (p ∷ ps) q ≡ 0
line_first q p ps e = ap (λ o. unwrap_or o 0) (position_yes (same_pair q) p ps (pair_ties q p ∙ e))

line_next : (q p : PairKey) (ps : List PairKey) → tied q p ≡ false → list_any (tied q) ps ≡ true → line_of (p ∷ ps) q ≡ suc (line_of ps q)
line_next q p ps e known = ap (λ o. unwrap_or o 0) (position_no (same_pair q) p ps (pair_ties q p ∙ e)) ∙ next (position (same_pair q) ps) (some_position (same_pair q) ps ∙ tested q ps ∙ known)

later : (q p : PairKey) (ps : List PairKey) → tied q p ≡ false → list_any (tied q) (p ∷ ps) ≡ true → list_any (tied q) ps ≡ true
later q p ps e known = sym (ap (λ b. b || list_any (tied q) ps) e) ∙ known

pub line_within : (ps : List PairKey) (q : PairKey) → list_any (tied q) ps ≡ true → line_of ps q < length ps
line_within [] q known = absurd (true≢false (sym known))
line_within (p ∷ ps) q known = by (tied q p) refl (line_within ps q)
  where
    by : (b : Bool) → tied q p ≡ b → (list_any (tied q) ps ≡ true → line_of ps q < length ps) → line_of (p ∷ ps) q < suc (length ps)
    by true e rest = let is = line_first q p ps e in omega (arith, is)
    by false e rest =
        let is = line_next q p ps e (later q p ps e known) in
        let less = rest (later q p ps e known) in
        omega (arith, is, less)

-- each of the pairs after a first one comes after it
all_after : (x : PairKey) (ps : List PairKey) → AllByRecursion (λ y. pair_cmp x y ≡ Less) ps → (q : PairKey) → list_any (tied q) ps ≡ true → pair_cmp x q ≡ Less
all_after x [] all q known = absurd (true≢false (sym known))
all_after x (p ∷ ps) all q known = by (tied q p) refl (all_after x ps all.1 q)
  where
    by : (b : Bool) → tied q p ≡ b → (list_any (tied q) ps ≡ true → pair_cmp x q ≡ Less) → pair_cmp x q ≡ Less
    by true e rest = ap (pair_cmp x) (tied_is q p e) ∙ all.0
    by false e rest = rest (later q p ps e known)

not_both : (p q : PairKey) → pair_cmp p q ≡ Less → pair_cmp q p ≡ Less → ⊥
not_both p q one two = true≢false (sym (ap is_lt one) ∙ ap is_lt (pair_total.antisymm p q ∙ ap ordering_reverse two))

apart_before : (p q : PairKey) → pair_cmp p q ≡ Less → tied p q ≡ false
apart_before p q less = ap is_eq less

-- lines rise as their pairs do
pub line_less : (ps : List PairKey) (p q : PairKey) → IsStrictlySortedBy pair_cmp ps → list_any (tied p) ps ≡ true → list_any (tied q) ps ≡ true → pair_cmp p q ≡ Less → line_of ps p < line_of ps q
line_less [] p q sorted one two less = absurd (true≢false (sym one))
line_less (x ∷ xs) p q sorted one two less = by (tied p x) (tied q x) refl refl (line_less xs p q (sorted_tail pair_cmp x xs sorted))
  where
    after : (r : PairKey) → tied r x ≡ false → list_any (tied r) (x ∷ xs) ≡ true → pair_cmp x r ≡ Less
    after r apart known = all_after x xs (sorted_head pair_cmp x xs sorted) r (later r x xs apart known)

    by : (a b : Bool) → tied p x ≡ a → tied q x ≡ b → (list_any (tied p) xs ≡ true → list_any (tied q) xs ≡ true → pair_cmp p q ≡ Less → line_of xs p < line_of xs q) → line_of (x ∷ xs) p < line_of (x ∷ xs) q
    by true true e f rest = absurd (true≢false (sym (tied_itself p) ∙ ap (tied p) (tied_is p x e ∙ sym (tied_is q x f)) ∙ apart_before p q less))
    by true false e f rest =
        let first = line_first p x xs e in
        let second = line_next q x xs f (later q x xs f two) in
        omega (arith, first, second)
    by false true e f rest = absurd (not_both p q less (ap (λ r. pair_cmp r p) (tied_is q x f) ∙ after p e one))
    by false false e f rest =
        let first = line_next p x xs e (later p x xs e one) in
        let second = line_next q x xs f (later q x xs f two) in
        let lower = rest (later p x xs e one) (later q x xs f two) less in
        omega (arith, first, second, lower)

-- what an instruction changes a pair by is at most 10^15 in size: its code and cash are two assets
moved_elsewhere : (n : ℕ) (asset giver taker : List ℕ) (pair : PairKey) → same_bytes asset pair.1 ≡ false → moved n asset giver taker pair ≡ pos 0
unfolding moved
moved_elsewhere n asset giver taker pair apart =
    let one : at_pair taker asset (pos n) pair ≡ pos 0 = ap (λ b. pick b (pos n)) (and_false (same_bytes taker pair.0) (same_bytes asset pair.1) apart) in
    let two : at_pair giver asset (pos n) pair ≡ pos 0 = ap (λ b. pick b (pos n)) (and_false (same_bytes giver pair.0) (same_bytes asset pair.1) apart) in
    omega (arith, ints, one, two)

pub effect_small : (i : Instruction) (pair : PairKey) → IsInstruction i → Within 1000000000000000 (effect i pair)
unfolding effect
effect_small i pair kept = by (same_bytes i.code pair.1) refl
  where
    one : Within 1000000000000000 (moved i.quantity i.code i.giver i.taker pair)
    one = moved_within i.quantity i.code i.giver i.taker pair kept.quantity.to_most

    two : Within 1000000000000000 (moved i.cash cash i.taker i.giver pair)
    two = moved_within i.cash cash i.taker i.giver pair (cash_fits i.kind i.cash kept.cash)

    none : (k : Kind) → IsCash k i.cash → same_bytes i.code cash ≡ is_payment k → same_bytes i.code pair.1 ≡ true → moved i.cash cash i.taker i.giver pair ≡ pos 0
    none Dvp is code e = moved_elsewhere i.cash cash i.taker i.giver pair (same_name_symm cash pair.1 ∙ ap (λ a. same_bytes a cash) (sym (same_name_is i.code pair.1 e)) ∙ code)
    none Fop is code e = ap (λ n. moved n cash i.taker i.giver pair) is ∙ moved_none cash i.taker i.giver pair
    none Pay is code e = ap (λ n. moved n cash i.taker i.giver pair) is ∙ moved_none cash i.taker i.giver pair

    by : (b : Bool) → same_bytes i.code pair.1 ≡ b → Within 1000000000000000 (moved i.quantity i.code i.giver i.taker pair +ℤ moved i.cash cash i.taker i.giver pair)
    by true e =
        let zero_cash = none i.kind kept.cash kept.code e in
        record { low = omega (arith, ints, one.low, zero_cash); high = omega (arith, ints, one.high, zero_cash) }
    by false e =
        let zero_code = moved_elsewhere i.quantity i.code i.giver i.taker pair e in
        record { low = omega (arith, ints, two.low, zero_code); high = omega (arith, ints, two.high, zero_code) }

pub total_small : (items : List Instruction) (pair : PairKey) → AllByRecursion IsInstruction items → Within (length items * 1000000000000000) (total items pair)
total_small [] pair all = record { low = omega (arith, ints); high = omega (arith, ints) }
total_small (i ∷ items) pair all =
    let first = effect_small i pair all.0 in
    let rest = total_small items pair all.1 in
    let size : suc (length items) * 1000000000000000 ≡ length items * 1000000000000000 + 1000000000000000 = omega arith in
    record { low = omega (arith, ints, first.low, rest.low, size); high = omega (arith, ints, first.high, rest.high, size) }

-- the effects of a net whose pairs all have lines
abbrev pub HasLine : List PairKey → Move → Type 0
HasLine ps m = list_any (tied (pair_of m)) ps ≡ true

module _ (ps : List PairKey) (sorted : IsStrictlySortedBy pair_cmp ps) where
  lines_after : (m : Move) (ms : List Move) → HasLine ps m → AllByRecursion (HasLine ps) ms → AllByRecursion (λ y. pair_cmp (pair_of m) y ≡ Less) (map pair_of ms) → AllByRecursion (λ (e : Effect). line_of ps (pair_of m) < e.line) (map (effect_on ps) ms)
  lines_after m [] here there after = tt
  lines_after m (n ∷ ms) here there after = (line_less ps (pair_of m) (pair_of n) sorted here there.0 after.0, lines_after m ms here there.1 after.1)

  effects_rise : (ms : List Move) → IsStrictlySortedBy pair_cmp (map pair_of ms) → AllByRecursion (HasLine ps) ms → AllPairs (λ (a b : Effect). a.line < b.line) (map (effect_on ps) ms)
  effects_rise [] rising there = λ i j d less within. absurd (omega (arith, within))
  effects_rise (m ∷ ms) rising there =
      AllPairs-cons (λ (a b : Effect). a.line < b.line) (effect_on ps m) (map (effect_on ps) ms)
      (All-from_recursion (λ (e : Effect). line_of ps (pair_of m) < e.line) (map (effect_on ps) ms) (lines_after m ms there.0 there.1 (sorted_head pair_cmp (pair_of m) (map pair_of ms) rising)))
      (effects_rise ms (sorted_tail pair_cmp (pair_of m) (map pair_of ms) rising) there.1)

  effects_within : (ms : List Move) → AllByRecursion (HasLine ps) ms → AllByRecursion (λ (m : Move). line_of ps (pair_of m) < length ps) ms
  effects_within [] there = tt
  effects_within (m ∷ ms) there = (line_within ps (pair_of m) there.0, effects_within ms there.1)

  pub effects_fit : (items : List Instruction) → length items ≤ 8 → AllByRecursion IsInstruction items → AllByRecursion (HasLine ps) (net_of items) → AreEffects (length ps) (map (effect_on ps) (net_of items))
  effects_fit items few all there =
      let is = net_of_is items in
      record {
        size = let most = net_of_length items in let fours_is = sum_const items in omega (arith, length-map (net_of items) (effect_on ps), most, fours_is, few);
        rising = effects_rise (net_of items) is.ordered.rising there;
        in_range = All-map (λ (e : Effect). e.line < length ps) (effect_on ps) (net_of items) (All-from_recursion (λ (m : Move). line_of ps (pair_of m) < length ps) (net_of items) (effects_within (net_of items) there));
        not_zero = All-map (λ (e : Effect). e.amount ≢ pos 0) (effect_on ps) (net_of items) is.ordered.moves;
        bounded = All-map (λ (e : Effect). Within (8 * 10 ^ 15) e.amount) (effect_on ps) (net_of items)
            (net_of_all (λ (m : Move). Within (8 * 10 ^ 15) m.delta) items (each (flat_map changed_pairs items)));
      }
    where
      small : (q : PairKey) → Within (8 * 10 ^ 15) (total items q)
      small q =
          let bound = total_small items q all in
          record { low = omega (arith, ints, bound.low, few); high = omega (arith, ints, bound.high, few) }

      each : (qs : List PairKey) → AllByRecursion (λ q. Within (8 * 10 ^ 15) (total items q)) qs
      each [] = tt
      each (q ∷ qs) = (small q, each qs)
