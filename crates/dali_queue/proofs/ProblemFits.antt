use Rattle.std.proofs.Common.{◌≡◌, ◌≢◌, ℕ, ◌*◌, ◌<◌, ◌≤◌, Bool, true, false, cond, ◌||◌, List, [], ◌∷◌, length, map, Some, refl, sym, ap, ◌∙◌, arith, true≢false}
use Rattle.std.specs.Prelude.{filter, flat_map, sum_by}
use Rattle.std.specs.List.{All, AllPairs, AllByRecursion, IsDistinct, list_any}
use Rattle.std.proofs.lemmas.List.{length-map}
use Rattle.std.proofs.Math.Nat.{mul-le-mul}
use Rattle.std.proofs.lemmas.List.Concat.{length-flat_map}
use Rattle.std.proofs.lemmas.List.Elements.{All-from_recursion, recursion_from_All}
use Rattle.std.proofs.lemmas.List.Folds.{list_any-append}
use Rattle.std.proofs.lemmas.List.Kept.{AllPairs-cons}
use Rattle.std.proofs.lemmas.List.Sums.{sum_by-cons, sum_by-le-sum_by, length-filter, count_by-le-length}
use Rattle.std.proofs.lemmas.Map.Keys.{IsDistinct-head, IsDistinct-tail}
use Rattle.dali_base.specs.Readers.{same_bytes}
use Rattle.dali_account.specs.declared.net.Move.{Move}
use Rattle.dali_account.specs.Book.{BookRecord}
use Rattle.dali_account.specs.Net.{pair_of}
use Rattle.dali_account.specs.Units.{PairKey}
use Rattle.dali_account.proofs.SumLemmas.{same_name_refl}
use Rattle.dali_problem.specs.Clearing.{Item}
use Rattle.dali_problem.specs.Limits.{IsItem}
use Rattle.dali_queue.specs.declared.draft.Draft.{Draft}
use Rattle.dali_queue.specs.declared.instruction.Instruction.{Instruction}
use Rattle.dali_queue.specs.Instruction.{IsInstruction, weight}
use Rattle.dali_queue.specs.Queue.{Queued, QueueRecord, id_of}
use Rattle.dali_queue.specs.Groups.{in_group, group_of}
use Rattle.dali_queue.specs.Limits.{IsQueue}
use Rattle.dali_queue.specs.NetOf.{net_of, items_at}
use Rattle.dali_queue.specs.CycleProblem.{may_settle, groups_at, members_of, memberships, first_id, changed_by, item_of_members, line_row, problem_of, places_from}
use Rattle.dali_queue.specs.Drafts.{draft_of, drafted_pairs, item_of_draft, drafted, AreItems}
use Rattle.dali_queue.specs.Eligible.{ArePlaces}
use Rattle.dali_queue.proofs.GroupSums.{sum_mapped, groups_apart, members_length, members_all, members_some, first_group}
use Rattle.dali_queue.proofs.LineLemmas.{HasLine, net_of_length, in_order_length, effects_fit}
use Rattle.dali_queue.proofs.NameLemmas.{listed_distinct, listed_length, listed_all}
use Rattle.dali_queue.proofs.PairOrder.{tied, tied_itself, in_order_same, in_order_rises}
use Rattle.dali_queue.proofs.PlaceLists.{places_are, items_placed}

-- what an instruction is counted for: 1 to 16 * 10^15
pub weight_from_one : (i : Instruction) → IsInstruction i → 1 ≤ weight i
weight_from_one i kept =
    let one = kept.value.from_one in
    let two = kept.rank_low in
    grind (arith, one, two)

pub weight_most : (i : Instruction) → IsInstruction i → weight i ≤ 16000000000000000
weight_most i kept =
    let one = kept.value.to_most in
    let two = kept.rank_high in
    at_most i.value i.rank one two
  where
    at_most : (v r : ℕ) → v ≤ 1000000000000000 → r ≤ 16 → v * r ≤ 16000000000000000
    at_most v r one two = let e : v * r ≤ 1000000000000000 * 16 = mul-le-mul one two in omega (arith, e)

pub weights_most : (items : List Instruction) → AllByRecursion IsInstruction items → sum_by weight items ≤ length items * 16000000000000000
weights_most [] all = omega arith
weights_most (i ∷ items) all =
    let first = weight_most i all.0 in
    let rest = weights_most items all.1 in
    omega (arith, sum_by-cons weight i items, first, rest)

weights_from_one : (items : List Instruction) → AllByRecursion IsInstruction items → 0 < length items → 1 ≤ sum_by weight items
weights_from_one [] all some = absurd (omega (arith, some))
weights_from_one (i ∷ items) all some =
    let first = weight_from_one i all.0 in
    omega (arith, sum_by-cons weight i items, first)

queue_weight : (ws : List Queued) → AllByRecursion (λ (w : Queued). IsInstruction w.item) ws → sum_by (λ (w : Queued). weight w.item) ws ≤ length ws * 16000000000000000
queue_weight [] all = omega arith
queue_weight (w ∷ ws) all =
    let first = weight_most w.item all.0 in
    let rest = queue_weight ws all.1 in
    omega (arith, sum_by-cons (λ (v : Queued). weight v.item) w ws, first, rest)

-- the moves of each net have lines among the pairs that the nets change
or_left : (a b : Bool) → a ≡ true → (a || b) ≡ true
or_left true b h = refl
or_left false b h = absurd (true≢false (sym h))

or_right : (a b : Bool) → b ≡ true → (a || b) ≡ true
or_right true b h = refl
or_right false b h = h

module _ (ps : List PairKey) where
  net_lines : (net : List Move) → ((q : PairKey) → list_any (tied q) (map pair_of net) ≡ true → list_any (tied q) ps ≡ true) → AllByRecursion (HasLine ps) net
  net_lines [] has = tt
  net_lines (m ∷ ms) has = (
    has (pair_of m) (or_left (tied (pair_of m) (pair_of m)) (list_any (tied (pair_of m)) (map pair_of ms)) (tied_itself (pair_of m))),
    net_lines ms (λ q e. has q (or_right (tied q (pair_of m)) (list_any (tied q) (map pair_of ms)) e)),
  )

  nets_lines : (nets : List (List Move)) → ((q : PairKey) → list_any (tied q) (flat_map (map pair_of) nets) ≡ true → list_any (tied q) ps ≡ true) → AllByRecursion (AllByRecursion (HasLine ps)) nets
  nets_lines [] has = tt
  nets_lines (net ∷ nets) has = (
    net_lines net (λ q e. has q (list_any-append (tied q) (map pair_of net) (flat_map (map pair_of) nets) ∙ or_left (list_any (tied q) (map pair_of net)) (list_any (tied q) (flat_map (map pair_of) nets)) e)),
    nets_lines nets (λ q e. has q (list_any-append (tied q) (map pair_of net) (flat_map (map pair_of) nets) ∙ or_right (list_any (tied q) (map pair_of net)) (list_any (tied q) (flat_map (map pair_of) nets)) e)),
  )

pub have_lines : (nets : List (List Move)) → AllByRecursion (AllByRecursion (HasLine (changed_by nets))) nets
have_lines nets = nets_lines (changed_by nets) nets (λ q e. in_order_same (flat_map (map pair_of) nets) q ∙ e)

unmapped : {X Y : Type 0} (P : Y → Type 0) (f : X → Y) (xs : List X) → AllByRecursion P (map f xs) → AllByRecursion (λ x. P (f x)) xs
unmapped P f [] all = tt
unmapped P f (x ∷ xs) all = (all.0, unmapped P f xs all.1)

mapped : {X Y : Type 0} (P : Y → Type 0) (f : X → Y) (xs : List X) → AllByRecursion (λ x. P (f x)) xs → AllByRecursion P (map f xs)
mapped P f [] all = tt
mapped P f (x ∷ xs) all = (all.0, mapped P f xs all.1)

pub both_all : {X : Type 0} (P Q R : X → Type 0) → ((x : X) → P x → Q x → R x) → (xs : List X) → AllByRecursion P xs → AllByRecursion Q xs → AllByRecursion R xs
both_all P Q R h [] p q = tt
both_all P Q R h (x ∷ xs) p q = (h x p.0 q.0, both_all P Q R h xs p.1 q.1)

-- some groups of a queue, each once and none without instructions
module _ (ws : List Queued) (gs : List (List ℕ)) (distinct : IsDistinct same_bytes gs) (some : AllByRecursion (λ g. list_any (in_group g) ws ≡ true) gs) (few_groups : length gs ≤ 1024)
    (few : length ws ≤ 1024) (all : AllByRecursion (λ (w : Queued). IsInstruction w.item) ws) (ids : IsDistinct same_bytes (map id_of ws)) (linked : (g : List ℕ) → length (members_of ws g) ≤ 8) where
  abbrev pub mss : List (List Instruction)
  mss = map (members_of ws) gs

  abbrev pub pairs : List PairKey
  pairs = changed_by (map net_of mss)

  item_fits : (g : List ℕ) → list_any (in_group g) ws ≡ true → AllByRecursion (HasLine pairs) (net_of (members_of ws g)) → IsItem (length pairs) (item_of_members pairs (members_of ws g))
  item_fits g there lines =
      let items = members_of ws g in
      let kept = members_all IsInstruction ws g all in
      let eight = linked g in
      let low = weights_from_one items kept (members_some ws g there) in
      let high = weights_most items kept in
      record {
        value_low = low;
        value_high = omega (arith, high, eight);
        effects = effects_fit pairs (in_order_rises (flat_map (map pair_of) (map net_of mss))) items eight kept lines;
      }

  each_fits : AllByRecursion (λ g. IsItem (length pairs) (item_of_members pairs (members_of ws g))) gs
  each_fits = both_all (λ g. list_any (in_group g) ws ≡ true) (λ g. AllByRecursion (HasLine pairs) (net_of (members_of ws g))) (λ g. IsItem (length pairs) (item_of_members pairs (members_of ws g)))
      item_fits gs some (unmapped (λ items. AllByRecursion (HasLine pairs) (net_of items)) (members_of ws) gs (unmapped (AllByRecursion (HasLine pairs)) net_of mss (have_lines (map net_of mss))))

  -- two groups have two ids
  ids_apart : (g h : List ℕ) → list_any (in_group g) ws ≡ true → list_any (in_group h) ws ≡ true → same_bytes g h ≡ false → first_id (members_of ws g) ≢ first_id (members_of ws h)
  ids_apart g h one two apart same =
      let is : Some g ≡ Some h = sym (first_group ws g ids one) ∙ ap (group_of ws) same ∙ first_group ws h ids two in
      let names : g ≡ h = cc in
      true≢false (sym (ap (same_bytes g) (sym names) ∙ same_name_refl g) ∙ apart)

  ids_differ : (qs : List PairKey) (hs : List (List ℕ)) → IsDistinct same_bytes hs → AllByRecursion (λ g. list_any (in_group g) ws ≡ true) hs →
      AllPairs (λ (a b : Item). a.id ≢ b.id) (map (item_of_members qs) (map (members_of ws) hs))
  ids_differ qs [] apart there = λ i j d less within. absurd (omega (arith, within))
  ids_differ qs (h ∷ hs) apart there =
      AllPairs-cons (λ (a b : Item). a.id ≢ b.id) (item_of_members qs (members_of ws h)) (map (item_of_members qs) (map (members_of ws) hs))
      (All-from_recursion (λ (b : Item). first_id (members_of ws h) ≢ b.id) (map (item_of_members qs) (map (members_of ws) hs)) (others hs (IsDistinct-head same_bytes h hs apart) there.1))
      (ids_differ qs hs (IsDistinct-tail same_bytes h hs apart) there.1)
    where
      others : (ks : List (List ℕ)) → AllByRecursion (λ k. same_bytes h k ≡ false) ks → AllByRecursion (λ g. list_any (in_group g) ws ≡ true) ks →
          AllByRecursion (λ (b : Item). first_id (members_of ws h) ≢ b.id) (map (item_of_members qs) (map (members_of ws) ks))
      others [] differ known = tt
      others (k ∷ ks) differ known = (ids_apart h k there.0 known.0 differ.0, others ks differ.1 known.1)

  pub lines_fit : length pairs ≤ 4096
  lines_fit =
      let one = in_order_length (flat_map (map pair_of) (map net_of mss)) in
      let two : length (flat_map (map pair_of) (map net_of mss)) ≡ sum_by (λ (net : List Move). length (map pair_of net)) (map net_of mss) = length-flat_map (map pair_of) (map net_of mss) in
      let three : sum_by (λ (net : List Move). length (map pair_of net)) (map net_of mss) ≡ sum_by (λ (items : List Instruction). length (map pair_of (net_of items))) mss = sum_mapped (λ (net : List Move). length (map pair_of net)) net_of mss in
      let four : sum_by (λ (items : List Instruction). length (map pair_of (net_of items))) mss ≤ sum_by (λ (items : List Instruction). sum_by (λ (i : Instruction). 4) items) mss =
      sum_by-le-sum_by (λ (items : List Instruction). length (map pair_of (net_of items))) (λ (items : List Instruction). sum_by (λ (i : Instruction). 4) items) mss
      (λ items. let most = net_of_length items in omega (arith, length-map (net_of items) pair_of, most)) in
      let five : sum_by (λ (items : List Instruction). sum_by (λ (i : Instruction). 4) items) mss ≡ sum_by (λ g. sum_by (λ (i : Instruction). 4) (members_of ws g)) gs = sum_mapped (λ (items : List Instruction). sum_by (λ (i : Instruction). 4) items) (members_of ws) gs in
      let six = groups_apart (λ (i : Instruction). 4) gs distinct ws in
      let seven : sum_by (λ (w : Queued). 4) ws ≤ length ws * 4 = fours ws in
      omega (arith, one, two, three, four, five, six, seven, few)
    where
      fours : (vs : List Queued) → sum_by (λ (w : Queued). 4) vs ≤ length vs * 4
      fours [] = omega arith
      fours (v ∷ vs) = omega (arith, sum_by-cons (λ (w : Queued). 4) v vs, fours vs)

  pub items_fit : AreItems (length pairs) (map (item_of_members pairs) mss)
  items_fit = record {
    few = omega (arith, length-map mss (item_of_members pairs), length-map gs (members_of ws), few_groups);
    ids = ids_differ pairs gs distinct some;
    each = All-from_recursion (IsItem (length pairs)) (map (item_of_members pairs) mss) (mapped (IsItem (length pairs)) (item_of_members pairs) mss (mapped (λ items. IsItem (length pairs) (item_of_members pairs items)) (members_of ws) gs each_fits));
    total =
        let one : sum_by (λ (item : Item). item.value) (map (item_of_members pairs) mss) ≡ sum_by (λ (items : List Instruction). sum_by weight items) mss = sum_mapped (λ (item : Item). item.value) (item_of_members pairs) mss in
        let two : sum_by (λ (items : List Instruction). sum_by weight items) mss ≡ sum_by (λ g. sum_by weight (members_of ws g)) gs = sum_mapped (λ (items : List Instruction). sum_by weight items) (members_of ws) gs in
        let three = groups_apart weight gs distinct ws in
        let four = queue_weight ws all in
        omega (arith, one, two, three, four, few);
  }

  -- the places of their instructions
  pub places_fit : All (ArePlaces ws) (map (λ g. places_from (in_group g) 0 ws) gs)
  places_fit = All-from_recursion (ArePlaces ws) (map (λ g. places_from (in_group g) 0 ws) gs) (mapped (ArePlaces ws) (λ g. places_from (in_group g) 0 ws) gs (each gs some))
    where
      each : (hs : List (List ℕ)) → AllByRecursion (λ g. list_any (in_group g) ws ≡ true) hs → AllByRecursion (λ g. ArePlaces ws (places_from (in_group g) 0 ws)) hs
      each [] there = tt
      each (h ∷ hs) there = (places_are (in_group h) ws there.0, each hs there.1)

-- the groups of instructions that pass a test
groups_there : (p : Queued → Bool) (ws : List Queued) → AllByRecursion (λ g. list_any (in_group g) ws ≡ true) (map (λ (w : Queued). w.group) (filter p ws))
groups_there p [] = tt
groups_there p (w ∷ ws) = by (p w) (weaker (map (λ (v : Queued). v.group) (filter p ws)) (groups_there p ws))
  where
    weaker : (gs : List (List ℕ)) → AllByRecursion (λ g. list_any (in_group g) ws ≡ true) gs → AllByRecursion (λ g. list_any (in_group g) (w ∷ ws) ≡ true) gs
    weaker [] h = tt
    weaker (g ∷ gs) h = (or_right (in_group g w) (list_any (in_group g) ws) h.0, weaker gs h.1)

    by : (b : Bool) → AllByRecursion (λ g. list_any (in_group g) (w ∷ ws) ≡ true) (map (λ (v : Queued). v.group) (filter p ws)) →
        AllByRecursion (λ g. list_any (in_group g) (w ∷ ws) ≡ true) (map (λ (v : Queued). v.group) (cond b (w ∷ filter p ws) (filter p ws)))
    by true rest = (or_left (in_group w.group w) (list_any (in_group w.group) ws) (same_name_refl w.group), rest)
    by false rest = rest

-- the groups of a cycle
module _ (q : QueueRecord) (t : ℕ) (kept : IsQueue q) where
  groups_distinct : IsDistinct same_bytes (groups_at q t)
  groups_distinct = listed_distinct (map (λ (w : Queued). w.group) (filter (may_settle q t) q.waiting))

  groups_some : AllByRecursion (λ g. list_any (in_group g) q.waiting ≡ true) (groups_at q t)
  groups_some = listed_all (λ g. list_any (in_group g) q.waiting ≡ true) (map (λ (w : Queued). w.group) (filter (may_settle q t) q.waiting)) (groups_there (may_settle q t) q.waiting)

  groups_few : length (groups_at q t) ≤ 1024
  groups_few =
      let one = listed_length (map (λ (w : Queued). w.group) (filter (may_settle q t) q.waiting)) in
      let two = length-map (filter (may_settle q t) q.waiting) (λ (w : Queued). w.group) in
      let three = length-filter (may_settle q t) q.waiting in
      let four = count_by-le-length (may_settle q t) q.waiting in
      let few = kept.few in
      omega (arith, one, two, three, four, few)

  all_kept : AllByRecursion (λ (w : Queued). IsInstruction w.item) q.waiting
  all_kept = recursion_from_All (λ (w : Queued). IsInstruction w.item) q.waiting kept.items

  members_few : (g : List ℕ) → length (members_of q.waiting g) ≤ 8
  members_few g = let most = kept.linked g in omega (arith, members_length q.waiting g, most)

  pub cycle_lines : length (changed_by (map net_of (memberships q t))) ≤ 4096
  cycle_lines = lines_fit q.waiting (groups_at q t) groups_distinct groups_some groups_few kept.few all_kept kept.distinct members_few

  pub cycle_items : AreItems (length (changed_by (map net_of (memberships q t)))) (map (item_of_members (changed_by (map net_of (memberships q t)))) (memberships q t))
  cycle_items = items_fit q.waiting (groups_at q t) groups_distinct groups_some groups_few kept.few all_kept kept.distinct members_few

  pub cycle_places : All (ArePlaces q.waiting) (map (λ g. places_from (in_group g) 0 q.waiting) (groups_at q t))
  cycle_places = places_fit q.waiting (groups_at q t) groups_distinct groups_some groups_few kept.few all_kept kept.distinct members_few

-- drafts of the members of some groups
pub drafts_are : (ws : List Queued) (gs : List (List ℕ)) → map (λ places. draft_of (items_at ws places)) (map (λ g. places_from (in_group g) 0 ws) gs) ≡ map draft_of (map (members_of ws) gs)
drafts_are ws [] = refl
drafts_are ws (g ∷ gs) = ap (λ items. draft_of items ∷ map (λ places. draft_of (items_at ws places)) (map (λ h. places_from (in_group h) 0 ws) gs)) (items_placed (in_group g) ws) ∙ ap (λ ds. draft_of (members_of ws g) ∷ ds) (drafts_are ws gs)

pub nets_drafted : (mss : List (List Instruction)) → map (λ (d : Draft). d.net) (map draft_of mss) ≡ map net_of mss
nets_drafted [] = refl
nets_drafted (ms ∷ mss) = ap (λ nets. net_of ms ∷ nets) (nets_drafted mss)

pub items_drafted : (ps : List PairKey) (mss : List (List Instruction)) → map (item_of_draft ps) (map draft_of mss) ≡ map (item_of_members ps) mss
items_drafted ps [] = refl
items_drafted ps (ms ∷ mss) = ap (λ items. item_of_members ps ms ∷ items) (items_drafted ps mss)

pub problem_drafted : (book : BookRecord) (q : QueueRecord) (t : ℕ) → drafted book (map draft_of (memberships q t)) ≡ problem_of book q t
unfolding problem_of
problem_drafted book q t =
    let pairs_are : drafted_pairs (map draft_of (memberships q t)) ≡ changed_by (map net_of (memberships q t)) = ap changed_by (nets_drafted (memberships q t)) in
    let lines_are = ap (map (line_row book)) pairs_are in
    let items_are : map (item_of_draft (drafted_pairs (map draft_of (memberships q t)))) (map draft_of (memberships q t)) ≡ map (item_of_members (changed_by (map net_of (memberships q t)))) (memberships q t) =
    ap (λ ps. map (item_of_draft ps) (map draft_of (memberships q t))) pairs_are ∙ items_drafted (changed_by (map net_of (memberships q t))) (memberships q t) in
    λ i. record { lines = lines_are i; items = items_are i }
