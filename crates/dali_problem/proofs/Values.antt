use Rattle.std.proofs.Common.{◌≡◌, ℕ, suc, ◌+◌, ◌-◌, ◌*◌, ◌^◌, ◌<◌, ◌≤◌, List, [], ◌∷◌, length, take, drop, get_or, ap, ◌∙◌, arith, sum_by}
use Rattle.std.specs.List.{All, AllPairs}
use Rattle.std.proofs.lemmas.List.{drop-drop}
use Rattle.std.proofs.lemmas.List.Elements.{All-head, All-tail}
use Rattle.std.proofs.lemmas.List.Sums.{sum_by-cons, sum_by-drop_more, sum_by-take-drop, sum_by-take-le, sum_by_more}
use Rattle.dali_problem.specs.Clearing.{Item, Clearing, no_item, worth}
use Rattle.dali_problem.specs.Limits.{IsProblem}
use Rattle.dali_problem.specs.Feasible.{ArePlaces}

rising_tail : (j : ℕ) (s : List ℕ) → AllPairs (λ a b. a < b) (j ∷ s) → AllPairs (λ a b. a < b) s
rising_tail j s rising a b d before within = rising (suc a) (suc b) d (omega arith) (omega arith)

above_head : (j : ℕ) (s : List ℕ) → AllPairs (λ a b. a < b) (j ∷ s) → All (λ x. suc j ≤ x) s
above_head j s rising k d within = rising 0 (suc k) d (omega arith) (omega arith)

less_dropped : (items : List Item) (k j : ℕ) → k ≤ j →
    sum_by (λ (r : Item). r.value) (drop j items) ≤ sum_by (λ (r : Item). r.value) (drop k items)
less_dropped items k j below =
    let far : drop (j - k) (drop k items) ≡ drop (k + (j - k)) items = drop-drop (j - k) k items in
    let at : k + (j - k) ≡ j = omega arith in
    let e : drop (j - k) (drop k items) ≡ drop j items = far ∙ ap (λ n. drop n items) at in
    let same : sum_by (λ (r : Item). r.value) (drop (j - k) (drop k items)) ≡ sum_by (λ (r : Item). r.value) (drop j items) =
    ap (sum_by (λ (r : Item). r.value)) e in
    omega (arith, sum_by-take-drop (λ (r : Item). r.value) (drop k items) (j - k))

-- rising places from k on are worth no more than all items from k on
pub rising_worth : (p : Clearing) (s : List ℕ) (k : ℕ) → AllPairs (λ a b. a < b) s → All (λ j. j < length p.items) s →
    All (λ j. k ≤ j) s → sum_by (worth p) s ≤ sum_by (λ (r : Item). r.value) (drop k p.items)
rising_worth p [] k rising within above = omega arith
rising_worth p (j ∷ s) k rising within above =
    let inside : j < length p.items = All-head (λ (x : ℕ). x < length p.items) j s within in
    let rest : sum_by (worth p) s ≤ sum_by (λ (r : Item). r.value) (drop (suc j) p.items) =
    rising_worth p s (suc j) (rising_tail j s rising) (All-tail (λ (x : ℕ). x < length p.items) j s within) (above_head j s rising) in
    let split : sum_by (λ (r : Item). r.value) (drop j p.items) ≡ worth p j + sum_by (λ (r : Item). r.value) (drop (j + 1) p.items) =
    sum_by-drop_more (λ (r : Item). r.value) p.items j no_item inside in
    let at : suc j ≡ j + 1 = omega arith in
    let next : sum_by (λ (r : Item). r.value) (drop (suc j) p.items) ≡ sum_by (λ (r : Item). r.value) (drop (j + 1) p.items) =
    ap (λ n. sum_by (λ (r : Item). r.value) (drop n p.items)) at in
    let from : k ≤ j = All-head (λ (x : ℕ). k ≤ x) j s above in
    let less = less_dropped p.items k j from in
    let whole : sum_by (worth p) (j ∷ s) ≡ worth p j + sum_by (worth p) s = sum_by-cons (worth p) j s in
    omega arith

-- a set is worth no more than all items
pub value_within : (p : Clearing) (s : List ℕ) → IsProblem p → ArePlaces p s → sum_by (worth p) s ≤ 16384 * 10 ^ 15
value_within p s limits places =
    let whole = rising_worth p s 0 places.rising places.in_range (λ k d below. omega arith) in
    omega (arith, limits.total, whole)

pub value_fits : (p : Clearing) (s : List ℕ) (i d : ℕ) → IsProblem p → ArePlaces p s → i < length s →
    sum_by (worth p) (take i s) + worth p (get_or s i d) < 2 ^ 64
value_fits p s i d limits places within =
    omega (arith, value_within p s limits places, sum_by_more (worth p) s i d within, sum_by-take-le (worth p) s (i + 1))

-- rising places from m on, below n, are no more than these numbers
pub rising_length : (n : ℕ) (s : List ℕ) (m : ℕ) → AllPairs (λ a b. a < b) s → All (λ j. j < n) s → All (λ j. m ≤ j) s → length s ≤ n - m
rising_length n [] m rising within above = omega arith
rising_length n (j ∷ s) m rising within above =
    let inside : j < n = All-head (λ (x : ℕ). x < n) j s within in
    let from : m ≤ j = All-head (λ (x : ℕ). m ≤ x) j s above in
    let rest : length s ≤ n - suc j =
    rising_length n s (suc j) (rising_tail j s rising) (All-tail (λ (x : ℕ). x < n) j s within) (above_head j s rising) in
    omega arith

-- a set has at most as many places as there are items
pub places_length : (p : Clearing) (s : List ℕ) → ArePlaces p s → length s ≤ length p.items
places_length p s places =
    let short : length s ≤ length p.items - 0 = rising_length (length p.items) s 0 places.rising places.in_range (λ k d below. omega arith) in
    omega arith
