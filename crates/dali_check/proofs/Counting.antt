use Rattle.std.proofs.Common.{◌≡◌, inl, inr, ℕ, zero, suc, ◌<◌, ◌≤◌, ℤ, pos, ◌+ℤ◌, ◌≤ℤ◌, Bool, true, false, ◌||◌, List, [], ◌∷◌, length, get_or, ap, sym, ◌∙◌, arith}
use Rattle.std.specs.List.{All}
use Rattle.std.proofs.lemmas.Bool.{cases_eq}
use Rattle.std.proofs.lemmas.Int.{ints}
use Rattle.std.proofs.lemmas.List.Elements.{All-head, All-tail}
use Rattle.dali_problem.specs.Sums.{sum_below, pick}
use Rattle.dali_problem.specs.Clearing.{Clearing}
use Rattle.dali_problem.specs.Limits.{IsProblem}
use Rattle.dali_problem.proofs.SumLaws.{sum_below_add, sum_below_same}
use Rattle.dali_problem.specs.Feasible.{has}
use Rattle.dali_tree.specs.declared.choice.Part.{Part}
use Rattle.dali_tree.specs.declared.choice.Choice.{Choice}
use Rattle.dali_tree.specs.Fits.{AreRising}
use Rattle.dali_tree.specs.Range.{IsInRange}
use Rattle.dali_check.specs.Parts.{some_has}
use Rattle.dali_check.specs.Allowed.{IsWhole}
use Rattle.dali_check.proofs.Entering.{has_at}
use Rattle.dali_check.proofs.Parting.{Apart}
use Rattle.dali_check.proofs.Summing.{split_pick, apart_head}

-- how many of n numbers pass a test
abbrev count : (ℕ → Bool) → ℕ → ℤ
count test n = sum_below (λ j. pick (test j) (pos 1)) n

pick_up : (b : Bool) → pos 0 ≤ℤ pick b (pos 1)
pick_up true = omega (arith, ints)
pick_up false = omega (arith, ints)

pick_one : (b : Bool) → pick b (pos 1) ≤ℤ pos 1
pick_one true = omega (arith, ints)
pick_one false = omega (arith, ints)

count_up : (test : ℕ → Bool) (n : ℕ) → pos 0 ≤ℤ count test n
count_up test zero = omega (arith, ints)
count_up test (suc n) = omega (arith, ints, count_up test n, pick_up (test n))

count_most : (test : ℕ → Bool) (n : ℕ) → count test n ≤ℤ pos n
count_most test zero = omega (arith, ints)
count_most test (suc n) = omega (arith, ints, count_most test n, pick_one (test n))

count_some : (test : ℕ → Bool) (n k : ℕ) → k < n → test k ≡ true → pos 1 ≤ℤ count test n
count_some test zero k below told = absurd (omega (arith, below))
count_some test (suc n) k below told = elim (cases_eq k n) as (λ _. pos 1 ≤ℤ count test (suc n)) [
  | inl same ↦
      let here : pick (test n) (pos 1) ≡ pos 1 = ap (λ b. pick b (pos 1)) (ap test (sym same) ∙ told) in
      omega (arith, ints, count_up test n, here)
  | inr other ↦
      let before = count_some test n k (omega (arith, below, other)) told in
      omega (arith, ints, before, pick_up (test n))
]

-- parts that are apart, each with a member below n, are no more than n
parts_count : (n : ℕ) (parts : List Part) → All (λ part. AreRising n part.members) parts → All (λ part. 0 < length part.members) parts →
    Apart (λ (part : Part). has part.members) parts → pos (length parts) ≤ℤ count (some_has parts) n
parts_count n [] rising some apart = count_up (some_has []) n
parts_count n (q ∷ parts) rising some apart =
    let members = All-head (λ (part : Part). AreRising n part.members) q parts rising in
    let filled : 0 < length q.members = All-head (λ (part : Part). 0 < length part.members) q parts some in
    let first = count_some (has q.members) n (get_or q.members 0 0) (members.in_range 0 0 filled) (has_at q.members 0 0 filled) in
    let rest = parts_count n parts (All-tail (λ (part : Part). AreRising n part.members) q parts rising)
    (All-tail (λ (part : Part). 0 < length part.members) q parts some)
    (λ i k d before within. apart (suc i) (suc k) d (omega arith) (omega arith)) in
    let split = sum_below_same (λ j. pick (has q.members j || some_has parts j) (pos 1))
    (λ j. pick (has q.members j) (pos 1) +ℤ pick (some_has parts j) (pos 1)) n
    (λ j below. split_pick true (has q.members j) (some_has parts j) (pos 1) (apart_head q parts apart j)) in
    let joined = sum_below_add (λ j. pick (has q.members j) (pos 1)) (λ j. pick (some_has parts j) (pos 1)) n in
    omega (arith, ints, first, rest, split, joined)

-- a partition has at most as many parts as there are items
pub parts_few : (p : Clearing) (choice : Choice) → IsProblem p → IsInRange (length p.items) (length p.lines) choice → IsWhole p choice →
    length choice.parts ≤ 1024
parts_few p choice limits ranges whole =
    let least = parts_count (length p.items) choice.parts (λ k d within. (ranges.parts k d within).members) whole.partition.some whole.partition.apart in
    let most = count_most (some_has choice.parts) (length p.items) in
    omega (arith, ints, least, most, limits.items)
