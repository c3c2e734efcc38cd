use Rattle.std.proofs.Common.{◌≡◌, inl, inr, ℕ, ◌<◌, ◌==◌, ◌||◌, false, List, length, map, get_or, if◌then◌else◌, ap, sym, ◌∙◌, subst, arith}
use Rattle.std.proofs.lemmas.Bool.{cases_Bool, cases_lt, false_from_ne_true}
use Rattle.std.proofs.lemmas.List.{length-map, get_or-map, get_or_default}
use Rattle.dali_problem.specs.declared.mark.Mark.TheVariants.{Stranger, Undecided}
use Rattle.dali_problem.specs.Clearing.{Clearing}
use Rattle.dali_problem.specs.Partial.{mark}
use Rattle.dali_problem.proofs.SetLaws.{is_in}
use Rattle.dali_problem.specs.Feasible.{has}
use Rattle.dali_tree.specs.declared.choice.Part.{Part}
use Rattle.dali_tree.specs.Fits.{AreRising, PartFits}
use Rattle.dali_tree.specs.Range.{IsPartInRange}
use Rattle.dali_check.specs.Sides.{opened}
use Rattle.dali_check.specs.Proves.{proves_part}
use Rattle.dali_check.specs.Lean.{lean_tree, tight_tree, lean_part}
use Rattle.dali_check.proofs.Entering.{has_of, contains_has, opened_at, opened_length, opened_past}
use Rattle.dali_restrict.specs.Restriction.{old_of}
use Rattle.dali_restrict.specs.Widened.{wide_tree, wide_part}
use Rattle.dali_restrict.proofs.Spread.{false_true, IsRise, old_below, old_same, old_in}
use Rattle.dali_restrict.proofs.Renumber.{IsPart}
use Rattle.dali_restrict.proofs.Wide.{IsWide, both}
use Rattle.dali_restrict.proofs.Fitting.{part_widens}
use Rattle.dali_restrict.proofs.Trees.{proves_wide, lean_wide, tightest_wide}

-- members with the old numbers
wide_has : (n : ℕ) (places members : List ℕ) (i : ℕ) → IsRise n places → AreRising (length places) members → i < length places →
    has (map (old_of places) members) (old_of places i) ≡ has members i
wide_has n places members i rise are within = elim (cases_Bool (has members i)) as (λ _. has (map (old_of places) members) (old_of places i) ≡ has members i) [
  | inl told ↦
      let there = contains_has members i told in
      has_of (map (old_of places) members) (old_of places i) (
        there.0,
        omega (arith, there.1, length-map members (old_of places)),
        get_or-map (old_of places) members there.0 i (old_of places i) there.1 ∙ ap (old_of places) there.2,
      ) ∙ sym told
  | inr off ↦ false_from_ne_true (has (map (old_of places) members) (old_of places i)) (λ told.
      let there = contains_has (map (old_of places) members) (old_of places i) told in
      let below : there.0 < length members = omega (arith, there.1, length-map members (old_of places)) in
      let k : ℕ = get_or members there.0 0 in
      let same : old_of places k ≡ old_of places i = sym (get_or-map (old_of places) members there.0 0 (old_of places i) below) ∙ there.2 in
      let is : k ≡ i = old_same n places k i rise (are.in_range there.0 0 below) within same in
      false_true (sym off ∙ has_of members i (there.0, below, get_or_default members there.0 i 0 below ∙ is))) ∙ sym off
]

wide_only : (places members : List ℕ) (j : ℕ) → AreRising (length places) members → is_in j places ≡ false → has (map (old_of places) members) j ≡ false
wide_only places members j are out = false_from_ne_true (has (map (old_of places) members) j) (λ told.
    let there = contains_has (map (old_of places) members) j told in
    let below : there.0 < length members = omega (arith, there.1, length-map members (old_of places)) in
    let same : old_of places (get_or members there.0 0) ≡ j = sym (get_or-map (old_of places) members there.0 0 j below) ∙ there.2 in
    false_true (sym out ∙ ap (λ x. is_in x places) (sym same) ∙ old_in places (get_or members there.0 0) (are.in_range there.0 0 below)))

-- the start of a part, with the old numbers
opened_wide : (n : ℕ) (places members : List ℕ) → IsRise n places → AreRising (length places) members →
    IsWide n places (opened (length places) members) (opened n (map (old_of places) members))
opened_wide n places members rise are = record {
  inner = opened_length (length places) members;
  outer = opened_length n (map (old_of places) members);
  inside = (λ i within.
      opened_at n (map (old_of places) members) (old_of places i) (old_below n places i rise within)
      ∙ ap (λ b. if b then Undecided else Stranger) (wide_has n places members i rise are within)
      ∙ sym (opened_at (length places) members i within));
  outside = (λ j out. elim (cases_lt j n) as (λ _. mark (opened n (map (old_of places) members)) j ≡ Stranger) [
    | inl below ↦ opened_at n (map (old_of places) members) j below ∙ ap (λ b. if b then Undecided else Stranger) (wide_only places members j are out)
    | inr past ↦ opened_past n (map (old_of places) members) j past
  ]);
}

-- a part proves and is lean with the old numbers as with the new
module _ (p q : Clearing) (places lines : List ℕ) (part : Part) (is : IsPart p q places lines) (range : IsPartInRange (length q.items) (length q.lines) part) where
  rising : AreRising (length places) part.members
  rising = subst (λ (k : ℕ). AreRising k part.members) is.items_size range.members

  wide : IsWide (length p.items) places (opened (length q.items) part.members) (opened (length p.items) (map (old_of places) part.members))
  wide = subst (λ (k : ℕ). IsWide (length p.items) places (opened k part.members) (opened (length p.items) (map (old_of places) part.members))) (sym is.items_size)
      (opened_wide (length p.items) places part.members is.members rising)

  pub part_proves : proves_part p (wide_part places lines part) ≡ proves_part q part
  part_proves = proves_wide p q places lines part.bound part.tree (opened (length q.items) part.members) (opened (length p.items) (map (old_of places) part.members)) is range.tree wide

  pub part_lean : (v : ℕ) → lean_part p (wide_part places lines part) v ≡ lean_part q part v
  part_lean v = both (lean_tree p part.bound v (wide_tree places lines part.tree) (opened (length p.items) (map (old_of places) part.members)))
      (lean_tree q part.bound v part.tree (opened (length q.items) part.members))
      ((part.bound == v) || tight_tree p part.bound (wide_tree places lines part.tree) (opened (length p.items) (map (old_of places) part.members)))
      ((part.bound == v) || tight_tree q part.bound part.tree (opened (length q.items) part.members))
      (lean_wide p q places lines part.bound v part.tree (opened (length q.items) part.members) (opened (length p.items) (map (old_of places) part.members)) is range.tree wide)
      (ap (λ b. (part.bound == v) || b)
      (tightest_wide p q places lines part.bound part.tree (opened (length q.items) part.members) (opened (length p.items) (map (old_of places) part.members)) is range.tree wide))

  -- and fits where it does
  pub part_fits : PartFits (length q.items) (length q.lines) part → PartFits (length p.items) (length p.lines) (wide_part places lines part)
  part_fits fits = part_widens (length p.items) (length p.lines) places lines part is.members is.changed
      (subst (λ (y : ℕ). PartFits (length places) y part) is.lines_size (subst (λ (x : ℕ). PartFits x (length q.lines) part) is.items_size fits))
