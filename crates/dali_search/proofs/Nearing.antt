use Rattle.std.proofs.Common.{◌≡◌, inl, inr, ℕ, ◌+◌, ◌<◌, ◌≤◌, Bool, true, not, ltb, leb, List, length, Option, Some, None, if◌then◌else◌, ap, sym, ◌∙◌, subst, arith}
use Rattle.std.proofs.lemmas.Bool.{cases_Bool, cases_eq, and_from, or_left, or_right, not-false, not-true, le-leb, lt-ltb, ltb-true}
use Rattle.std.proofs.lemmas.Bool.Decides.{leb_tells}
use Rattle.dali_problem.specs.declared.mark.Mark.{Mark}
use Rattle.dali_problem.specs.declared.mark.Mark.TheVariants.{Undecided}
use Rattle.dali_problem.specs.Clearing.{Clearing}
use Rattle.dali_problem.specs.Partial.{mark, is_undecided}
use Rattle.dali_problem.specs.Rules.{all_below}
use Rattle.dali_problem.proofs.RuleTests.{undecided_is}
use Rattle.dali_check.specs.Lean.{is_open, is_nearest, nearness}
use Rattle.dali_check.proofs.Reducing.{all_below_of, all_below_finds}
use Rattle.dali_check.proofs.Stands.{is_behind}
use Rattle.dali_search.specs.declared.nearest.Near.{Near}
use Rattle.dali_search.specs.Nearest.{nearer_of, IsNearestBelow, FoundBelow}

-- a place that isn't undecided changes nothing
pub near_skip : (p : Clearing) (lam : List (ℕ × ℕ)) (f : List Mark) (n : ℕ) (found : Option Near) → ¬ (mark f n ≡ Undecided) →
    FoundBelow p lam f n found → FoundBelow p lam f (n + 1) found
near_skip p lam f n None off before = λ j below. elim (cases_eq j n) as (λ _. ¬ (mark f j ≡ Undecided)) [
  | inl here ↦ (λ is. off (sym (ap (mark f) here) ∙ is))
  | inr other ↦ before j (omega (arith, below, other))
]
near_skip p lam f n (Some near) off before = record {
  below = omega (arith, before.below);
  undecided = before.undecided;
  size = before.size;
  before = before.before;
  least = (λ j below is. elim (cases_eq j n) as (λ _. near.size ≤ nearness p lam j) [
    | inl here ↦ absurd (off (sym (ap (mark f) here) ∙ is))
    | inr other ↦ before.least j (omega (arith, below, other)) is
  ]);
}

-- an undecided place is nearer than those before it, or not
near_new : (p : Clearing) (lam : List (ℕ × ℕ)) (f : List Mark) (n size : ℕ) → mark f n ≡ Undecided → size ≡ nearness p lam n →
    ((j : ℕ) → j < n → mark f j ≡ Undecided → size < nearness p lam j) → IsNearestBelow p lam f (n + 1) (record { place = n; size = size })
near_new p lam f n size is same farther = record {
  below = omega arith;
  undecided = is;
  size = same;
  before = farther;
  least = (λ j below told. elim (cases_eq j n) as (λ _. size ≤ nearness p lam j) [
    | inl here ↦
        let there : nearness p lam j ≡ nearness p lam n = ap (nearness p lam) here in
        omega (arith, there, same)
    | inr other ↦ omega (arith, farther j (omega (arith, below, other)) told)
  ]);
}

near_old : (p : Clearing) (lam : List (ℕ × ℕ)) (f : List Mark) (n size : ℕ) (near : Near) → size ≡ nearness p lam n → near.size ≤ size →
    IsNearestBelow p lam f n near → IsNearestBelow p lam f (n + 1) near
near_old p lam f n size near same less before = record {
  below = omega (arith, before.below);
  undecided = before.undecided;
  size = before.size;
  before = before.before;
  least = (λ j below told. elim (cases_eq j n) as (λ _. near.size ≤ nearness p lam j) [
    | inl here ↦
        let there : nearness p lam j ≡ nearness p lam n = ap (nearness p lam) here in
        omega (arith, there, same, less)
    | inr other ↦ before.least j (omega (arith, below, other)) told
  ]);
}

pub near_step : (p : Clearing) (lam : List (ℕ × ℕ)) (f : List Mark) (n size : ℕ) (found : Option Near) → mark f n ≡ Undecided → size ≡ nearness p lam n →
    FoundBelow p lam f n found → FoundBelow p lam f (n + 1) (nearer_of found n size)
near_step p lam f n size None is same before = near_new p lam f n size is same (λ j below told. absurd (before j below told))
near_step p lam f n size (Some near) is same before = elim (leb_tells near.size size) as (λ _. FoundBelow p lam f (n + 1) (nearer_of (Some near) n size)) [
  | inl less ↦
      subst (λ (b : Bool). FoundBelow p lam f (n + 1) (if b then Some near else Some (record { place = n; size = size }))) (sym less.0)
      (near_old p lam f n size near same less.1 before)
  | inr more ↦
      subst (λ (b : Bool). FoundBelow p lam f (n + 1) (if b then Some near else Some (record { place = n; size = size }))) (sym more.0)
      (near_new p lam f n size is same (λ j below told. omega (arith, more.1, before.least j below told)))
]

-- where some member is undecided one is found
pub found_some : (p : Clearing) (f : List Mark) → is_open p f ≡ true → ((j : ℕ) → j < length p.items → ¬ (mark f j ≡ Undecided)) → ⊥
unfolding is_open
found_some p f told none =
    let some = all_below_finds (λ j. not (is_undecided (mark f j))) (length p.items) (not-true (all_below (λ j. not (is_undecided (mark f j))) (length p.items)) told) in
    none some.0 some.1 (undecided_is (mark f some.0) (not-false (is_undecided (mark f some.0)) some.2))

-- and it is the nearest
pub found_nearest : (p : Clearing) (lam : List (ℕ × ℕ)) (f : List Mark) (near : Near) → IsNearestBelow p lam f (length p.items) near → is_nearest p lam f near.place ≡ true
unfolding is_nearest
found_nearest p lam f near found =
    and_from (is_undecided (mark f near.place)) (all_below (is_behind p lam f near.place) (length p.items)) (ap is_undecided found.undecided)
    (all_below_of (is_behind p lam f near.place) (length p.items) (λ j below.
    elim (cases_Bool (is_undecided (mark f j))) as (λ _. is_behind p lam f near.place j ≡ true) [
      | inl told ↦
          let is = undecided_is (mark f j) told in
          or_right (not (is_undecided (mark f j))) (if ltb j near.place then ltb (nearness p lam near.place) (nearness p lam j) else leb (nearness p lam near.place) (nearness p lam j))
          (elim (cases_Bool (ltb j near.place)) as (λ _. (if ltb j near.place then ltb (nearness p lam near.place) (nearness p lam j) else leb (nearness p lam near.place) (nearness p lam j)) ≡ true) [
            | inl before ↦
                ap (λ b. if b then ltb (nearness p lam near.place) (nearness p lam j) else leb (nearness p lam near.place) (nearness p lam j)) before
                ∙ lt-ltb (nearness p lam near.place) (nearness p lam j) (omega (arith, found.before j (ltb-true j near.place before) is, found.size))
            | inr behind ↦
                ap (λ b. if b then ltb (nearness p lam near.place) (nearness p lam j) else leb (nearness p lam near.place) (nearness p lam j)) behind
                ∙ le-leb (nearness p lam near.place) (nearness p lam j) (omega (arith, found.least j below is, found.size))
          ])
      | inr decided ↦
          or_left (not (is_undecided (mark f j))) (if ltb j near.place then ltb (nearness p lam near.place) (nearness p lam j) else leb (nearness p lam near.place) (nearness p lam j))
          (ap not decided)
    ]))
