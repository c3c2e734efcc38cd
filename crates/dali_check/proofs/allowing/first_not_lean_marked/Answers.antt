use Rattle.std.proofs.Common.{◌≡◌, inl, inr, ℕ, ◌<◌, Bool, true, false, List, length, get_or, ap, sym, ◌∙◌, arith}
use Rattle.std.specs.List.{filter}
use Rattle.std.proofs.lemmas.Bool.{cases_eq}
use Rattle.dali_problem.specs.Clearing.{Clearing}
use Rattle.dali_problem.specs.Feasible.{value_of}
use Rattle.dali_tree.specs.declared.choice.Part.{Part}
use Rattle.dali_check.specs.Lean.{lean_part}
use Rattle.dali_check.proofs.Firsts.{element_is}
use Rattle.dali_check.proofs.allowing.first_not_lean_marked.Goals as goal

-- what a part's test answers, from its parts
abbrev test_of : Clearing → List Bool → Part → Bool
test_of p marks part = lean_part p part (value_of p (filter (λ (j : ℕ). get_or marks j false) part.members))

told : (p : Clearing) (marks : List Bool) (parts : List Part) (i : ℕ) (one two d : Part) (members : List ℕ) (value : ℕ) (result : Bool) → i < length parts →
    two ≡ get_or parts i two → members ≡ (get_or parts i one).members → value ≡ value_of p (filter (λ (j : ℕ). get_or marks j false) members) →
    result ≡ lean_part p two value → test_of p marks (get_or parts i d) ≡ result
told p marks parts i one two d members value result within second listed worth answer =
    ap (test_of p marks) (element_is parts i two d within second)
    ∙ ap (λ (xs : List ℕ). lean_part p two (value_of p (filter (λ (j : ℕ). get_or marks j false) xs)))
    (sym (listed ∙ ap (λ (part : Part). part.members) (element_is parts i two one within second)))
    ∙ ap (lean_part p two) (sym worth)
    ∙ sym answer

pub returns-then-not-lean_with-clause-some : goal.returns-then-not-lean_with-clause-some
returns-then-not-lean_with-clause-some c = record {
  within = c.loop-at-test.true;
  fails = (λ d.
      told c.args.problem.now c.args.marks.now c.args.parts.now c.loop-at.at c.index-parts-at.result c.index-parts-at-in-loop-at.result d
      c.as_slice.result.now c.marked_value-value.result c.lean_with.result c.loop-at-test.true c.index-parts-at-in-loop-at.is
      c.as_slice.ensures c.marked_value-value.ensures c.lean_with.ensures.answer ∙ c.if-not-lean_with.true);
  first = c.loop-at.invariant.lean;
}

pub loop-at-preserved : goal.loop-at-preserved
loop-at-preserved c = record {
  of = c.lean_with.ensures.of;
  idle = c.lean_with.ensures.idle;
  ready = c.lean_with.ensures.ready;
  lean = (λ k d below. elim (cases_eq k c.loop-at.at) as (λ _. test_of c.args.problem.now c.args.marks.now (get_or c.args.parts.now k d) ≡ true) [
    | inl here ↦
        ap (λ i. test_of c.args.problem.now c.args.marks.now (get_or c.args.parts.now i d)) here
        ∙ told c.args.problem.now c.args.marks.now c.args.parts.now c.loop-at.at c.index-parts-at.result c.index-parts-at-in-loop-at.result d
        c.as_slice.result.now c.marked_value-value.result c.lean_with.result c.loop-at-test.true c.index-parts-at-in-loop-at.is
        c.as_slice.ensures c.marked_value-value.ensures c.lean_with.ensures.answer ∙ c.if-not-lean_with.false
    | inr other ↦ c.loop-at.invariant.lean k d (omega arith)
  ]);
}
