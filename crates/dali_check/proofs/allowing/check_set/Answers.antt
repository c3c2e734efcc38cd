use Rattle.std.proofs.Common.{◌≡◌, ◌⊎◌, true, false, List, length, sym, ◌∙◌, subst}
use Rattle.std.specs.List.{Any}
use Rattle.dali_tree.specs.declared.choice.Part.{Part}
use Rattle.dali_rest.specs.Addable.{CanAddOne, CanAddRest}
use Rattle.dali_rest.specs.Swappable.{CanSwap}
use Rattle.dali_check.specs.Parts.{ArePartition, AreSeparate}
use Rattle.dali_check.proofs.Reasons.{at_addable, at_swappable, set_passed}
use Rattle.dali_check.proofs.allowing.check_set.Goals as goal

false_true : false ≡ true → ⊥
false_true is = cc

pub returns-then-is_addable-clause-err : goal.returns-then-is_addable-clause-err
returns-then-is_addable-clause-err c b =
    let p = c.args.problem.now in
    let same = c.as_slice-parts.ensures in
    at_addable p b c.args.choice.now
    (subst (λ (ps : List Part). ArePartition (length p.items) ps) same (c.are_partition.ensures.answer.0 c.if-not-are_partition.false))
    (subst (λ (ps : List Part). AreSeparate p ps) same (c.are_separate.ensures.answer.0 c.if-not-are_separate.false))
    (c.is_feasible.ensures.answer.0 c.if-not-is_feasible.false)
    (subst (λ (ps : List Part). CanAddOne p c.args.choice.now.places ⊎ Any (λ (part : Part). CanAddRest p c.args.choice.now.places part.members) ps) same
    (c.is_addable.ensures.answer.0 c.if-is_addable.true))

pub returns-then-some_swap-clause-err : goal.returns-then-some_swap-clause-err
returns-then-some_swap-clause-err c b =
    let p = c.args.problem.now in
    let same = c.as_slice-parts.ensures in
    at_swappable p b c.args.choice.now
    (subst (λ (ps : List Part). ArePartition (length p.items) ps) same (c.are_partition.ensures.answer.0 c.if-not-are_partition.false))
    (subst (λ (ps : List Part). AreSeparate p ps) same (c.are_separate.ensures.answer.0 c.if-not-are_separate.false))
    (c.is_feasible.ensures.answer.0 c.if-not-is_feasible.false)
    (λ add. false_true (sym c.if-is_addable.false ∙ c.is_addable.ensures.answer.1
    (subst (λ (ps : List Part). CanAddOne p c.args.choice.now.places ⊎ Any (λ (part : Part). CanAddRest p c.args.choice.now.places part.members) ps) (sym same) add)))
    (subst (λ (ps : List Part). Any (λ (part : Part). CanSwap p c.args.choice.now.places part.members) ps) same (c.some_swap.ensures.answer.0 c.if-some_swap.true))

pub returns-clause-ok : goal.returns-clause-ok
returns-clause-ok c b =
    let p = c.args.problem.now in
    let same = c.as_slice-parts.ensures in
    set_passed p b c.args.choice.now
    (subst (λ (ps : List Part). ArePartition (length p.items) ps) same (c.are_partition.ensures.answer.0 c.if-not-are_partition.false))
    (subst (λ (ps : List Part). AreSeparate p ps) same (c.are_separate.ensures.answer.0 c.if-not-are_separate.false))
    (c.is_feasible.ensures.answer.0 c.if-not-is_feasible.false)
    (λ add. false_true (sym c.if-is_addable.false ∙ c.is_addable.ensures.answer.1
    (subst (λ (ps : List Part). CanAddOne p c.args.choice.now.places ⊎ Any (λ (part : Part). CanAddRest p c.args.choice.now.places part.members) ps) (sym same) add)))
    (λ swap. false_true (sym c.if-some_swap.false ∙ c.some_swap.ensures.answer.1
    (subst (λ (ps : List Part). Any (λ (part : Part). CanSwap p c.args.choice.now.places part.members) ps) (sym same) swap)))
