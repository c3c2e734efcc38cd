use Rattle.std.proofs.Common.{◌≡◌, true, false, get_or, refl, sym, ◌∙◌, subst}
use Rattle.std.proofs.lemmas.List.{take_all}
use Rattle.dali_problem.specs.Feasible.{has}
use Rattle.dali_tree.specs.declared.choice.Part.{Part}
use Rattle.dali_check.proofs.Parting.{Apart, apart_step, apart_more, apart_none}
use Rattle.dali_check.proofs.apart.places_apart.Goals as goal

false_true : false ≡ true → ⊥
false_true is = cc

pub returns-then-not-mark_places-clause-answer : goal.returns-then-not-mark_places-clause-answer
returns-then-not-mark_places-clause-answer c = (
  λ t. absurd (false_true t),
  λ apart. sym c.if-not-mark_places.true ∙ c.mark_places.ensures.answer.1
      (apart_none (λ (part : Part). has part.members) c.args.parts.now c.loop-part.part-index c.part-item.result (λ x. get_or c.loop-part.marks x false)
      c.loop-part-test.true c.part-item.is c.loop-part.invariant.marked apart),
)

pub loop-part-preserved : goal.loop-part-preserved
loop-part-preserved c = record {
  marked = apart_step (λ (part : Part). has part.members) c.args.parts.now c.loop-part.part-index c.part-item.result
      (λ x. get_or c.loop-part.marks x false) (λ x. get_or c.mark_places.new.marks x false)
      c.loop-part-test.true c.part-item.is c.loop-part.invariant.marked (c.mark_places.ensures.marked c.if-not-mark_places.false);
  apart = apart_more (λ (part : Part). has part.members) c.args.parts.now c.loop-part.part-index c.part-item.result
      (λ x. get_or c.loop-part.marks x false)
      c.loop-part-test.true c.part-item.is c.loop-part.invariant.marked (c.mark_places.ensures.answer.0 c.if-not-mark_places.false) c.loop-part.invariant.apart;
}

pub returns-clause-answer : goal.returns-clause-answer
returns-clause-answer c = (
  λ _. subst (Apart (λ (part : Part). has part.members)) (take_all c.loop-part.part-index c.args.parts.now c.loop-part-test.false) c.loop-part.invariant.apart,
  λ _. refl,
)
