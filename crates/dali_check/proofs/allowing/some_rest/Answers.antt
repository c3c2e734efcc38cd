use Rattle.std.proofs.Common.{refl, sym}
use Rattle.dali_check.proofs.allowing.some_rest.Goals as goal

pub returns-then-can_add_rest-clause-answer : goal.returns-then-can_add_rest-clause-answer
returns-then-can_add_rest-clause-answer c =
    (λ _. (c.loop-part.part-index, c.part-item.result, c.loop-part-test.true, sym c.part-item.is, c.can_add_rest.ensures.answer.0 c.if-can_add_rest.true), λ _. refl)
