use Rattle.std.proofs.Common.{refl, sym}
use Rattle.dali_check.proofs.allowing.some_swap.Goals as goal

pub returns-then-can_swap-clause-answer : goal.returns-then-can_swap-clause-answer
returns-then-can_swap-clause-answer c =
    (λ _. (c.loop-part.part-index, c.part-item.result, c.loop-part-test.true, sym c.part-item.is, c.can_swap.ensures.answer.0 c.if-can_swap.true), λ _. refl)
