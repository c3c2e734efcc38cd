use Rattle.std.proofs.Common.{refl, sym, subst}
use Rattle.dali_machine.specs.Kept.{IsMachine}
use Rattle.dali_machine.proofs.Opening.{same_book, same_queue, same_opening, opening_kept}
use Rattle.dali_machine.proofs.state.State.new.Goals as goal

pub returns : goal.returns
returns c = same_opening _
    (same_book c.new.result.book c.new.ensures.accounts c.new.ensures.codes c.new.ensures.balances c.new.ensures.earmarks)
    (same_queue c.new-2.result.queue c.new-2.ensures.waiting c.new-2.ensures.used c.new-2.ensures.cutoffs)
    c.new-3.ensures.postings c.first_moment.ensures refl refl

pub invariant_of-result : goal.invariant_of-result
invariant_of-result c = subst IsMachine (sym (same_opening _
    (same_book c.new.result.book c.new.ensures.accounts c.new.ensures.codes c.new.ensures.balances c.new.ensures.earmarks)
    (same_queue c.new-2.result.queue c.new-2.ensures.waiting c.new-2.ensures.used c.new-2.ensures.cutoffs)
    c.new-3.ensures.postings c.first_moment.ensures refl refl)) opening_kept
