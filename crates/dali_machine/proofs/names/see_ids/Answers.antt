use Rattle.std.proofs.Common.{subst, arith}
use Rattle.std.proofs.lemmas.List.{take_all}
use Rattle.std.proofs.lemmas.List.Elements.{All-more}
use Rattle.std.specs.Prelude.{IsTrue, List, ℕ}
use Rattle.std.specs.List.{All}
use Rattle.dali_base.specs.Spelling.{is_name}
use Rattle.dali_problem.specs.Clearing.{Item, no_item}
use Rattle.dali_machine.proofs.names.see_ids.Goals as goal

abbrev Has : Item → Type 0
Has item = IsTrue (is_name item.id)

pub loop-at-preserved : goal.loop-at-preserved
loop-at-preserved c =
    All-more Has c.args.problem.now.items c.loop-at.at no_item (omega (arith, c.loop-at-test.true, c.items-at-end.ensures.count)) c.loop-at.invariant
    (subst (λ (n : List ℕ). IsTrue (is_name n)) c.id-id.ensures.id c.bytes-bytes.ensures.name)

pub returns : goal.returns
returns c = subst (All Has) (take_all c.loop-at.at c.args.problem.now.items (omega (arith, c.loop-at-test.false, c.items-at-end.ensures.count))) c.loop-at.invariant
