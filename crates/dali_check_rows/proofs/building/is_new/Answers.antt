use Rattle.std.proofs.Common.{◌≢◌, arith}
use Rattle.std.proofs.lemmas.List.Elements.{All-from_get_or}
use Rattle.dali_problem.specs.Clearing.{Item, no_item}
use Rattle.dali_check_rows.proofs.building.is_new.Goals as goal

pub returns : goal.returns
returns c = λ _. All-from_get_or (λ (item : Item). item.id ≢ c.args.id.now) c.args.problem.now.items no_item
    (λ k within. c.loop-place.invariant.others k (omega (arith, within, c.loop-place-test.false, c.items-place-end.ensures.count)))
