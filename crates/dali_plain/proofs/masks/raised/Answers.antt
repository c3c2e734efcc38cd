use Rattle.std.proofs.Common.{sym}
use Rattle.dali_plain.specs.Masks.{places_of}
use Rattle.dali_plain.proofs.MaskLaws.{mask_places}
use Rattle.dali_plain.proofs.masks.raised.Goals as goal

pub returns-clause-reached : goal.returns-clause-reached
returns-clause-reached c = record {
  set = places_of c.args.problem.now c.args.mask;
  places = mask_places c.args.problem.now c.args.mask;
  feasible = c.is_feasible_mask.ensures.0 c.if-not-is_feasible_mask.false;
  value = sym c.value_of_mask-value.ensures;
}
