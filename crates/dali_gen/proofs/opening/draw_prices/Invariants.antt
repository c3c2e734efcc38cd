use Rattle.std.proofs.Common.{◌≡◌, map}
use Rattle.std.specs.List.{range_with_len}
use Rattle.dali_gen.specs.Draws.{state_after}
use Rattle.dali_gen.specs.Day.{price}
use Rattle.dali_gen.proofs.opening.draw_prices.Given as goal

abbrev pub invariant-loop : goal.invariant-loop
invariant-loop l = record {
  prices : l.prices.items ≡ map (price l.initial.draws) (range_with_len 0 l.counter);
  state : l.draws ≡ state_after l.counter l.initial.draws;
}
