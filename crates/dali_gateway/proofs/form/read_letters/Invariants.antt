use Rattle.std.proofs.Common.{◌≡◌, ◌<◌, ◌++◌, length, map}
use Rattle.std.specs.List.{All}
use Rattle.dali_gateway.specs.Form.{letter}
use Rattle.dali_gateway.proofs.form.read_letters.Given as goal

abbrev pub invariant-letters : goal.invariant-letters
invariant-letters l = record {
  count : length l.turns ≡ l.counter;
  known : All (λ turn. turn < l.inboxes) l.turns;
  text : l.fn.bytes ≡ map letter l.turns ++ l.rest;
}
