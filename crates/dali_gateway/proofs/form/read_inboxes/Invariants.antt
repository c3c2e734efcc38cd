use Rattle.std.proofs.Common.{◌≡◌, ◌++◌, length, map}
use Rattle.std.specs.List.{All, flat_map}
use Rattle.dali_gateway.specs.Form.{IsInbox, inbox_text}
use Rattle.dali_gateway.specs.Gateway.{whole_of, unopened}
use Rattle.dali_gateway.proofs.form.read_inboxes.Given as goal

abbrev pub invariant-inboxes : goal.invariant-inboxes
invariant-inboxes l = record {
  count : length l.inboxes.items ≡ l.counter;
  fresh : l.inboxes.items ≡ map unopened (map whole_of l.inboxes.items);
  each : All IsInbox (map whole_of l.inboxes.items);
  text : l.fn.bytes ≡ flat_map inbox_text (map whole_of l.inboxes.items) ++ l.rest;
}
