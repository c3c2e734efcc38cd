use Rattle.std.specs.Prelude.{◌≤◌, ◌<◌, ◌++◌, [], length, map, drop, All, slice_index_or}
use Rattle.dali_gateway.specs.Limits.{most_inboxes, most_turns}
use Rattle.dali_gateway.specs.Gateway.{Gateway, whole_of, queue, unopened, pending}
use Rattle.dali_gateway.specs.Merge.{merged}
use Rattle.dali_gateway.specs.declared.gate.Gate.TheInside.{Inside}

abbrev pub gateway_of : Inside → Gateway
gateway_of a = record {
  inboxes = map whole_of a.inboxes.items;
  turns = a.turns;
  left = pending (slice_index_or a.inboxes.items a.giver (unopened [])).open_ a.ending
      ++ merged (map queue a.inboxes.items) (drop a.next a.turns);
}

pub record IsMerging (a : Inside) : Type 0 where
  pub few : length a.inboxes.items ≤ most_inboxes
  pub count : length a.turns ≤ most_turns
  pub known : All (λ turn. turn < length a.inboxes.items) a.turns
  pub next : a.next ≤ length a.turns
  pub giver : a.giver < length a.inboxes.items
  pub ending : a.ending ≤ 2
