use Rattle.std.specs.Prelude.{◌-◌, ◌≤◌, length, take, drop}
use Rattle.dali_gateway.specs.Gateway.{Box}
use Rattle.dali_gateway.specs.declared.inbox.Inbox.TheInside.{Inside}

abbrev pub box_of : Inside → Box
box_of a = record { whole = a.bytes; open_ = take (a.end - a.start) (drop a.start a.bytes); left = drop a.next a.bytes }

pub record IsOrdered (a : Inside) : Type 0 where
  pub order : a.start ≤ a.end
  pub within : a.end ≤ length a.bytes
  pub next : a.next ≤ length a.bytes
