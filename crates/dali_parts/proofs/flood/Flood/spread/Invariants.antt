use Rattle.std.proofs.Common.{◌≡◌, ◌+◌, true, is_some, length, take}
use Rattle.std.specs.List.{All}
use Rattle.dali_problem.specs.declared.columns.Touch.{Touch}
use Rattle.dali_parts.specs.Flood.{class_at, Grows, Spreads, open_count}
use Rattle.dali_parts.proofs.flood.Flood.spread.Given as goal

abbrev pub invariant-loop-touch : goal.invariant-loop-touch
invariant-loop-touch l = record {
  seen : l.self.seen.items ≡ l.initial.self.seen.items;
  spreads : Spreads l.class l.initial.self.classes.items l.self.classes.items l.initial.self.seen.items l.initial.self.pending.items l.self.pending.items l.touches;
  each : All (λ (touch : Touch). is_some (class_at l.self.classes.items touch.place) ≡ true) (take l.touch-index l.touches);
  grows : Grows l.class l.initial.self.classes.items l.self.classes.items;
  counted : open_count l.self.classes.items + length l.self.pending.items ≡ open_count l.initial.self.classes.items + length l.initial.self.pending.items;
}
