use Rattle.std.proofs.Common.{◌≡◌, ◌+◌, true, ◌∷◌, length, take}
use Rattle.std.specs.List.{All}
use Rattle.dali_problem.specs.declared.row.Effect.{Effect}
use Rattle.dali_parts.specs.Flood.{was_seen, IsFlooding, Grows, open_count}
use Rattle.dali_parts.proofs.flood.Flood.visit.Given as goal

abbrev pub invariant-loop-effect : goal.invariant-loop-effect
invariant-loop-effect l = record {
  flooding : IsFlooding l.problem l.class l.self.classes.items l.self.seen.items (l.place ∷ l.self.pending.items);
  looked : All (λ (e : Effect). was_seen l.self.seen.items e.line ≡ true) (take l.effect-index l.effect-items);
  grows : Grows l.class l.initial.self.classes.items l.self.classes.items;
  counted : open_count l.self.classes.items + length l.self.pending.items ≡ open_count l.initial.self.classes.items + length l.initial.self.pending.items;
}
