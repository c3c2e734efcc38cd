use Rattle.std.proofs.Common.{◌≡◌, ℕ, ◌<◌, pos, get_or}
use Rattle.dali_greedy.specs.Standing.{IsStandOf, Betters}
use Rattle.dali_greedy.proofs.stand.Stand.make_way.Given as goal

abbrev pub invariant-loop-touch : goal.invariant-loop-touch
invariant-loop-touch l = record {
  of : IsStandOf l.problem l.self;
  same : l.self.marks ≡ l.fn.self.marks;
  none : (k : ℕ) → k < l.touch-index → ¬ (Betters l.problem l.partial.marks l.fn.self.marks l.place (get_or l.touch-items k (record { place = 0; amount = pos 0 })).place);
}
