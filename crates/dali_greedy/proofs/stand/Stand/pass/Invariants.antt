use Rattle.std.proofs.Common.{◌≡◌, ℕ, ◌<◌, ◌≤◌, true, false, length, get_or}
use Rattle.dali_problem.specs.declared.mark.Mark.TheVariants.{Undecided, Left}
use Rattle.dali_problem.specs.Partial.{mark}
use Rattle.dali_greedy.specs.Standing.{IsStandOf, Holds, GoesWith, IsStuck, left_worth}
use Rattle.dali_greedy.proofs.stand.Stand.pass.Given as goal

abbrev pub invariant-loop-ranked : goal.invariant-loop-ranked
invariant-loop-ranked l = record {
  of : IsStandOf l.problem l.self;
  holds : Holds l.problem l.self.marks;
  goes : GoesWith l.partial.marks l.self.marks;
  no_more : left_worth l.problem l.self.marks (length l.problem.items) ≤ left_worth l.problem l.fn.self.marks (length l.problem.items);
  fewer : l.bettered ≡ true → left_worth l.problem l.self.marks (length l.problem.items) < left_worth l.problem l.fn.self.marks (length l.problem.items);
  same : l.bettered ≡ false → l.self.marks ≡ l.fn.self.marks;
  stuck : l.bettered ≡ false → (k : ℕ) → k < l.ranked-index → mark l.partial.marks (get_or l.order k (record { behind = 0; place = 0 })).place ≡ Undecided →
      mark l.fn.self.marks (get_or l.order k (record { behind = 0; place = 0 })).place ≡ Left →
      IsStuck l.problem l.partial.marks l.fn.self.marks (get_or l.order k (record { behind = 0; place = 0 })).place;
}
