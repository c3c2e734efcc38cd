use Rattle.std.proofs.Common.{◌≡◌, true, length, ℕ, List, subst}
use Rattle.dali_rest.specs.Room.{AreMarksOf}
use Rattle.dali_greedy.proofs.Begun.{chosen_goes, chosen_overdrawn, feasible_holds, agrees_goes}
use Rattle.dali_greedy.proofs.stand.Stand.begin.Goals as goal

pub returns-clause-goes : goal.returns-clause-goes
returns-clause-goes c = λ _.
    let stands = subst (λ (s : List ℕ). AreMarksOf (length c.args.problem.now.items) s c.become_set-2.new.self.marks) c.as_slice-2.ensures c.become_set-2.ensures.stands in
    chosen_goes c.args.problem.now c.args.partial.now.marks c.become_set-2.new.self.marks c.args.chosen.now c.requires.partial.marks c.become_set-2.ensures.of.marks
    c.requires.chosen stands

pub returns-clause-overdrawn : goal.returns-clause-overdrawn
returns-clause-overdrawn c = λ told.
    let stands = subst (λ (s : List ℕ). AreMarksOf (length c.args.problem.now.items) s c.become_set-2.new.self.marks) c.as_slice-2.ensures c.become_set-2.ensures.stands in
    chosen_overdrawn c.args.problem.now c.args.partial.now.marks c.become_set-2.new.self.marks c.args.chosen.now c.requires.chosen stands (c.holds.ensures.overdrawn told)

pub returns-clause-begun : goal.returns-clause-begun
returns-clause-begun c = λ feasible agrees.
    let stands = subst (λ (s : List ℕ). AreMarksOf (length c.args.problem.now.items) s c.become_set.new.self.marks) c.as_slice.ensures c.become_set.ensures.stands in
    let told : c.is_good.result ≡ true = c.is_good.ensures.good
    (feasible_holds c.args.problem.now c.become_set.new.self.marks c.args.start.now c.requires.start stands feasible)
    (agrees_goes c.args.problem.now c.args.partial.now.marks c.become_set.new.self.marks c.args.start.now c.become_set.ensures.of.marks stands agrees) in
    let not_told = c.if-is_good.false in
    absurd (cc (told, not_told))

pub returns-clause-start : goal.returns-clause-start
returns-clause-start c = λ feasible agrees.
    let stands = subst (λ (s : List ℕ). AreMarksOf (length c.args.problem.now.items) s c.become_set.new.self.marks) c.as_slice.ensures c.become_set.ensures.stands in
    let told : c.is_good.result ≡ true = c.is_good.ensures.good
    (feasible_holds c.args.problem.now c.become_set.new.self.marks c.args.start.now c.requires.start stands feasible)
    (agrees_goes c.args.problem.now c.args.partial.now.marks c.become_set.new.self.marks c.args.start.now c.become_set.ensures.of.marks stands agrees) in
    let not_told = c.if-is_good.false in
    absurd (cc (told, not_told))
