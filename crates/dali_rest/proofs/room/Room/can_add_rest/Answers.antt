use Rattle.std.proofs.Common.{ℕ, List, ◌++◌, length, ◌∙◌}
use Rattle.dali_rest.specs.Room.{undecided_below}
use Rattle.dali_rest.specs.Sets.{outside}
use Rattle.dali_rest.proofs.Rests.{rest_chosen, chosen_decided, same_rest, no_rest}
use Rattle.dali_rest.proofs.Standing.{covered_feasible, feasible_covered}
use Rattle.dali_rest.proofs.room.Room.can_add_rest.Goals as goal

pub returns-then-choose_rest-clause-answer : goal.returns-then-choose_rest-clause-answer
returns-then-choose_rest-clause-answer c =
    let rest : List ℕ = undecided_below c.find_rest.new.self.marks (length c.args.problem.now.items) in
    let decided = chosen_decided c.args.problem.now c.find_rest.new.self.marks c.choose_rest.new.self.marks c.choose_rest.ensures.chosen in (
      λ told. record {
        rest = rest;
        is_rest = c.find_rest.ensures.rest;
        not_empty = λ none. absurd (let not_told = c.choose_rest.ensures.some.1 none in let was = c.if-choose_rest.true in cc (not_told, was));
        feasible = covered_feasible c.args.problem.now (rest ++ c.args.set.now) c.choose_rest.new.self.marks decided
            (λ l. rest_chosen c.args.problem.now c.args.set.now c.find_rest.new.self.marks c.choose_rest.new.self.marks l c.requires.places c.find_rest.ensures.set c.choose_rest.ensures.chosen)
            (c.is_covered.ensures.0 told);
      },
      λ can. c.is_covered.ensures.1 (feasible_covered c.args.problem.now (can.rest ++ c.args.set.now) c.choose_rest.new.self.marks decided
          (λ l. same_rest c.args.problem.now c.args.set.now (outside c.args.members.now c.args.set.now) rest can.rest l c.requires.places c.find_rest.ensures.rest can.is_rest
          ∙ rest_chosen c.args.problem.now c.args.set.now c.find_rest.new.self.marks c.choose_rest.new.self.marks l c.requires.places c.find_rest.ensures.set c.choose_rest.ensures.chosen)
          can.feasible),
    )

pub returns-else-choose_rest-clause-answer : goal.returns-else-choose_rest-clause-answer
returns-else-choose_rest-clause-answer c = (
  λ told. absurd (let not_told = c.if-choose_rest.false in cc (told, not_told)),
  λ can. absurd (can.not_empty (no_rest c.args.problem.now c.args.set.now (outside c.args.members.now c.args.set.now)
      (undecided_below c.find_rest.new.self.marks (length c.args.problem.now.items)) can.rest c.find_rest.ensures.rest can.is_rest
      (c.choose_rest.ensures.some.0 c.if-choose_rest.false))),
)
