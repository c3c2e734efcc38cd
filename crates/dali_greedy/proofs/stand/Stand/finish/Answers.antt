use Rattle.dali_greedy.proofs.Begun.{FoundRest, holds_feasible, rest_holds, rest_goes, rest_worth}
use Rattle.dali_greedy.proofs.stand.Stand.finish.Goals as goal

pub can_add_rest-requires-clause-feasible : goal.can_add_rest-requires-clause-feasible
can_add_rest-requires-clause-feasible c =
    holds_feasible c.args.problem.now c.args.self.now.marks c.in_ok-set.set c.in_ok-set.ensures.places c.in_ok-set.ensures.stands c.requires.holds

pub returns-clause-holds : goal.returns-clause-holds
returns-clause-holds c =
    let found : FoundRest c.args.problem.now c.in_ok-set.set c.args.members.now c.args.self.now.marks c.find_rest.new.self.marks = record {
      places = c.in_ok-set.ensures.places;
      stands = c.in_ok-set.ensures.stands;
      size_f = c.requires.of.marks;
      size_r = c.find_rest.ensures.room.of.marks;
      inside = c.find_rest.ensures.room.members;
      set_told = (λ j. (c.find_rest.ensures.set j).0);
      set_of = (λ j. (c.find_rest.ensures.set j).1);
      rest = c.find_rest.ensures.rest;
      can = c.can_add_rest.ensures.answer.0 c.if-not-can_add_rest.false;
    } in
    rest_holds c.args.problem.now c.in_ok-set.set c.args.members.now c.args.self.now.marks c.find_rest.new.self.marks c.take_rest.new.self.marks found c.take_rest.ensures.taken

pub returns-clause-goes : goal.returns-clause-goes
returns-clause-goes c =
    let found : FoundRest c.args.problem.now c.in_ok-set.set c.args.members.now c.args.self.now.marks c.find_rest.new.self.marks = record {
      places = c.in_ok-set.ensures.places;
      stands = c.in_ok-set.ensures.stands;
      size_f = c.requires.of.marks;
      size_r = c.find_rest.ensures.room.of.marks;
      inside = c.find_rest.ensures.room.members;
      set_told = (λ j. (c.find_rest.ensures.set j).0);
      set_of = (λ j. (c.find_rest.ensures.set j).1);
      rest = c.find_rest.ensures.rest;
      can = c.can_add_rest.ensures.answer.0 c.if-not-can_add_rest.false;
    } in
    λ f marked goes. rest_goes c.args.problem.now c.in_ok-set.set c.args.members.now f c.args.self.now.marks c.find_rest.new.self.marks c.take_rest.new.self.marks
    c.take_rest.ensures.of.marks found c.take_rest.ensures.taken marked goes

pub returns-clause-added : goal.returns-clause-added
returns-clause-added c =
    let found : FoundRest c.args.problem.now c.in_ok-set.set c.args.members.now c.args.self.now.marks c.find_rest.new.self.marks = record {
      places = c.in_ok-set.ensures.places;
      stands = c.in_ok-set.ensures.stands;
      size_f = c.requires.of.marks;
      size_r = c.find_rest.ensures.room.of.marks;
      inside = c.find_rest.ensures.room.members;
      set_told = (λ j. (c.find_rest.ensures.set j).0);
      set_of = (λ j. (c.find_rest.ensures.set j).1);
      rest = c.find_rest.ensures.rest;
      can = c.can_add_rest.ensures.answer.0 c.if-not-can_add_rest.false;
    } in
    rest_worth c.args.problem.now c.in_ok-set.set c.args.members.now c.args.self.now.marks c.find_rest.new.self.marks c.take_rest.new.self.marks
    c.items-items.ensures.bounds found c.take_rest.ensures.taken
