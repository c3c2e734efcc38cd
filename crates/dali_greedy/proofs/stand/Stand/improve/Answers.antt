use Rattle.std.proofs.Common.{◌≡◌, ℕ, length, List, ap, sym, subst, arith}
use Rattle.dali_problem.specs.declared.mark.Mark.{Mark}
use Rattle.dali_problem.specs.declared.mark.Mark.TheVariants.{Left}
use Rattle.dali_problem.specs.Partial.{mark}
use Rattle.dali_rest.proofs.Marks.{within_left}
use Rattle.dali_greedy.specs.Standing.{Holds, left_worth}
use Rattle.dali_greedy.proofs.Begun.{stand_left}
use Rattle.dali_greedy.proofs.Fits.{bears_holds}
use Rattle.dali_greedy.proofs.Worths.{worth_chosen, worth_one}
use Rattle.dali_greedy.proofs.stand.Stand.improve.Goals as goal

pub returns-in-None-clause-holds : goal.returns-in-None-clause-holds
returns-in-None-clause-holds c =
    let left : mark c.args.self.now.marks c.args.place ≡ Left = stand_left c.args.problem.now c.args.self.now c.args.place c.requires.of c.requires.place
    (λ chosen. (let told = c.has_place.ensures.1 chosen in let not_told = c.if-has_place.false in absurd (cc (told, not_told)))) in
    subst (Holds c.args.problem.now) (sym c.choose.ensures.marks)
    (bears_holds c.args.problem.now c.args.self.now c.args.place c.items-items.ensures.bounds c.requires.of left (λ l below _. c.requires.holds.covered l below) c.in-None.ensures.none)

pub returns-in-None-clause-more : goal.returns-in-None-clause-more
returns-in-None-clause-more c = λ _.
    let n : ℕ = length c.args.problem.now.items in
    let left : mark c.args.self.now.marks c.args.place ≡ Left = stand_left c.args.problem.now c.args.self.now c.args.place c.requires.of c.requires.place
    (λ chosen. (let told = c.has_place.ensures.1 chosen in let not_told = c.if-has_place.false in absurd (cc (told, not_told)))) in
    let less = worth_chosen c.args.problem.now c.args.self.now.marks c.args.place n c.requires.place (within_left c.args.self.now.marks c.args.place left) left in
    let new_ = ap (λ (h : List Mark). left_worth c.args.problem.now h n) c.choose.ensures.marks in
    omega (arith, less, new_, worth_one c.args.problem.now c.args.place c.items-items.ensures.bounds c.requires.place)
