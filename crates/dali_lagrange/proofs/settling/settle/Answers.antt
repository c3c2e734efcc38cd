use Rattle.std.proofs.Common.{◌≡◌, ◌≤ℤ◌, true, List, get_or, ◌∙◌, ap, sym, arith}
use Rattle.std.proofs.lemmas.Int.{ints}
use Rattle.std.proofs.lemmas.Result.{IfOk-weaker}
use Rattle.dali_problem.specs.declared.mark.Mark.{Mark}
use Rattle.dali_lagrange.specs.Bound.{sum_of}
use Rattle.dali_lagrange.specs.Multipliers.{multiplier}
use Rattle.dali_lagrange.specs.Settled.{IsSettled, is_settled}
use Rattle.dali_lagrange.proofs.Moved.{sum_same}
use Rattle.dali_lagrange.proofs.SettledLaws.{settled_same, settled_from}
use Rattle.dali_lagrange.proofs.settling.settle.Goals as goal

pub returns-clause-not_above : goal.returns-clause-not_above
returns-clause-not_above c = IfOk-weaker c.listed.result _ (λ lam. sum_of c.args.problem.now c.args.partial.now.marks (multiplier lam) ≤ℤ sum_of c.args.problem.now c.args.partial.now.marks (multiplier c.args.start.now))
    (λ lam same.
    let begun : c.begin-2.new.self.marks ≡ c.args.partial.now.marks = c.begin-2.ensures.marks ∙ c.in_ok-kept.ensures.marks in
    let marks : c.improve.new.self.marks ≡ c.args.partial.now.marks = c.improve.ensures.marks ∙ begun in
    let end : sum_of c.args.problem.now c.args.partial.now.marks (multiplier lam) ≡ c.improve.new.self.total =
    sum_same c.args.problem.now c.args.partial.now.marks (multiplier lam) (λ i. get_or c.improve.new.self.multipliers i 0) same
    ∙ ap (λ (f : List Mark). sum_of c.args.problem.now f (λ i. get_or c.improve.new.self.multipliers i 0)) (sym marks)
    ∙ sym c.improve.ensures.of.total in
    let start : sum_of c.args.problem.now c.begin-2.new.self.marks (multiplier c.args.start.now) ≡ sum_of c.args.problem.now c.args.partial.now.marks (multiplier c.args.start.now) =
    ap (λ (f : List Mark). sum_of c.args.problem.now f (multiplier c.args.start.now)) begun in
    omega (arith, ints, end, start, c.improve.ensures.not_above, c.begin-2.ensures.of.total, c.begin-2.ensures.not_above_start))
    c.listed.ensures.multipliers

pub returns-clause-settled : goal.returns-clause-settled
returns-clause-settled c = IfOk-weaker c.listed.result _ (λ lam. IsSettled c.args.problem.now c.args.partial.now.marks (multiplier lam))
    (λ lam same.
    let begun : c.begin-2.new.self.marks ≡ c.args.partial.now.marks = c.begin-2.ensures.marks ∙ c.in_ok-kept.ensures.marks in
    let marks : c.improve.new.self.marks ≡ c.args.partial.now.marks = c.improve.ensures.marks ∙ begun in
    let zero : sum_of c.args.problem.now c.begin-2.new.self.marks (λ _. 0) ≡ sum_of c.args.problem.now c.improve.new.self.marks (λ _. 0) =
    ap (λ (f : List Mark). sum_of c.args.problem.now f (λ _. 0)) (sym c.improve.ensures.marks) in
    let under : c.improve.new.self.total ≤ℤ sum_of c.args.problem.now c.improve.new.self.marks (λ _. 0) =
    omega (arith, ints, zero, c.improve.ensures.not_above, c.begin-2.ensures.of.total, c.begin-2.ensures.not_above_zero) in
    let settled : is_settled c.args.problem.now c.improve.new.self.marks (λ i. get_or c.improve.new.self.multipliers i 0) ≡ true =
    settled_from c.args.problem.now c.improve.new.self.marks c.improve.new.self.multipliers c.improve.new.self.total c.improve.ensures.of.multipliers c.improve.ensures.of.total
    under c.improve.ensures.still in
    settled_same c.args.problem.now c.args.partial.now.marks (multiplier lam) (λ i. get_or c.improve.new.self.multipliers i 0) same
    ∙ ap (λ (f : List Mark). is_settled c.args.problem.now f (λ i. get_or c.improve.new.self.multipliers i 0)) (sym marks) ∙ settled)
    c.listed.ensures.multipliers
