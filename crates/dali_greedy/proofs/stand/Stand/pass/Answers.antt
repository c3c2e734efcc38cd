use Rattle.std.proofs.Common.{◌≡◌, ◌<◌, ℕ, ◌∙◌, length, List, get_or, ap, sym, subst, arith}
use Rattle.std.proofs.lemmas.List.{get_or_default}
use Rattle.dali_problem.specs.declared.mark.Mark.{Mark}
use Rattle.dali_problem.specs.declared.mark.Mark.TheVariants.{Undecided, Left}
use Rattle.dali_problem.specs.Partial.{mark}
use Rattle.dali_rest.proofs.Marks.{within_left}
use Rattle.dali_greedy.specs.declared.order.Ranked.{Ranked}
use Rattle.dali_greedy.specs.Order.{rank_of}
use Rattle.dali_greedy.specs.Standing.{IsStuck}
use Rattle.dali_greedy.proofs.stand.Stand.pass.Goals as goal

pub returns-clause-stuck : goal.returns-clause-stuck
returns-clause-stuck c = λ told j undec left.
    let within : j < length c.args.problem.now.items = omega (arith, within_left c.loop-ranked.self.marks j left, c.loop-ranked.invariant.of.marks) in
    let there = c.requires.order.all j within in
    let k : ℕ = there.0 in
    let none : Ranked = record { behind = 0; place = 0 } in
    let at : (get_or c.args.order.now k none).place ≡ j =
    ap (λ (r : Ranked). r.place) (get_or_default c.args.order.now k none (rank_of c.args.problem.now j) there.1 ∙ there.2) in
    let same = c.loop-ranked.invariant.same told in
    let was : mark c.args.self.now.marks j ≡ Left = ap (λ (g : List Mark). mark g j) (sym same) ∙ left in
    let stuck = c.loop-ranked.invariant.stuck told k (omega (arith, there.1, c.loop-ranked-test.false))
    (subst (λ i. mark c.args.partial.now.marks i ≡ Undecided) (sym at) undec) (subst (λ i. mark c.args.self.now.marks i ≡ Left) (sym at) was) in
    subst (λ (g : List Mark). IsStuck c.args.problem.now c.args.partial.now.marks g j) (sym same)
    (subst (IsStuck c.args.problem.now c.args.partial.now.marks c.args.self.now.marks) at stuck)
