use Rattle.std.proofs.Common.{◌≡◌, true, length, ap, sym, ◌∙◌, arith}
use Rattle.std.proofs.lemmas.Bool.{and_from, and_right}
use Rattle.dali_problem.specs.Partial.{mark, is_undecided}
use Rattle.dali_problem.specs.Rules.{all_below}
use Rattle.dali_check.specs.Lean.{is_nearest}
use Rattle.dali_check.proofs.Reducing.{all_below_more, all_below_fails}
use Rattle.dali_check.proofs.Stands.{is_behind}
use Rattle.dali_check.proofs.standing.is_nearest.Goals as goal

pub returns-then-not-is_behind-clause-answer : goal.returns-then-not-is_behind-clause-answer
unfolding is_nearest
returns-then-not-is_behind-clause-answer c lam stands =
    let p = c.args.problem.now in
    let f = c.args.partial.now.marks in
    sym (and_right (is_undecided (mark f c.args.place)) (all_below (is_behind p lam f c.args.place) (length p.items))
    (all_below_fails (is_behind p lam f c.args.place) (length p.items) c.loop-other.other
    (sym (c.is_behind.ensures lam stands) ∙ c.if-not-is_behind.true)
    (omega (arith, c.loop-other-test.true, c.items-other-end.ensures.count))))

pub loop-other-preserved : goal.loop-other-preserved
loop-other-preserved c = record {
  behind = (λ lam stands. all_below_more (is_behind c.args.problem.now lam c.args.partial.now.marks c.args.place) c.loop-other.other
      (c.loop-other.invariant.behind lam stands) (sym (c.is_behind.ensures lam stands) ∙ c.if-not-is_behind.false));
}

pub returns-clause-answer : goal.returns-clause-answer
unfolding is_nearest
returns-clause-answer c lam stands =
    let p = c.args.problem.now in
    let f = c.args.partial.now.marks in
    let told : is_undecided (mark f c.args.place) ≡ true = sym (ap is_undecided c.mark.ensures) ∙ sym c.is_undecided.ensures ∙ c.if-not-is_undecided.false in
    let end : c.loop-other.other ≡ length p.items = omega (arith, c.loop-other-test.false, c.loop-other.auto.other-end, c.items-other-end.ensures.count) in
    sym (and_from (is_undecided (mark f c.args.place)) (all_below (is_behind p lam f c.args.place) (length p.items)) told
    (sym (ap (all_below (is_behind p lam f c.args.place)) end) ∙ c.loop-other.invariant.behind lam stands))
