use Rattle.std.proofs.Common.{◌≡◌, ◌+◌, true, false, get_or, ap, sym, ◌∙◌, subst}
use Rattle.std.specs.Int.RustNames.{unsigned_abs}
use Rattle.dali_problem.specs.Partial.{mark, is_undecided}
use Rattle.dali_problem.proofs.RuleTests.{undecided_is}
use Rattle.dali_lagrange.specs.Multipliers.{multiplier}
use Rattle.dali_check.proofs.Points.{reduced_at}
use Rattle.dali_check.specs.Lean.{nearness}
use Rattle.dali_search.specs.Nearest.{FoundBelow}
use Rattle.dali_search.proofs.Nearing.{near_skip, near_step}
use Rattle.dali_search.proofs.nearest.consider.Goals as goal

true_false : true ≡ false → ⊥
true_false is = cc

pub returns-then-not-is_undecided : goal.returns-then-not-is_undecided
returns-then-not-is_undecided c =
    let told : is_undecided (mark c.args.partial.now.marks c.args.place) ≡ false =
    sym (ap is_undecided c.mark.ensures) ∙ sym c.is_undecided.ensures ∙ c.if-not-is_undecided.true in
    near_skip c.args.problem.now c.args.lam.now c.args.partial.now.marks c.args.place c.args.found
    (λ is. true_false (sym (ap is_undecided is) ∙ told)) c.requires.found

pub returns : goal.returns
returns c =
    let p = c.args.problem.now in
    let told : is_undecided (mark c.args.partial.now.marks c.args.place) ≡ true =
    sym (ap is_undecided c.mark.ensures) ∙ sym c.is_undecided.ensures ∙ c.if-not-is_undecided.false in
    let same : c.size.result ≡ nearness p c.args.lam.now c.args.place =
    c.size.ensures p c.requires.kept
    ∙ ap unsigned_abs (reduced_at p (λ l. get_or c.args.kept.now.multipliers l 0) (multiplier c.args.lam.now) c.args.place c.requires.loaded) in
    subst (FoundBelow p c.args.lam.now c.args.partial.now.marks (c.args.place + 1)) (sym c.nearer.ensures)
    (near_step p c.args.lam.now c.args.partial.now.marks c.args.place c.size.result c.args.found
    (undecided_is (mark c.args.partial.now.marks c.args.place) told) same c.requires.found)
