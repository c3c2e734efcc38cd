use Rattle.std.proofs.Common.{◌≡◌, ◌∙◌, ap, sym, subst, arith, true, pos, List, length}
use Rattle.std.specs.List.{list_all}
use Rattle.std.proofs.lemmas.Grind.{common_steps}
use Rattle.dali_problem.specs.declared.line_sum.LineSum.{LineSum}
use Rattle.dali_problem.specs.Limits.{AreEffects}
use Rattle.dali_problem.specs.Partial.{mark, is_undecided}
use Rattle.dali_problem.specs.Kept.{Kept, pays}
use Rattle.dali_problem.proofs.Lines.{item_limits}
use Rattle.dali_problem.proofs.RuleTests.{safe_told}
use Rattle.dali_problem.proofs.partial.Partial.is_safe.Goals as goal

pub returns : goal.returns
returns c =
    let told : is_undecided (mark c.args.self.now.marks c.args.place) ≡ true = grind (arith, common_steps) in
    let sums : c.as_slice.result.now ≡ c.args.self.now.sums = c.as_slice.ensures.value ∙ ap (λ (k : Kept). k.sums) c.self.view_is in
    let are : AreEffects (length c.args.problem.now.lines) c.effects.result.now =
    subst (AreEffects (length c.args.problem.now.lines)) (sym c.effects.ensures.effects)
    (item_limits c.args.problem.now c.args.place c.effects.ensures.bounds c.requires.place).effects in
    c.pays_all.ensures
    ∙ ap (λ (ss : List LineSum). list_all (pays ss) c.effects.result.now) sums
    ∙ safe_told c.args.problem.now c.args.self.now c.args.place (record { line = 0; amount = pos 0 }) c.effects.result.now
    c.requires.of are c.effects.ensures.effects told
