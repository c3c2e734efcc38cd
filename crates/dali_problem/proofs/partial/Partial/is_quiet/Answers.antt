use Rattle.std.proofs.Common.{◌≡◌, ◌∙◌, ap, sym, subst, arith, true, false, pos, List, length}
use Rattle.std.specs.List.{list_all}
use Rattle.std.proofs.lemmas.Grind.{common_steps}
use Rattle.dali_problem.specs.declared.line_sum.LineSum.{LineSum}
use Rattle.dali_problem.specs.Clearing.{item_at}
use Rattle.dali_problem.specs.Limits.{AreEffects}
use Rattle.dali_problem.specs.Partial.{mark, is_undecided}
use Rattle.dali_problem.specs.Kept.{Kept, is_quiet}
use Rattle.dali_problem.proofs.Lines.{item_limits}
use Rattle.dali_problem.proofs.EffectTests.{quiet_is, quiet_decided}
use Rattle.dali_problem.proofs.partial.Partial.is_quiet.Goals as goal

pub returns-then-not-is_undecided : goal.returns-then-not-is_undecided
returns-then-not-is_undecided c =
    let told : is_undecided (mark c.args.self.now.marks c.args.place) ≡ false = grind (arith, common_steps) in
    sym (quiet_decided c.args.problem.now c.args.self.now c.args.place (item_at c.args.problem.now c.args.place).effects told)

pub returns : goal.returns
returns c =
    let told : is_undecided (mark c.args.self.now.marks c.args.place) ≡ true = grind (arith, common_steps) in
    let sums : c.as_slice.result.now ≡ c.args.self.now.sums = c.as_slice.ensures.value ∙ ap (λ (k : Kept). k.sums) c.self.view_is in
    let are : AreEffects (length c.args.problem.now.lines) c.effects.result.now =
    subst (AreEffects (length c.args.problem.now.lines)) (sym c.effects.ensures.effects)
    (item_limits c.args.problem.now c.args.place c.effects.ensures.bounds c.requires.place).effects in
    c.all_quiet.ensures
    ∙ ap (λ (ss : List LineSum). list_all (is_quiet ss) c.effects.result.now) sums
    ∙ quiet_is c.args.problem.now c.args.self.now c.args.place (record { line = 0; amount = pos 0 }) c.effects.result.now
    c.requires.of c.requires.place are c.effects.ensures.effects told
