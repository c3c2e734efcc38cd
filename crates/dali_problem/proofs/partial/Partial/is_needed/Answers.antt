use Rattle.std.proofs.Common.{◌≡◌, ◌∙◌, ap, arith, true, pos, ◌+ℤ◌, ◌-ℤ◌, ◌<◌, List, length}
use Rattle.std.specs.Int.{int_max}
use Rattle.std.proofs.lemmas.Int.{ints}
use Rattle.std.proofs.lemmas.List.{get_or_read}
use mir.Syntax.{w64}
use mir.Val.{to_z, of_z}
use Rattle.std.proofs.lemmas.Grind.{common_steps}
use Rattle.dali_problem.specs.declared.row.Effect.{Effect}
use Rattle.dali_problem.specs.declared.line_sum.LineSum.{LineSum}
use Rattle.dali_problem.specs.Sums.{sum_over}
use Rattle.dali_problem.specs.Clearing.{effect, on_line}
use Rattle.dali_problem.specs.Partial.{mark, is_undecided}
use Rattle.dali_problem.specs.Rules.{is_negative}
use Rattle.dali_problem.specs.Kept.{Kept, no_sum, sum_at}
use Rattle.dali_problem.proofs.RuleTests.{needed_is}
use Rattle.dali_problem.proofs.partial.Partial.is_needed.Goals as goal

pub returns : goal.returns
returns c =
    let told : is_undecided (mark c.args.self.now.marks c.args.place) ≡ true = grind (arith, common_steps) in
    let long : length c.self.inside.sums.items ≡ length c.args.self.now.sums = ap (λ (k : Kept). length k.sums) c.self.view_is in
    let within : c.args.line < length c.self.inside.sums.items = omega (arith, long, c.requires.of.lines, c.requires.line) in
    let sum : c.index-2.result.now ≡ sum_at c.args.self.now.sums c.args.line =
    get_or_read c.self.inside.sums.items c.args.line c.index-2.result.now within c.index-2.ensures no_sum
    ∙ ap (λ (k : Kept). sum_at k.sums c.args.line) c.self.view_is in
    let stored : to_z w64 (of_z w64 c.amount_on-amount.result) ≡ c.amount_on-amount.result = omega (arith, ints, c.amount_on-amount.type_inv) in
    let amount : to_z w64 (of_z w64 c.amount_on-amount.result) ≡ effect c.args.problem.now c.args.place c.args.line =
    stored ∙ c.amount_on-amount.ensures ∙ ap (λ (es : List Effect). sum_over (on_line c.args.line) es) c.effects.ensures.effects in
    c.is_short_if_left.ensures
    ∙ ap (λ (s : LineSum). is_negative (s.held +ℤ s.credits -ℤ int_max (pos 0) (to_z w64 (of_z w64 c.amount_on-amount.result)))) sum
    ∙ needed_is c.args.problem.now c.args.self.now c.args.place c.args.line (to_z w64 (of_z w64 c.amount_on-amount.result))
    c.requires.of c.requires.line c.requires.place told amount
