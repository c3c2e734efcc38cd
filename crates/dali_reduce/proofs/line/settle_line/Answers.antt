use Rattle.std.proofs.Common.{◌≡◌, ◌⊎◌, ◌<◌, ◌∙◌, false, List, length, sym, subst, arith}
use Rattle.std.specs.List.{All}
use Rattle.dali_problem.specs.declared.columns.Touch.{Touch}
use Rattle.dali_problem.specs.Touches.{touches}
use Rattle.dali_problem.specs.Rules.{is_short}
use Rattle.dali_reduce.specs.Run.{Waits, IsTouch, IsUnmoved}
use Rattle.dali_reduce.proofs.Settling.{are_touches, line_clears}
use Rattle.dali_reduce.proofs.line.settle_line.Goals as goal

pub walk-requires-clause-touches : goal.walk-requires-clause-touches
walk-requires-clause-touches c =
    let within : c.args.line < length c.args.columns.now = omega (arith, c.requires.columns.lines, c.requires.line) in
    let is : c.touching.result.now ≡ touches c.args.problem.now c.args.line = c.touching.ensures ∙ c.requires.columns.touches c.args.line within in
    subst (All (IsTouch c.args.problem.now c.args.line)) (sym is) (are_touches c.args.problem.now c.args.line)

pub returns-clause-settled : goal.returns-clause-settled
returns-clause-settled c =
    let p = c.args.problem.now in
    let f = c.args.partial.now.marks in
    let within : c.args.line < length c.args.columns.now = omega (arith, c.requires.columns.lines, c.requires.line) in
    let is : c.touching.result.now ≡ touches p c.args.line = c.touching.ensures ∙ c.requires.columns.touches c.args.line within in
    let long : is_short p f c.args.line ≡ false = sym (c.is_short.ensures p c.requires.of) ∙ c.if-is_short.false in
    line_clears p f c.walk.new.partial.marks c.args.fixes.now c.walk.new.fixes c.args.line c.requires.of.marks long c.walk.ensures.goes
    (subst (λ (ts : List Touch). Waits p c.walk.new.fixes (length c.args.fixes.now) c.args.line
    ⊎ IsUnmoved p f c.walk.new.partial.marks c.args.fixes.now c.walk.new.fixes c.args.line ts) is c.in_ok-walk.ensures.stands)
