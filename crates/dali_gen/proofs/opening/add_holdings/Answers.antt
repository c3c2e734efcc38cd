use Rattle.std.proofs.Common.{◌≡◌, arith}
use Rattle.dali_gen.specs.Day.{holding_line, holding_lines}
use Rattle.dali_gen.proofs.Texts.{text_begun, text_step, text_told}
use Rattle.dali_gen.proofs.opening.add_holdings.Goals as goal

pub loop-code-init : goal.loop-code-init
loop-code-init c = text_begun holding_line 0 c.args.text.now

pub loop-code-preserved : goal.loop-code-preserved
loop-code-preserved c =
    text_step holding_line 0 c.loop-code.code c.loop-code.code c.args.text.now c.loop-code.text c.add_holding.new.text (omega arith) c.loop-code.invariant c.in_ok-add_holding.ensures

pub returns : goal.returns
unfolding holding_lines
returns c =
    let all : c.loop-code.code ≡ 30 = omega (arith, c.loop-code.auto, c.loop-code-test.false) in
    text_told holding_line 0 c.loop-code.code 30 c.args.text.now c.loop-code.text all c.loop-code.invariant
