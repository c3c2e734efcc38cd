use Rattle.std.proofs.Common.{◌≡◌, arith}
use Rattle.dali_gen.specs.Day.{cash_line, cash_lines}
use Rattle.dali_gen.proofs.Texts.{text_begun, text_step, text_told}
use Rattle.dali_gen.proofs.opening.add_cash.Goals as goal

pub loop-account-init : goal.loop-account-init
loop-account-init c = text_begun cash_line 0 c.args.text.now

pub loop-account-preserved : goal.loop-account-preserved
loop-account-preserved c =
    text_step cash_line 0 c.loop-account.account c.loop-account.account c.args.text.now c.loop-account.text c.add_cash_of.new.text (omega arith) c.loop-account.invariant c.in_ok-add_cash_of.ensures

pub returns : goal.returns
unfolding cash_lines
returns c =
    let all : c.loop-account.account ≡ 12 = omega (arith, c.loop-account.auto, c.loop-account-test.false) in
    text_told cash_line 0 c.loop-account.account 12 c.args.text.now c.loop-account.text all c.loop-account.invariant
