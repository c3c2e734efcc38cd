use Rattle.std.proofs.Common.{◌≡◌, arith}
use Rattle.dali_gen.specs.Day.{inst_line, inst_lines}
use Rattle.dali_gen.proofs.Prices.{listed_count, listed_price}
use Rattle.dali_gen.proofs.Texts.{text_begun, text_step, text_told}
use Rattle.dali_gen.proofs.opening.add_insts.Goals as goal

pub overflow_cast-code : goal.overflow_cast-code
overflow_cast-code c =
    let count = listed_count c.args.n c.args.prices.now c.requires in
    omega (arith, count, c.loop-code-test.true)

pub add_inst-requires : goal.add_inst-requires
add_inst-requires c =
    let count = listed_count c.args.n c.args.prices.now c.requires in
    record {
      code = omega (arith, count, c.loop-code-test.true);
      price = listed_price c.args.n c.loop-code.code c.args.prices.now c.requires (omega (arith, count, c.loop-code-test.true));
    }

pub loop-code-init : goal.loop-code-init
loop-code-init c = text_begun (inst_line c.args.n) 0 c.args.text.now

pub loop-code-preserved : goal.loop-code-preserved
loop-code-preserved c =
    text_step (inst_line c.args.n) 0 c.loop-code.code c.loop-code.code c.args.text.now c.loop-code.text c.add_inst.new.text (omega arith) c.loop-code.invariant c.in_ok-add_inst.ensures

pub returns : goal.returns
unfolding inst_lines
returns c =
    let count = listed_count c.args.n c.args.prices.now c.requires in
    let all : c.loop-code.code ≡ 30 = omega (arith, count, c.loop-code.auto, c.loop-code-test.false) in
    text_told (inst_line c.args.n) 0 c.loop-code.code 30 c.args.text.now c.loop-code.text all c.loop-code.invariant
