use Rattle.std.proofs.Common.{◌∙◌, ◌-◌, length, drop, ap, arith}
use Rattle.std.proofs.lemmas.List.{length-take}
use Rattle.dali_line.proofs.Blocks.{consumed}
use Rattle.dali_line.proofs.block.Block.consume.Goals as goal

pub returns : goal.returns
returns c =
    let bytes = c.self.inside.bytes.items in
    let long = ap length c.self.view_is in
    consumed c.args.n c.self.inside.start c.self.inside.end bytes
    (omega (arith, c.requires, long, c.self.invariant.order, length-take (c.self.inside.end - c.self.inside.start) (drop c.self.inside.start bytes)))
    ∙ ap (drop c.args.n) c.self.view_is
