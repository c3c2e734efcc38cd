use Rattle.std.proofs.Common.{◌∙◌, ◌-◌, length, drop, ap, arith}
use Rattle.std.proofs.lemmas.List.{length-take}
use Rattle.dali_replica.specs.Intake.{Taken}
use Rattle.dali_replica.proofs.Blocks.{consumed}
use Rattle.dali_replica.proofs.intake.Intake.consume.Goals as goal

pub returns-clause-pending : goal.returns-clause-pending
returns-clause-pending c =
    let bytes = c.self.inside.bytes in
    let long = ap (λ (t : Taken). length t.pending) c.self.view_is in
    consumed c.args.n c.self.inside.start c.self.inside.end bytes
    (omega (arith, c.requires, long, c.self.invariant.order, length-take (c.self.inside.end - c.self.inside.start) (drop c.self.inside.start bytes)))
    ∙ ap (λ (t : Taken). drop c.args.n t.pending) c.self.view_is
