use Rattle.std.proofs.Common.{◌≡◌, ◌∙◌, [], ◌∷◌, ◌++◌, take, get_or, ap, arith}
use Rattle.dali_replica.specs.Intake.{reach_of}
use Rattle.dali_replica.proofs.Midways.{at_limit, one_byte}
use Rattle.dali_replica.proofs.intake.Intake.past_limit.Goals as goal

pub returns-in-Ok-clause-breaks : goal.returns-in-Ok-clause-breaks
returns-in-Ok-clause-breaks g c old used midway =
    let into = c.take.new.into in
    let left = (g.S.Source.feed c.take.new.self).left in
    let one : take c.in-Ok.field-0 into ≡ get_or into 0 0 ∷ [] = one_byte c.in-Ok.field-0 into (omega (arith, c.in-Ok.ensures.within)) c.in-Ok.field-0-test.1 c.take.auto.into in
    at_limit g.S.Source.tells old (reach_of c.args.self.now (g.S.Source.feed c.args.source.now)) used midway (reach_of c.args.self.now (g.S.Source.feed c.take.new.self)) (get_or into 0 0)
    c.requires.empty c.requires.full (λ tells. (c.in-Ok.ensures.taken tells).moved ∙ ap (λ front. front ++ left) one)
