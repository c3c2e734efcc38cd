use Rattle.std.proofs.Common.{◌≡◌, ◌∙◌, [], ◌++◌, ◌+◌, ◌-◌, take, false, refl, sym, ap, arith}
use Rattle.std.proofs.lemmas.List.{length-take}
use Rattle.std.proofs.lemmas.Result.{IfOk-weaker}
use Rattle.dali_replica.specs.Intake.{Taken, AtEnd, reach_of}
use Rattle.dali_line.specs.Lines.{Reach}
use Rattle.dali_replica.proofs.Midways.{got_more, dries}
use Rattle.dali_replica.proofs.intake.Intake.refill.Goals as goal

pub returns-then-self-eq-MOST_STREAM-clause-end : goal.returns-then-self-eq-MOST_STREAM-clause-end
returns-then-self-eq-MOST_STREAM-clause-end g c old used midway =
    let now = reach_of c.args.self.now (g.S.Source.feed c.past_limit.new.source) in
    IfOk-weaker c.past_limit.result (λ _. AtEnd g.S.Source.tells old used now) (λ more. more ≡ false → AtEnd g.S.Source.tells old used now) (λ more is none. is)
    (c.past_limit.ensures.end old used midway)

pub returns-in-Ok-clause-more : goal.returns-in-Ok-clause-more
returns-in-Ok-clause-more g c old used midway some =
    let n = c.in-Ok.n in
    let taken = ap (λ (t : Taken). t.taken) c.self.view_is in
    let same : n - 0 ≡ n = omega arith in
    let front : take (n - 0) c.pull.new.bytes ≡ take n c.pull.new.bytes = ap (λ k. take k c.pull.new.bytes) same in
    let new : Reach = record { pending = take (n - 0) c.pull.new.bytes; taken = c.self.inside.taken + n; left = (g.S.Source.feed c.pull.new.source).left } in
    got_more g.S.Source.tells old (reach_of c.args.self.now (g.S.Source.feed c.args.source.now)) used midway new c.requires
    (λ tells. c.in-Ok.ensures.moved tells ∙ ap (λ bytes. bytes ++ (g.S.Source.feed c.pull.new.source).left) (sym front))
    (omega (arith, taken, length-take (n - 0) c.pull.new.bytes, c.in-Ok.ensures.bounded, c.min-most.ensures))
    (omega (arith, c.in-Ok.ensures.bounded, c.min-most.ensures))

pub returns-in-Err-clause-breaks : goal.returns-in-Err-clause-breaks
returns-in-Err-clause-breaks g c old used midway =
    let taken = ap (λ (t : Taken). t.taken) c.self.view_is in
    let new : Reach = record { pending = []; taken = c.self.inside.taken; left = (g.S.Source.feed c.pull.new.source).left } in
    dries g.S.Source.tells old (reach_of c.args.self.now (g.S.Source.feed c.args.source.now)) used midway new c.requires refl taken (λ tells. c.in-Err.ensures.kept tells)
