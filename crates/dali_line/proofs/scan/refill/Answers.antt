use Rattle.std.proofs.Common.{◌+◌, sym, subst, arith}
use Rattle.dali_line.specs.Lines.{reach, BreaksOff}
use Rattle.dali_line.specs.Open.{Midway}
use Rattle.dali_line.proofs.Scanning.{breaks_off, got_more}
use Rattle.dali_line.proofs.scan.refill.Goals as goal

pub returns-in-Ok-clause-more : goal.returns-in-Ok-clause-more
returns-in-Ok-clause-more g c old midway =
    let told = g.S.Source.tells in
    let feed = g.S.Source.feed c.fill.new.source in
    subst (λ n. Midway told old c.args.line.now (reach c.fill.new.self (c.args.taken.now + n) feed)) c.in-Ok.ensures.amount
    (got_more told old _ c.args.line.now midway c.fill.new.self feed.left c.requires.block c.in-Ok.ensures.moved
    (omega (arith, c.in-Ok.ensures.amount, c.in-Ok.ensures.bounded, c.requires.taken)))

pub returns-in-Err-clause-stops : goal.returns-in-Err-clause-stops
returns-in-Err-clause-stops g c old midway =
    let told = g.S.Source.tells in
    let feed = g.S.Source.feed c.fill.new.source in
    subst (λ pending. BreaksOff told old (reach pending c.args.taken.now feed)) (sym c.in-Err.ensures.none)
    (breaks_off told old _ c.args.line.now midway feed.left c.requires.block c.in-Err.ensures.kept)
