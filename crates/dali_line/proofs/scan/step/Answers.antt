use Rattle.std.proofs.Common.{◌++◌, inl, refl, sym, subst, arith}
use Rattle.dali_line.specs.Lines.{reach}
use Rattle.dali_line.specs.Open.{Midway}
use Rattle.dali_line.proofs.Scanning.{goes_on, skips_line, meets_line, long_within}
use Rattle.dali_line.proofs.scan.step.Goals as goal

pub returns-in-Ok-true-move_line-clause-steps : goal.returns-in-Ok-true-move_line-clause-steps
returns-in-Ok-true-move_line-clause-steps g c old midway =
    let told = g.S.Source.tells in
    let now = reach c.args.block.now c.args.taken.now (g.S.Source.feed c.args.source.now) in
    let met = c.in-Ok-true-move_line.ensures.met c.in-Ok-true-move_line.field-0-test in
    let stands = met.2 midway.raw midway.stands in
    record {
      raw = midway.raw ++ met.0;
      stands = stands;
      gives = λ begins. meets_line told old now c.args.line.now midway met.0 c.move_line.new.block met.1 stands.one begins;
      skips = λ skipped. skips_line told old now c.args.line.now midway met.0 c.move_line.new.block met.1 stands.one skipped;
    }

pub returns-in-Ok-false-move_line-clause-steps : goal.returns-in-Ok-false-move_line-clause-steps
returns-in-Ok-false-move_line-clause-steps g c old midway =
    let told = g.S.Source.tells in
    let feed = g.S.Source.feed c.args.source.now in
    let now = reach c.args.block.now c.args.taken.now feed in
    let open_on = c.in-Ok-false-move_line.ensures.open c.in-Ok-false-move_line.field-0-test in
    subst (λ pending. Midway told old c.move_line.new.line (reach pending c.args.taken.now feed)) (sym open_on.0)
    (goes_on told old now c.args.line.now midway c.move_line.new.line (open_on.1 midway.raw midway.stands))

pub returns-in-Err-move_line-clause-stops : goal.returns-in-Err-move_line-clause-stops
returns-in-Err-move_line-clause-stops g c old midway =
    let told = g.S.Source.tells in
    let now = reach c.args.block.now c.args.taken.now (g.S.Source.feed c.args.source.now) in
    let long = c.in-Err-move_line.ensures.long midway.raw midway.stands in (
      refl,
      record {
        got = midway.got;
        moved = midway.gets.moved;
        within = omega (arith, midway.gets.taken, midway.gets.within);
        long = inl (long_within told old now c.args.line.now midway long.0 long.1 long.2 long.3);
      },
    )
