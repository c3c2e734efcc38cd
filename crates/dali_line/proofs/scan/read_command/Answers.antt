use Rattle.std.proofs.Common.{◌≡◌, ◌∙◌, refl, sym, ap, subst, arith}
use Rattle.std.specs.Prelude.{IfErr}
use Rattle.std.proofs.lemmas.Result.{IfOk-weaker}
use Rattle.dali_line.specs.Commands.{is_command}
use Rattle.dali_line.specs.declared.line_end.LineEnd.TheVariants.{OutOfMemory}
use Rattle.dali_line.specs.Lines.{reach, Stops, MeetsLine}
use Rattle.dali_line.specs.Scan.{Finds, Steps, AtNewline, AtEnd, IsEnded, EndsWith, CutsOff}
use Rattle.dali_line.proofs.Founds.{if_err, line_begins, line_short, ended_found, last_found, last_stops}
use Rattle.dali_line.specs.Open.{Midway}
use Rattle.dali_line.proofs.Scanning.{midway_starts, wanted_line}
use Rattle.dali_line.proofs.scan.read_command.Goals as goal

pub turns-init : goal.turns-init
turns-init g c =
    let told = g.S.Source.tells in
    let start = reach c.args.block.now c.args.taken.now (g.S.Source.feed c.args.source.now) in
    record {
      midway = subst (λ line. Midway told start line start) (sym c.requires.line) (midway_starts told start c.requires.taken);
      faults = omega arith;
      quiet = refl;
      counted = omega arith;
    }

pub returns-in-Some-clause-found : goal.returns-in-Some-clause-found
returns-in-Some-clause-found g c =
    let told = g.S.Source.tells in
    let start = reach c.args.block.now c.args.taken.now (g.S.Source.feed c.args.source.now) in
    let now = reach c.step.new.block c.step.new.taken (g.S.Source.feed c.step.new.source) in
    let at : AtNewline told start c.step.new.line now =
    subst (Steps told start c.step.new.line now) c.in-Ok-Newline.field-0-is (c.in-Ok-Newline.ensures.steps start c.turns.invariant.midway) in
    let is = c.in-Some.ensures.some at.raw at.stands in
    let begins = ap is_command (sym is) ∙ line_begins c.in-Some.bytes.now c.in-Some.ensures.command in
    IfOk-weaker c.ended-in-Some.result (IsEnded c.in-Some.bytes.now) (Finds told start now)
    (ended_found told start now c.in-Some.bytes.now (subst (λ line. MeetsLine told line start now) (sym is) (at.gives begins)))
    c.ended-in-Some.ensures.ok

pub returns-in-Ok-End-clause-found : goal.returns-in-Ok-End-clause-found
returns-in-Ok-End-clause-found g c =
    let told = g.S.Source.tells in
    let start = reach c.args.block.now c.args.taken.now (g.S.Source.feed c.args.source.now) in
    let now = reach c.step.new.block c.step.new.taken (g.S.Source.feed c.step.new.source) in
    let at : AtEnd told start c.step.new.line now =
    subst (Steps told start c.step.new.line now) c.in-Ok-End.field-0-is (c.in-Ok-End.ensures.steps start c.turns.invariant.midway) in
    IfOk-weaker c.last.result (EndsWith at.midway.raw) (Finds told start now) (last_found told start now c.step.new.line at)
    (c.last.ensures.ok at.midway.raw at.midway.stands)

pub returns-in-Ok-End-clause-stops : goal.returns-in-Ok-End-clause-stops
returns-in-Ok-End-clause-stops g c =
    let told = g.S.Source.tells in
    let start = reach c.args.block.now c.args.taken.now (g.S.Source.feed c.args.source.now) in
    let now = reach c.step.new.block c.step.new.taken (g.S.Source.feed c.step.new.source) in
    let at : AtEnd told start c.step.new.line now =
    subst (Steps told start c.step.new.line now) c.in-Ok-End.field-0-is (c.in-Ok-End.ensures.steps start c.turns.invariant.midway) in
    if_err c.last.result (CutsOff c.args.number at.midway.raw) (Stops told c.args.number start now) (c.last.ensures.err at.midway.raw at.midway.stands)
    (last_stops told start now c.step.new.line at c.args.number)

pub returns-in-Ok-End-clause-failed : goal.returns-in-Ok-End-clause-failed
returns-in-Ok-End-clause-failed g c is =
    let told = g.S.Source.tells in
    let start = reach c.args.block.now c.args.taken.now (g.S.Source.feed c.args.source.now) in
    let now = reach c.step.new.block c.step.new.taken (g.S.Source.feed c.step.new.source) in
    let at : AtEnd told start c.step.new.line now =
    subst (Steps told start c.step.new.line now) c.in-Ok-End.field-0-is (c.in-Ok-End.ensures.steps start c.turns.invariant.midway) in
    absurd (subst (λ r. IfErr r (CutsOff c.args.number at.midway.raw)) is (c.last.ensures.err at.midway.raw at.midway.stands))

pub returns-in-Err-clause-stops : goal.returns-in-Err-clause-stops
returns-in-Err-clause-stops g c =
    c.in-Err.ensures.stops (reach c.args.block.now c.args.taken.now (g.S.Source.feed c.args.source.now)) c.turns.invariant.midway

pub returns-in-Some-clause-stops : goal.returns-in-Some-clause-stops
returns-in-Some-clause-stops g c =
    let told = g.S.Source.tells in
    let start = reach c.args.block.now c.args.taken.now (g.S.Source.feed c.args.source.now) in
    let now = reach c.step.new.block c.step.new.taken (g.S.Source.feed c.step.new.source) in
    let at : AtNewline told start c.step.new.line now =
    subst (Steps told start c.step.new.line now) c.in-Ok-Newline.field-0-is (c.in-Ok-Newline.ensures.steps start c.turns.invariant.midway) in
    let is = c.in-Some.ensures.some at.raw at.stands in
    let begins = ap is_command (sym is) ∙ line_begins c.in-Some.bytes.now c.in-Some.ensures.command in
    let wants = wanted_line told c.in-Some.bytes.now start now (line_short c.in-Some.bytes.now c.in-Some.ensures.command)
    (subst (λ line. MeetsLine told line start now) (sym is) (at.gives begins)) in
    if_err c.ended-in-Some.result (λ end. end ≡ OutOfMemory) (Stops told c.args.number start now) c.ended-in-Some.ensures.err
    (λ end is. subst (Stops told c.args.number start now) (sym is) wants)
