use Rattle.std.proofs.Common.{◌≡◌, ◌<◌, ◌∙◌, length, sym, arith}
use Rattle.dali_parts.proofs.Flooding.{read_none, read_some}
use Rattle.dali_parts.proofs.Numbering.{numbered_had, numbered_more, numbered_fresh}
use Rattle.dali_parts.proofs.classes.number.Goals as goal

pub run-requires-clause-free : goal.run-requires-clause-free
run-requires-clause-free c =
    let within : c.args.place < length c.args.flood.now.classes.items = omega (arith, c.requires.place, c.requires.numbered.flooding.size) in
    read_none c.args.flood.now.classes.items c.args.place c.index.result.now within c.index.ensures (sym c.is_some.ensures ∙ c.if-is_some.false)

pub run-requires-clause-fresh : goal.run-requires-clause-fresh
run-requires-clause-fresh c =
    numbered_fresh c.args.problem.now c.args.flood.now.classes.items c.args.flood.now.seen.items c.args.place c.args.count c.requires.numbered

pub returns-then-is_some-clause-numbered : goal.returns-then-is_some-clause-numbered
returns-then-is_some-clause-numbered c =
    let within : c.args.place < length c.args.flood.now.classes.items = omega (arith, c.requires.place, c.requires.numbered.flooding.size) in
    numbered_had c.args.problem.now c.args.flood.now.classes.items c.args.flood.now.seen.items c.args.place c.args.count
    (read_some c.args.flood.now.classes.items c.args.place c.index.result.now within c.index.ensures (sym c.is_some.ensures ∙ c.if-is_some.true)) c.requires.numbered

pub returns-clause-numbered : goal.returns-clause-numbered
returns-clause-numbered c =
    let within : c.args.place < length c.args.flood.now.classes.items = omega (arith, c.requires.place, c.requires.numbered.flooding.size) in
    numbered_more c.args.problem.now c.args.flood.now.classes.items c.run.new.self.classes.items c.args.flood.now.seen.items c.run.new.self.seen.items c.args.place c.args.count
    (read_none c.args.flood.now.classes.items c.args.place c.index.result.now within c.index.ensures (sym c.is_some.ensures ∙ c.if-is_some.false))
    c.in_ok-run.ensures.start c.in_ok-run.ensures.grows c.in_ok-run.ensures.flooding c.requires.numbered
