use Rattle.std.proofs.Common.{◌∙◌, ap, None}
use Rattle.dali_line.specs.Reading.{command_of, spelled_command}
use Rattle.dali_line.proofs.Laws.{read_some, read_none, read_only, too_many}
use Rattle.dali_line.proofs.reading.read_line.Goals as goal

pub returns-in-Some-clause-exact : goal.returns-in-Some-clause-exact
unfolding command_of
returns-in-Some-clause-exact c =
    c.read_pieces.ensures ∙ ap (spelled_command c.args.edition) (c.as_slice.ensures ∙ c.in-Some.ensures.some)

pub returns-in-Some-clause-some : goal.returns-in-Some-clause-some
returns-in-Some-clause-some c = read_some c.args.edition c.args.line.now _ (returns-in-Some-clause-exact c)

pub returns-in-Some-clause-none : goal.returns-in-Some-clause-none
returns-in-Some-clause-none c = read_none c.args.edition c.args.line.now _ (returns-in-Some-clause-exact c)

pub returns-in-Some-clause-only : goal.returns-in-Some-clause-only
returns-in-Some-clause-only c = read_only c.args.edition c.args.line.now _ (returns-in-Some-clause-exact c)

pub returns-in-None-clause-exact : goal.returns-in-None-clause-exact
returns-in-None-clause-exact c = too_many c.args.edition c.args.line.now c.in-None.ensures.none

pub returns-in-None-clause-none : goal.returns-in-None-clause-none
returns-in-None-clause-none c = read_none c.args.edition c.args.line.now None (returns-in-None-clause-exact c)

pub returns-in-None-clause-only : goal.returns-in-None-clause-only
returns-in-None-clause-only c = read_only c.args.edition c.args.line.now None (returns-in-None-clause-exact c)
