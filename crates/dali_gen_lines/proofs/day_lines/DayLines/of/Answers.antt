use Rattle.std.proofs.Common.{◌∙◌, ap}
use Rattle.dali_line.specs.Commands.{commands}
use Rattle.dali_gen_lines.proofs.Days.{day_commands, day_start}
use Rattle.dali_gen_lines.proofs.day_lines.DayLines.of.Goals as goal

pub returns-in_err-generate-clause-commands : goal.returns-in_err-generate-clause-commands
returns-in_err-generate-clause-commands c = day_commands c.args.n c.requires

pub invariant_of-result : goal.invariant_of-result
invariant_of-result c = day_start c.args.n c.in_ok-generate.field-0 c.requires c.in_ok-generate.ensures.exact

pub returns-clause-lines : goal.returns-clause-lines
returns-clause-lines c = ap commands c.in_ok-generate.ensures.exact ∙ day_commands c.args.n c.requires

pub returns-clause-commands : goal.returns-clause-commands
returns-clause-commands c = day_commands c.args.n c.requires
