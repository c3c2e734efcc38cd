use Rattle.dali_restrict.proofs.Restricting.{search_finds}
use Rattle.dali_restrict.proofs.restriction.number_of.Goals as goal

pub returns-in-Err-clause-same : goal.returns-in-Err-clause-same
returns-in-Err-clause-same c = absurd (search_finds c.args.lines.now c.args.line c.in-Err.field-0 c.in-Err.ensures.position c.requires.rising c.requires.there)
