use Rattle.std.proofs.Common.{length, ◌∙◌}
use Rattle.dali_greedy.proofs.Standings.{empty_stand, none_in}
use Rattle.dali_greedy.proofs.turns.begin.Goals as goal

pub returns-clause-of : goal.returns-clause-of
returns-clause-of c = empty_stand c.args.problem.now _ c.requires.left (c.balances.auto.has ∙ c.requires.lines) c.balances.ensures

pub returns-clause-empty : goal.returns-clause-empty
returns-clause-empty c = λ j. none_in c.args.marks.now (length c.args.problem.now.items) j c.requires.left
