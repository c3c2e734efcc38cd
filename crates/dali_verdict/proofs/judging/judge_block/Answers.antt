use Rattle.std.proofs.Common.{length, arith}
use Rattle.dali_tree.proofs.Ranges.{choice_ranges}
use Rattle.dali_verdict.proofs.judging.judge_block.Goals as goal

pub allowed-requires-clause-in_range : goal.allowed-requires-clause-in_range
allowed-requires-clause-in_range c =
    choice_ranges (length c.args.block.now.problem.items) (length c.args.block.now.problem.lines) c.args.block.now.choice c.requires.choice

pub figures_of-requires : goal.figures_of-requires
figures_of-requires c = record {
  places = record { rising = c.requires.choice.set.rising; in_range = c.requires.choice.set.in_range };
  bound = omega (arith, c.in-Ok.ensures.small, c.requires.problem.total);
  branches = omega (arith, c.in-Ok.ensures.certified.within, c.requires.budget);
}

pub returns-in-Ok : goal.returns-in-Ok
returns-in-Ok c = (c.in-Ok.ensures.ok, c.figures_of.ensures)

pub returns : goal.returns
returns c = c.in-Err.ensures.err
