use Rattle.std.proofs.Common.{List, set, if◌then◌else◌, ap, ◌∙◌}
use Rattle.dali_problem.specs.declared.mark.Mark.{Mark}
use Rattle.dali_problem.specs.declared.mark.Mark.TheVariants.{Undecided, Chosen, Left}
use Rattle.dali_check.proofs.Entering.{put_back}
use Rattle.dali_search.specs.Nodes.{leaf_bound}
use Rattle.dali_search.proofs.Finishing.{below_side}
use Rattle.dali_search.proofs.leaf.side.Goals as goal

pub returns-clause-marks : goal.returns-clause-marks
returns-clause-marks c =
    c.free.ensures.marks
    ∙ ap (λ (f : List Mark). set f c.args.place Undecided) (c.in_ok-node.ensures.marks ∙ c.fix.ensures.marks)
    ∙ put_back c.args.desk.now.partial.marks c.args.place (if c.args.chosen then Chosen else Left) c.requires.undecided

pub returns-clause-below : goal.returns-clause-below
returns-clause-below c =
    below_side c.args.problem.now c.args.desk.now.partial.marks c.fix.new.self.marks c.args.place (if c.args.chosen then Chosen else Left) c.args.start.now
    (leaf_bound c.in_ok-node.node.end) c.requires.undecided c.fix.ensures.marks c.in_ok-node.ensures.below
