use Rattle.std.proofs.Common.{◌+◌, ◌*◌}
use Rattle.dali_record.proofs.trees.+trees.Given as goal

abbrev pub decreases-tree_of : goal.decreases-tree_of
decreases-tree_of l = 5 * l.depth + 4

abbrev pub decreases-end_of : goal.decreases-end_of
decreases-end_of l = 5 * l.depth + 3

abbrev pub decreases-deep_end_of : goal.decreases-deep_end_of
decreases-deep_end_of l = 5 * l.depth + 7

abbrev pub decreases-any_branch_of : goal.decreases-any_branch_of
decreases-any_branch_of l = 5 * l.depth + 6

abbrev pub decreases-branch_of : goal.decreases-branch_of
decreases-branch_of l = 5 * l.depth + 5
