use Rattle.std.proofs.Common.{◌-◌, length}
use Rattle.dali_search.proofs.build.+tree_of.Given as goal

abbrev pub decreases-tree_of : goal.decreases-tree_of
decreases-tree_of l = length l.nodes.now - l.at
