use Rattle.std.specs.Prelude.{List}
use Rattle.dali_problem.specs.declared.mark.Mark.{Mark}
use Rattle.dali_problem.specs.declared.mark.Mark.TheVariants.{Undecided}
use Rattle.dali_problem.specs.Clearing.{Clearing}
use Rattle.dali_problem.specs.Feasible.{ArePlaces}
use Rattle.dali_greedy.specs.declared.growing.Ground.{Ground}
use Rattle.dali_greedy.specs.Order.{IsOrderOf}
use Rattle.dali_greedy.specs.Standing.{HasMarked, AreColumns}

-- the columns of p, the order of its places, and its undecided places
pub record IsGroundOf (p : Clearing) (f : List Mark) (ground : Ground) : Type 0 where
  pub columns : AreColumns p ground.columns
  pub order : IsOrderOf p ground.order.items
  pub places : ArePlaces p ground.members
  pub members : HasMarked p f Undecided ground.members
