use Rattle.std.specs.Prelude.{◌≡◌, ℕ, ◌<◌, Bool, true, Some, max, List, length, slice_set, if◌then◌else◌}
use Rattle.std.specs.List.{list_all}
use Rattle.dali_problem.specs.declared.mark.Mark.{Mark}
use Rattle.dali_problem.specs.declared.mark.Mark.TheVariants.{Undecided, Chosen, Left}
use Rattle.dali_problem.specs.Clearing.{Clearing}
use Rattle.dali_problem.specs.Partial.{mark}
use Rattle.dali_tree.specs.Fits.{fix_fits}
use Rattle.dali_fixes.specs.Fixed.{after}
use Rattle.dali_search.specs.declared.node.Node.{Node}
use Rattle.dali_search.specs.declared.node.Total.{Total}
use Rattle.dali_search.specs.Nodes.{node_at, total_at}
use Rattle.dali_search.specs.Arena.{HoldFrom}

-- the mark of a branch's place on a side
abbrev pub side_mark : Bool → Mark
side_mark chosen = if chosen then Chosen else Left

-- both sides of the branched node k at f
pub record IsDown (p : Clearing) (f : List Mark) (nodes : List Node) (totals : List Total) (k place inside outside : ℕ) : Type 0 where
  pub undecided : mark f place ≡ Undecided
  pub order : k < inside
  pub next : inside < outside
  pub within : outside < length nodes
  pub size : length totals ≡ length nodes
  pub greatest : (total_at totals k).greatest ≡ max (total_at totals inside).greatest (total_at totals outside).greatest
  pub inner_fits : list_all (fix_fits (length p.items) (length p.lines)) (node_at nodes inside).fixes ≡ true
  pub outer_fits : list_all (fix_fits (length p.items) (length p.lines)) (node_at nodes outside).fixes ≡ true
  pub inner_holds : HoldFrom p (slice_set f place Chosen) (node_at nodes inside).fixes
  pub outer_holds : HoldFrom p (slice_set f place Left) (node_at nodes outside).fixes

-- from f one of the sides was entered, and its fixes lead to g
pub record IsTurned (p : Clearing) (f g : List Mark) (nodes : List Node) (place inside outside at : ℕ) : Type 0 where
  pub chosen : Bool
  pub is : at ≡ (if chosen then inside else outside)
  pub leads : after p (node_at nodes at).fixes (slice_set f place (side_mark chosen)) ≡ Some g
