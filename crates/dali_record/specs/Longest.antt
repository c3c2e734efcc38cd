use Rattle.std.specs.Prelude.{ℕ, ◌+◌, ◌*◌, ◌≤◌, Bool, true, IsTrue, ◌&&◌, nat_le, length, Option, IfSome}
use Rattle.std.specs.List.{All, sum_by}
use Rattle.dali_tree.specs.declared.tree.Tree.{Tree}
use Rattle.dali_tree.specs.declared.tree.End.{End}
use Rattle.dali_tree.specs.declared.tree.End.TheOpen.{Tree-F, End-F}
use Rattle.dali_tree.specs.declared.tree.End.TheFolds.{fold-End, fold-Tree}
use Rattle.dali_tree.specs.declared.choice.Choice.{Choice}
use Rattle.dali_tree.specs.Fits.{Fits}
use Rattle.dali_record.specs.IsRecord.{branches_of}

-- the greatest length of a record with a line of n bytes and the choice of a cycle, whose problem has so many items and
-- lines and which has this budget
abbrev pub longest : ℕ → ℕ → ℕ → ℕ → ℕ
longest n items lines budget = n + 8 + 14 * items + (2 * budget + items) * (7 + 5 * items + 10 * lines)

-- each node has at most so many fixes; a side stands for whether its nodes have
abbrev pub few_step : End-F Bool Bool → Bool
few_step (End-F.Bound lam) = true
few_step (End-F.Short line) = true
few_step (End-F.Branch place lam inside outside) = inside && outside

abbrev pub few_node : ℕ → Tree-F Bool Bool → Bool
few_node items node = nat_le (length node.fixes) items && node.end

abbrev pub few_fixes : ℕ → Tree → Bool
few_fixes items = fold-Tree Bool Bool few_step (few_node items)

abbrev pub few_in_end : ℕ → End → Bool
few_in_end items = fold-End Bool Bool few_step (few_node items)

-- a choice of a cycle with so many items, lines and branchings, as an allowed one is: it fits them, no more members than
-- items are in its parts, and no node fixes more
pub record IsSized (items lines budget : ℕ) (choice : Choice) : Type 0 where
  pub fits : Fits items lines choice
  pub members : sum_by (λ part. length part.members) choice.parts ≤ items
  pub fixes : All (λ part. IsTrue (few_fixes items part.tree)) choice.parts
  pub branches : branches_of choice.parts ≤ budget
