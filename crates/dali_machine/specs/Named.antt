use Rattle.std.specs.Prelude.{IsTrue}
use Rattle.std.specs.List.{All}
use Rattle.dali_base.specs.Spelling.{is_name}
use Rattle.dali_problem.specs.Clearing.{Clearing}

-- the accounts and assets of a problem's lines and the ids of its items are names
pub record HasNames (p : Clearing) : Type 0 where
  pub lines : All (λ line. IsTrue (is_name line.account) × IsTrue (is_name line.asset)) p.lines
  pub ids : All (λ item. IsTrue (is_name item.id)) p.items
