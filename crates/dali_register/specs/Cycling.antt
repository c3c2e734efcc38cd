use Rattle.std.specs.Prelude.{◌≡◌, ℕ, List, Some}
use Rattle.dali_entry.specs.EntryRecord.{EntryRecord}
use Rattle.dali_machine.specs.Cycles.{accepted_cycle, problem_at}
use Rattle.dali_machine.specs.Machine.{Machine}
use Rattle.dali_machine.specs.declared.judged.Judged.{Judged}
use Rattle.dali_problem.specs.Clearing.{Clearing}
use Rattle.dali_register.specs.Holding.{MayHold}
use Rattle.dali_register.specs.Making.{IsMade}
use Rattle.dali_register.specs.Standing.{cycle_count}
use Rattle.dali_register.specs.declared.making.Made.{Made}

-- what was judged is an accepted CYCLE of this problem and budget
pub record AsksFor (problem : Clearing) (budget : ℕ) (m : Machine) (judgement : Judged) : Type 0 where
  pub moment : ℕ
  pub accepted : accepted_cycle judgement ≡ Some (moment, budget)
  pub problem_is : problem ≡ problem_at m moment

-- an entry was made of a line, with a choice of its own
pub record IsMadeOf (edition : ℕ) (m : Machine) (line : List ℕ) (made : Made) : Type 0 where
  pub entry : EntryRecord
  pub line_is : entry.line ≡ line
  pub may : MayHold edition m entry
  pub cycle : cycle_count entry.choice ≡ 1
  pub is_made : IsMade entry m made
