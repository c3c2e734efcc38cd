use Rattle.std.specs.Prelude.{◌≡◌, ℕ, Bool, true, false, List, [], ◌∷◌, length}
use Rattle.std.specs.List.{count_by, flat_map}
use Rattle.dali_machine.specs.declared.outcome.Outcome.{Outcome}
use Rattle.dali_machine.specs.declared.outcome.Outcome.TheVariants.{No, Cycle}
use Rattle.dali_machine.specs.declared.report.CycleReport.{CycleReport}
use Rattle.dali_summary.specs.declared.figures.CycleFigures.{CycleFigures}

-- what was answered to the command of a number
pub record Answer : Type 0 where
  pub number : ℕ
  pub outcome : Outcome

-- whether a command was refused
abbrev pub is_refusal : Outcome → Bool
is_refusal (No code) = true
is_refusal _ = false

-- what a summary keeps of the cycle that a command of this number did
abbrev pub figures_of : ℕ → CycleReport → CycleFigures
figures_of number r = record {
  command = number;
  mark = r.mark;
  value = r.value;
  count = r.count;
  bound = r.bound;
  branchings = r.branchings;
}

-- that of any command: nothing, where it did no cycle
abbrev pub cycle_of : ℕ → Outcome → List CycleFigures
cycle_of number (Cycle report) = figures_of number report ∷ []
cycle_of number _ = []

-- what a summary keeps of the answers: how many there are, how many of them refuse, and the cycles in order
pub record Tally : Type 0 where
  pub commands : ℕ
  pub refused : ℕ
  pub cycles : List CycleFigures

unfoldable pub tally_of : List Answer → Tally
tally_of answers = record {
  commands = length answers;
  refused = count_by (λ (a : Answer). is_refusal a.outcome) answers;
  cycles = flat_map (λ (a : Answer). cycle_of a.number a.outcome) answers;
}
