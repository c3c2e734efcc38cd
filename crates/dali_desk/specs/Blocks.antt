use Rattle.std.specs.Prelude.{List, [], ◌∷◌}
use Rattle.dali_cert_print.specs.Block.{block_text}
use Rattle.dali_cert_text.specs.declared.block.Block.{Block}
use Rattle.dali_entry.specs.EntryRecord.{EntryRecord}
use Rattle.dali_machine.specs.History.{after_entry}
use Rattle.dali_machine.specs.Machine.{Machine}
use Rattle.dali_machine.specs.Step.{step}
use Rattle.dali_machine.specs.declared.outcome.Outcome.{Outcome}
use Rattle.dali_machine.specs.declared.outcome.Outcome.TheVariants.{Cycle}
use Rattle.dali_machine.specs.declared.report.CycleReport.{CycleReport}
use Rattle.dali_verdict.specs.Verdict.{IsVerdict, figures_of}
use Rattle.dali_verdict.specs.declared.verdict.Verdict.TheVariants.{Valid}

-- the block of a cycle's report
abbrev pub block_of : CycleReport → Block
block_of report = record { problem = report.problem; budget = report.budget; choice = report.choice }

-- what is to be said of the block that a cycle prints: it is valid, with the figures of the report's choice
abbrev pub PrintsValid : CycleReport → Type 0
PrintsValid report = IsVerdict (block_text report.problem report.budget report.choice) (Valid (figures_of (block_of report)))

abbrev pub HasValidBlock : Outcome → Type 0
HasValidBlock (Cycle report) = PrintsValid report
HasValidBlock _ = Unit {0}

-- so it is of each cycle among these entries, taken one after the other
abbrev pub HaveValidBlocks : Machine → List EntryRecord → Type 0
HaveValidBlocks m [] = Unit {0}
HaveValidBlocks m (e ∷ es) = HasValidBlock (step e.edition m e.line e.choice).outcome × HaveValidBlocks (after_entry m e) es
