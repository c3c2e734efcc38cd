use Rattle.std.proofs.Common.{Bool, List, [], ◌∷◌, refl}
use Rattle.dali_cert_print.specs.Block.{block_text}
use Rattle.dali_cert_text.proofs.Forming.{only_block}
use Rattle.dali_entry.specs.EntryRecord.{EntryRecord}
use Rattle.dali_machine.specs.Cycles.{IsMadeReport}
use Rattle.dali_machine.specs.History.{after_entry}
use Rattle.dali_machine.specs.Machine.{Machine, opening}
use Rattle.dali_machine.specs.Outcomes.{IsReported}
use Rattle.dali_machine.specs.Step.{step}
use Rattle.dali_machine.specs.declared.outcome.Outcome.{Outcome}
use Rattle.dali_machine.specs.declared.outcome.Outcome.TheVariants.{Done, No, Cycle, Queue, Stat, Ledger}
use Rattle.dali_machine.specs.declared.report.CycleReport.{CycleReport}
use Rattle.dali_outside.specs.Outside.{Feed, Sight}
use Rattle.dali_recover.specs.Reported.{AreReported}
use Rattle.dali_day.specs.DayRun.{Opened}
use Rattle.dali_day.specs.declared.end.DayEnd.{DayEnd}
use Rattle.dali_desk.specs.Blocks.{block_of, PrintsValid, HasValidBlock, HaveValidBlocks}

-- Each block that a day prints is one that `check` calls valid.

made_valid : (report : CycleReport) → IsMadeReport report → PrintsValid report
made_valid report made = record {
  block = block_of report;
  spelled = record {
    block = record {
      problem = made.problem;
      names = made.names.lines;
      ids = made.names.ids;
      budget = made.tells.budget;
      choice = made.tells.chosen.fits;
    };
    text = refl;
  };
  only = λ b told. only_block (block_text report.problem report.budget report.choice) (block_of report) b (record {
    block = record {
      problem = made.problem;
      names = made.names.lines;
      ids = made.names.ids;
      budget = made.tells.budget;
      choice = made.tells.chosen.fits;
    };
    text = refl;
  }) told;
  says = (made.tells.chosen.allowed, refl);
}

reported_valid : (o : Outcome) → IsReported o → HasValidBlock o
reported_valid Done told = tt
reported_valid (No code) told = tt
reported_valid (Cycle report) told = made_valid report told
reported_valid (Queue rows) told = tt
reported_valid (Stat pairs ids) told = tt
reported_valid (Ledger rows) told = tt

entries_valid : (m : Machine) (entries : List EntryRecord) → AreReported m entries → HaveValidBlocks m entries
entries_valid m [] are = tt
entries_valid m (e ∷ entries) are = (reported_valid (step e.edition m e.line e.choice).outcome are.0, entries_valid (after_entry m e) entries are.1)

pub opened_valid : (s t : Bool) (old new : Feed) (before after : Sight) (end : DayEnd) (o : Opened s t old new before after end) → HaveValidBlocks opening o.all
opened_valid s t old new before after end o = entries_valid opening o.all o.entries.reported
