use Rattle.std.proofs.Common.{◌≡◌, ◌≤◌, ℕ, List, [], take}
use Rattle.dali_entry.specs.EntryRecord.{EntryRecord}
use Rattle.dali_line.specs.Lines.{MOST_OF_FILE}
use Rattle.dali_machine.specs.Machine.{opening}
use Rattle.dali_outside.specs.Outside.{Feed, Sight}
use Rattle.dali_day.specs.SoFar.{HasFound, ReplaysTo, ReplaysSome}
use Rattle.dali_day.proofs.replay.replay.Given as goal

-- the first entries were gone over again
abbrev pub invariant-loop-entry : goal.invariant-loop-entry
invariant-loop-entry g l = record {
  counted : l.state.machine.commands ≡ l.lines.given;
  few : l.lines.given ≤ MOST_OF_FILE;
  far : ReplaysSome g.S.Source.tells g.T.Site.tells l.entries (take l.entry-index l.entries) l.lines l.state.machine (g.S.Source.feed l.source) (g.T.Site.sight l.site);
  to : (feed : Feed) (sight : Sight) (tail edition : ℕ) → HasFound g.T.Site.tells sight edition l.entries →
      ReplaysTo g.S.Source.tells g.T.Site.tells feed sight l.entries [] tail edition l.fn.lines opening (g.S.Source.feed l.fn.source) (g.T.Site.sight l.fn.site) →
      ReplaysTo g.S.Source.tells g.T.Site.tells feed sight l.entries (take l.entry-index l.entries) tail edition l.lines l.state.machine (g.S.Source.feed l.source) (g.T.Site.sight l.site);
}
