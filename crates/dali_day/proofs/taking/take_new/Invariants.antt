use Rattle.std.proofs.Common.{◌≡◌, ◌≤◌, ◌+◌, ◌-◌, List}
use Rattle.dali_entry.specs.EntryRecord.{EntryRecord}
use Rattle.dali_line.specs.Lines.{MOST_OF_FILE}
use Rattle.dali_outside.specs.Outside.{Feed, Sight}
use Rattle.dali_day.specs.SoFar.{HasFound, GoesOnTo, GoesOnSome}
use Rattle.dali_day.proofs.taking.take_new.Given as goal

-- so far
abbrev pub invariant-loop-end : goal.invariant-loop-end
invariant-loop-end g l = record {
  counted : l.register.state.machine.commands ≡ l.lines.given;
  few : l.lines.given ≤ MOST_OF_FILE;
  edition : l.register.journal.edition ≡ l.fn.register.journal.edition;
  far : GoesOnSome g.S.Source.tells g.T.Site.tells l.lines l.register (g.S.Source.feed l.source) (g.T.Site.sight l.site);
  to : (feed : Feed) (sight : Sight) (found : List EntryRecord) → HasFound g.T.Site.tells sight l.fn.register.journal.edition found →
      GoesOnTo g.S.Source.tells g.T.Site.tells feed sight found l.fn.lines l.fn.register (g.S.Source.feed l.fn.source) (g.T.Site.sight l.fn.site) →
      GoesOnTo g.S.Source.tells g.T.Site.tells feed sight found l.lines l.register (g.S.Source.feed l.source) (g.T.Site.sight l.site);
}

abbrev pub decreases-loop-end : goal.decreases-loop-end
decreases-loop-end g l = (MOST_OF_FILE + 1) - l.lines.given
