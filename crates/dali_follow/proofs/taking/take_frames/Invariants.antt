use Rattle.std.proofs.Common.{◌≡◌, ℕ, ◌-◌, ◌≤◌, false, List}
use Rattle.dali_entry.specs.EntryRecord.{EntryRecord}
use Rattle.dali_outside.specs.Outside.{Feed, Sight}
use Rattle.dali_recover.specs.Recovers.{IsFound}
use Rattle.dali_replica.specs.Limits.{most_stream}
use Rattle.dali_follow.specs.SoFar.{FollowsTo}
use Rattle.dali_follow.proofs.taking.take_frames.Given as goal

-- what stood at the start stands now, after some more frames
abbrev pub invariant-loop : goal.invariant-loop
invariant-loop g l = record {
  found : IsFound (g.T.Site.sight l.site).size l.found;
  more : l.frames.over ≡ false;
  place : l.frames.place ≤ most_stream;
  follows : (feed : Feed) (mid : Sight) (edition : ℕ) (history : List EntryRecord) →
      FollowsTo g.S.Source.tells g.T.Site.tells feed mid edition history l.fn.frames l.fn.found (g.S.Source.feed l.fn.source) (g.T.Site.sight l.fn.site) →
      FollowsTo g.S.Source.tells g.T.Site.tells feed mid edition history l.frames l.found (g.S.Source.feed l.source) (g.T.Site.sight l.site);
}

abbrev pub decreases-loop : goal.decreases-loop
decreases-loop g l = most_stream - l.frames.place
