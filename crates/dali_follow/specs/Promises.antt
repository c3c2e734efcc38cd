use Rattle.std.specs.Prelude.{◌≡◌, ◌≢◌, ◌⊎◌, ℕ, List}
use Rattle.dali_entry.specs.EntryRecord.{EntryRecord}
use Rattle.dali_outside.specs.Outside.{Feed, Sight}
use Rattle.dali_upkeep.specs.RaiseRun.{EachAtStart, EachSince, SpellsOne, BeginsWith}
use Rattle.dali_follow.specs.Endings.{Leaves}
use Rattle.dali_follow.specs.FollowPrefix.{FollowPrefix}
use Rattle.dali_follow.specs.Primary.{SpellsPrefix, ComesFrom, CanHold, IsClear, HoldsPrimary}
use Rattle.dali_follow.specs.Where.{IsOtherAt, IsBadAt, IsOverlongAt, AnswersOther, AnswersBad}
use Rattle.dali_follow.specs.declared.end.FollowEnd.{FollowEnd}
use Rattle.dali_follow.specs.declared.end.FollowEnd.TheVariants.{OtherDay, BadFrame, OutOfMemory}

-- What is promised of a follower, over a source and a site that tell, for the stream that the source had left at the start.
pub record FollowPromises (old new : Feed) (before after : Sight) (end : FollowEnd) : Type 0 where
  -- where every image at the start spells a legal history, so it is at every stop
  pub prefix : EachAtStart before SpellsOne → FollowPrefix old.left before after
  -- and so each image begins with what all those at the start begin with
  pub begins : EachAtStart before SpellsOne → (front : List EntryRecord) → EachAtStart before (BeginsWith front) → EachSince before after (BeginsWith front)
  -- and the premise holds again at the end, so another stream may follow
  pub again : EachAtStart before SpellsOne → EachAtStart after SpellsOne
  pub leaves : EachAtStart before SpellsOne → Leaves old new before after end
  -- a frame that is another's is answered by its number, and one that is bad or too long by its place
  pub other : (k : ℕ) → IsOtherAt old.left before k → AnswersOther k end
  pub bad : (place : ℕ) → IsBadAt old.left before place → AnswersBad place end
  pub overlong : (place : ℕ) → IsOverlongAt old.left before place → AnswersBad place end
  -- where a primary's stream is followed, each image spells a prefix of the primary's history, and no other day is found
  pub follows : (primary : List EntryRecord) → ComesFrom primary old.left before → EachSince before after (SpellsPrefix primary)
  pub no_other_day : (primary : List EntryRecord) → ComesFrom primary old.left before → (k : ℕ) → end ≢ OtherDay k
  -- where the journal can hold each shipped record, no frame is bad
  pub no_bad_frame : (primary : List EntryRecord) → ComesFrom primary old.left before → CanHold old.left before → (place : ℕ) → end ≢ BadFrame place
  -- and where nothing stands in the way, the primary's whole history is held, or memory was wanted
  pub complete : (primary : List EntryRecord) → ComesFrom primary old.left before → CanHold old.left before → IsClear primary old new before after →
      HoldsPrimary primary before after end ⊎ (end ≡ OutOfMemory)
