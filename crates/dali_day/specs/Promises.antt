use Rattle.std.specs.Prelude.{◌≡◌, ◌≢◌, ◌⊎◌, ℕ, List}
use Rattle.dali_journal.specs.declared.refusal.Damage.{Damage}
use Rattle.dali_outside.specs.Outside.{Feed, Sight}
use Rattle.dali_day.specs.Complete.{IsClear, IsOtherAt, AnswersOther}
use Rattle.dali_day.specs.CrashPrefix.{EachSpellsFirst, CrashPrefix}
use Rattle.dali_day.specs.DayRun.{DayRun}
use Rattle.dali_day.specs.Endings.{IsWhole, Leaves}
use Rattle.dali_day.specs.declared.end.DayEnd.{DayEnd}
use Rattle.dali_day.specs.declared.end.DayEnd.TheVariants.{Done, Damaged, OtherDay, OutOfMemory}

-- What is promised of a day over its journal, over a source and a site that tell, for the file that the source had left at
-- the start.
pub record DayPromises (old new : Feed) (before after : Sight) (end : DayEnd) : Type 0 where
  -- the headline: so it is at every stop
  pub prefix : EachSpellsFirst old.left before → CrashPrefix old.left before after
  -- and the premise holds again at the end, so another run of the file may follow
  pub twice : EachSpellsFirst old.left before → EachSpellsFirst old.left after
  pub whole : end ≡ Done → IsWhole old.left before after
  pub leaves : EachSpellsFirst old.left before → Leaves old new before after end
  -- where it holds no damage is found, and no other day
  pub no_damage : EachSpellsFirst old.left before → (place : ℕ) (why : Damage) → end ≢ Damaged place why
  pub no_other_day : EachSpellsFirst old.left before → (k : ℕ) → end ≢ OtherDay k
  -- a found entry of another line is answered by its number
  pub other : (k : ℕ) → IsOtherAt k old.left before → AnswersOther k end
  -- and a day in whose way nothing stands is done, or wants memory
  pub complete : EachSpellsFirst old.left before → IsClear old new before after → (end ≡ Done) ⊎ (end ≡ OutOfMemory)
