use Rattle.std.proofs.Common.{◌≡◌, ◌⊎◌, ℕ, Bool, true, List, refl, sym, ap, subst}
use Rattle.std.specs.Prelude.{IsTrue}
use Rattle.dali_outside.specs.Outside.{Feed, Sight}
use Rattle.dali_day.specs.CrashPrefix.{EachSpellsFirst}
use Rattle.dali_day.specs.DayRun.{DayRun}
use Rattle.dali_day.specs.Promises.{DayPromises}
use Rattle.dali_day.specs.declared.end.DayEnd.{DayEnd}
use Rattle.dali_day.specs.declared.end.DayEnd.TheVariants.{Done}
use Rattle.dali_day.proofs.Ended.{day_whole, day_leaves, day_undamaged, day_same, day_other, day_complete}
use Rattle.dali_day.proofs.Prefixes.{day_prefix, premise_after}

promised : (old new : Feed) (before after : Sight) (end : DayEnd) → DayRun true true old new before after end → DayPromises old new before after end
promised old new before after end day = record {
  prefix = λ premise. day_prefix true true old new before after end refl refl premise day;
  twice = λ premise. premise_after old.left before after (day_prefix true true old new before after end refl refl premise day);
  whole = λ is. day_whole old new before after (subst (DayRun true true old new before after) is day);
  leaves = λ premise. day_leaves old new before after end premise day;
  no_damage = λ premise place why is. day_undamaged old new before after place why premise (subst (DayRun true true old new before after) is day);
  no_other_day = λ premise k is. day_same old new before after k premise (subst (DayRun true true old new before after) is day);
  other = λ k at. day_other old new before after k at end day;
  complete = λ premise clear. day_complete old new before after end premise clear day;
}

-- what follows for a source and a site that tell
pub day_promises : (s t : Bool) (old new : Feed) (before after : Sight) (end : DayEnd) → IsTrue s → IsTrue t → DayRun s t old new before after end → DayPromises old new before after end
day_promises s t old new before after end s_tells t_tells day =
    promised old new before after end (subst (λ b. DayRun true b old new before after end) t_tells (subst (λ b. DayRun b t old new before after end) s_tells day))
