use Rattle.std.proofs.Common.{◌≡◌, ℕ, zero, suc, inl, inr, Bool, List, [], take, refl, sym, subst}
use Rattle.std.specs.Prelude.{IsTrue}
use Rattle.dali_entry.specs.EntryRecord.{EntryRecord}
use Rattle.dali_line.specs.Commands.{commands}
use Rattle.dali_machine.specs.History.{AreNext, IsLegal}
use Rattle.dali_machine.specs.Machine.{opening}
use Rattle.dali_outside.specs.Outside.{Feed, Sight, TellsAll, now}
use Rattle.dali_outside.specs.Stops.{MayLeave}
use Rattle.dali_outside.proofs.Images.{own_left}
use Rattle.dali_outside.proofs.Moments.{leaves_weaker, keeps_now}
use Rattle.dali_recover.specs.Spells.{Spells}
use Rattle.dali_recover.proofs.Spelling.{one_history}
use Rattle.dali_marks.proofs.Histories.{legal_true}
use Rattle.dali_register.specs.Front.{IsFront}
use Rattle.dali_register.specs.Leaving.{LeavesDay, SpellsFront}
use Rattle.dali_register.specs.TextOf.{text_of, lines_of}
use Rattle.dali_register.proofs.Fronts.{whole_front, front_within}
use Rattle.dali_register.proofs.Texts.{next_first}
use Rattle.dali_day.specs.CrashPrefix.{SpellsFirst, EachSpellsFirst, KeepsPrefix, CrashPrefix}
use Rattle.dali_day.specs.DayRun.{Opened, DayRun}
use Rattle.dali_day.specs.declared.end.DayEnd.{DayEnd}
use Rattle.dali_day.proofs.Lines.{lines_front}

take_nothing : (n : ℕ) → take {A = ℕ} n [] ≡ []
take_nothing zero = refl
take_nothing (suc n) = refl

-- what a stop before the first change leaves
pub kept_start : (file : List ℕ) (before : Sight) → EachSpellsFirst file before → (image text : List ℕ) → MayLeave (now before) image text → KeepsPrefix file before image text
kept_start file before premise image text left =
    let is : SpellsFirst file image = premise image text left in
    record {
      history = is.history;
      spells = is.spells;
      first = is.first;
      shown = take {A = ℕ} left.n [];
      printed = left.printed;
      front = subst (λ xs. IsFront xs (text_of is.history)) (sym (take_nothing left.n)) (record { rest = text_of is.history; parts = refl });
      begins = record { image = image; text = text; left = left; start = is.history; spells = is.spells.spells; begins = whole_front is.history };
      marks = legal_true is.history is.spells.legal;
    }

legal_front : (front whole : List EntryRecord) → IsFront front whole → AreNext opening 0 whole → IsLegal front
legal_front front whole is legal = record { entries = next_first opening 0 front is.rest (subst (AreNext opening 0) is.parts legal) }

-- the found history is one of the file's first commands
pub found_first : (file : List ℕ) (before : Sight) (found : List EntryRecord) → TellsAll before → EachSpellsFirst file before → Spells before.bytes found → IsFront (lines_of found) (commands file)
found_first file before found tells premise spelled =
    let is : SpellsFirst file before.bytes = premise before.bytes before.printed (own_left before tells) in
    subst (λ xs. IsFront (lines_of xs) (commands file)) (one_history before.bytes is.history found is.spells.spells spelled) is.first

-- What an opened day leaves at a stop.
module _ (s t : Bool) (old new : Feed) (before after : Sight) (end : DayEnd) (s_tells : IsTrue s) (t_tells : IsTrue t) (tells : TellsAll before) (premise : EachSpellsFirst old.left before)
    (o : Opened s t old new before after end) where
  -- all lines are the file's first commands
  pub all_first : IsFront (lines_of o.all) (commands old.left)
  all_first = elim o.far [
    | inl again ↦ subst (λ xs. IsFront (lines_of xs) (commands old.left)) (sym again.0) (found_first old.left before o.found tells premise (o.spelled t_tells))
    | inr done ↦ subst (λ xs. IsFront (lines_of xs) (commands old.left)) done (o.input s_tells).first
  ]

  kept_front : (image text : List ℕ) → SpellsFront o.found o.all before.printed image text → KeepsPrefix old.left before image text
  kept_front image text is = record {
    history = is.history;
    spells = record { spells = is.spells; legal = legal };
    first = front_within (lines_of is.history) (lines_of o.all) (commands old.left) (lines_front is.history o.all is.within) all_first;
    shown = is.shown;
    printed = is.printed;
    front = is.front;
    begins = record { image = before.bytes; text = before.printed; left = own_left before tells; start = o.found; spells = o.spelled t_tells; begins = is.begins };
    marks = legal_true is.history legal;
  }
    where
      legal : IsLegal is.history
      legal = legal_front is.history o.all is.within o.entries.legal

  opened_prefix : CrashPrefix old.left before after
  opened_prefix = leaves_weaker (LeavesDay before o.found o.all) (KeepsPrefix old.left before) before after
      (λ image text leaves. elim leaves [
        | inl start ↦ kept_start old.left before premise image text start
        | inr is ↦ kept_front image text is
      ]) (o.stops t_tells)

-- the crash prefix
pub day_prefix : (s t : Bool) (old new : Feed) (before after : Sight) (end : DayEnd) → IsTrue s → IsTrue t → EachSpellsFirst old.left before → DayRun s t old new before after end → CrashPrefix old.left before after
day_prefix s t old new before after end s_tells t_tells premise day = elim day.came [
  | inl unopened ↦ leaves_weaker (MayLeave (now before)) (KeepsPrefix old.left before) before after (kept_start old.left before premise) (unopened.stops t_tells)
  | inr opened ↦ opened_prefix s t old new before after end s_tells t_tells (day.told t_tells) premise opened
]

-- so the premise holds at the end as well
pub premise_after : (file : List ℕ) (before after : Sight) → CrashPrefix file before after → EachSpellsFirst file after
premise_after file before after prefix image text left =
    let kept : KeepsPrefix file before image text = keeps_now (KeepsPrefix file before) before after prefix image text left in
    record { history = kept.history; spells = kept.spells; first = kept.first }
