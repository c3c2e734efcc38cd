use Rattle.std.proofs.Common.{◌≡◌, ◌∙◌, ℕ, zero, suc, ◌+◌, ◌-◌, ◌*◌, ◌/◌, ◌≤◌, ◌<◌, ◌⊎◌, inl, inr, Bool, true, List, [], ◌∷◌, ◌++◌, length, drop, refl, sym, ap, subst, arith, append_assoc, append-nil, length-append}
use Rattle.std.specs.Prelude.{IsTrue}
use Rattle.std.specs.List.{All, AllByRecursion}
use Rattle.std.proofs.lemmas.Bool.{cases_lt}
use Rattle.std.proofs.lemmas.List.Elements.{recursion_from_All}
use Rattle.dali_entry.specs.EntryRecord.{EntryRecord}
use Rattle.dali_journal.specs.Frames.{frames_length}
use Rattle.dali_journal.specs.declared.refusal.Damage.{Damage}
use Rattle.dali_line.specs.Commands.{commands}
use Rattle.dali_line.specs.Line.{MOST_OF_COMMAND}
use Rattle.dali_line.specs.Lines.{FirstIsLong, MOST_OF_FILE}
use Rattle.dali_machine.specs.History.{AreNext}
use Rattle.dali_machine.specs.Machine.{opening}
use Rattle.dali_outside.specs.Outside.{Feed, Sight, TellsAll}
use Rattle.dali_outside.proofs.Images.{own_left}
use Rattle.dali_record.specs.RecordText.{record_text}
use Rattle.dali_recover.specs.Spells.{records_of, Spells, SpellsLegal}
use Rattle.dali_recover.proofs.Damages.{not_damaged}
use Rattle.dali_recover.proofs.Spelling.{one_history}
use Rattle.dali_register.specs.Front.{IsFront}
use Rattle.dali_register.specs.Standing.{AreEntries}
use Rattle.dali_register.specs.TextOf.{text_of, lines_of}
use Rattle.dali_register.proofs.Fronts.{whole_front, front_within}
use Rattle.dali_register.proofs.Texts.{lines_append}
use Rattle.dali_day.specs.Complete.{NextFits, IsClear, IsOtherAt, AnswersOther}
use Rattle.dali_day.specs.CrashPrefix.{SpellsFirst, EachSpellsFirst}
use Rattle.dali_day.specs.DayRun.{TakesDay, HasAtRest, HasDone, DiffersAt, IsNotFirst, NextIsOther, FitsNot, Unopened, Opened, DayRun}
use Rattle.dali_day.specs.Endings.{IsWhole, LeavesOne, DoesWhole, IsFull, Leaves}
use Rattle.dali_day.specs.declared.end.DayEnd.{DayEnd}
use Rattle.dali_day.specs.declared.end.DayEnd.TheVariants.{Done, ReadFault, PrintFault, DiskFault, Damaged, OtherDay, LongLine, LongFile, JournalFull, OutOfMemory}
use Rattle.dali_day.proofs.Inputs.{all_taken}
use Rattle.dali_day.proofs.Lines.{lines_front}
use Rattle.dali_day.proofs.Prefixes.{found_first}

-- a device at rest spells its entries
rest_spells : (edition : ℕ) (found all : List EntryRecord) (s : Sight) → HasAtRest edition all s → AreEntries edition found all → SpellsLegal s.bytes all
rest_spells edition found all s at entries = record {
  spells = record { edition = edition; holds = record { tail = at.tail; at = at.rest.holds }; entries = entries.held };
  legal = record { entries = entries.legal };
}

-- An opened day whose end isn't a fault of the disk.
module _ (old new : Feed) (before after : Sight) (end : DayEnd) (o : Opened true true old new before after end) (no_disk : end ≡ DiskFault → ⊥) where
  spelled_now : SpellsLegal after.bytes o.all
  spelled_now = rest_spells o.edition o.found o.all after (o.rest refl no_disk) o.entries

  -- the entries done are a front of all
  done_front : IsFront o.done o.all
  done_front = elim o.far [
    | inl again ↦ subst (IsFront o.done) (sym again.0) again.1
    | inr done ↦ subst (IsFront o.done) done (whole_front o.done)
  ]

  leaves_one : after.printed ≡ before.printed ++ text_of o.done → LeavesOne before after
  leaves_one text = record {
    history = o.all;
    spells = spelled_now;
    old_or_printed = elim o.far [
      | inl again ↦ inl (subst (Spells before.bytes) (sym again.0) (o.spelled refl))
      | inr done ↦ inr (text ∙ ap (λ xs. before.printed ++ text_of xs) done)
    ];
  }

  does_whole : after.printed ≡ before.printed ++ text_of o.done → DoesWhole old new before after end
  does_whole text = record { history = o.all; spells = spelled_now; done = o.done; front = done_front; takes = o.input refl; text = text }

-- the end of a day that found no history, where the device spelled one
module _ (old new : Feed) (before after : Sight) (end : DayEnd) (u : Unopened true old new before after end) (tells : TellsAll before) (premise : EachSpellsFirst old.left before) where
  leaves_old : LeavesOne before after
  leaves_old =
      let is : SpellsFirst old.left before.bytes = premise before.bytes before.printed (own_left before tells) in
      record {
        history = is.history;
        spells = subst (λ bs. SpellsLegal bs is.history) (sym (u.unwritten refl)) is.spells;
        old_or_printed = inl is.spells.spells;
      }

-- a day that is done
pub day_whole : (old new : Feed) (before after : Sight) → DayRun true true old new before after Done → IsWhole old.left before after
day_whole old new before after day = elim day.came [
  | inl u ↦ absurd u.ends
  | inr o ↦ record {
    history = o.all;
    spells = spelled_now old new before after Done o (λ is. absurd (Prim.cc));
    lines = ap lines_of (sym o.because) ∙ sym (all_taken old new (lines_of o.done) (o.input refl));
    text = o.text refl ∙ ap (λ xs. before.printed ++ text_of xs) o.because;
    firm = (o.rest refl (λ is. absurd (Prim.cc))).rest.firm;
    found = o.found;
    spelled = o.spelled refl;
    begins = record { rest = o.entries.added.more; parts = o.entries.added.parts };
  }
]

-- what each ending leaves
pub day_leaves : (old new : Feed) (before after : Sight) (end : DayEnd) → EachSpellsFirst old.left before → DayRun true true old new before after end → Leaves old new before after end
day_leaves old new before after Done premise day = elim day.came [
  | inl u ↦ absurd u.ends
  | inr o ↦ leaves_one old new before after Done o (λ is. absurd (Prim.cc)) (o.text refl)
]
day_leaves old new before after ReadFault premise day = elim day.came [
  | inl u ↦ absurd u.ends
  | inr o ↦ (leaves_one old new before after ReadFault o (λ is. absurd (Prim.cc)) (o.text refl), does_whole old new before after ReadFault o (λ is. absurd (Prim.cc)) (o.text refl))
]
day_leaves old new before after PrintFault premise day = tt
day_leaves old new before after DiskFault premise day = tt
day_leaves old new before after (Damaged place why) premise day = tt
day_leaves old new before after (OtherDay k) premise day = tt
day_leaves old new before after (LongLine k) premise day = elim day.came [
  | inl u ↦ absurd u.ends
  | inr o ↦ (leaves_one old new before after (LongLine k) o (λ is. absurd (Prim.cc)) (o.text refl), does_whole old new before after (LongLine k) o (λ is. absurd (Prim.cc)) (o.text refl))
]
day_leaves old new before after LongFile premise day = elim day.came [
  | inl u ↦ absurd u.ends
  | inr o ↦ (leaves_one old new before after LongFile o (λ is. absurd (Prim.cc)) (o.text refl), does_whole old new before after LongFile o (λ is. absurd (Prim.cc)) (o.text refl))
]
day_leaves old new before after (JournalFull need left) premise day = elim day.came [
  | inl u ↦ absurd u.ends
  | inr o ↦ (
    leaves_one old new before after (JournalFull need left) o (λ is. absurd (Prim.cc)) (o.text refl),
    record {
      history = o.all;
      spells = spelled_now old new before after (JournalFull need left) o (λ is. absurd (Prim.cc));
      text = o.text refl ∙ ap (λ xs. before.printed ++ text_of xs) o.because.0;
      edition = o.edition;
      fits_not = o.because.1;
    },
  )
]
day_leaves old new before after OutOfMemory premise day = elim day.came [
  | inl u ↦ leaves_old old new before after OutOfMemory u (day.told refl) premise
  | inr o ↦ leaves_one old new before after OutOfMemory o (λ is. absurd (Prim.cc)) (o.text refl)
]

-- lists that begin alike go on alike
goes_alike : {X : Type 0} (front a b : List X) → front ++ a ≡ front ++ b → a ≡ b
goes_alike [] a b same = same
goes_alike (x ∷ front) a b same = goes_alike front a b (Prim.cc)

first_is : (line c : List ℕ) (lines rest : List (List ℕ)) → IsNotFirst line (c ∷ rest) → c ∷ rest ≡ line ∷ lines → ⊥
first_is line c lines rest other same = other (Prim.cc)

not_first : (line : List ℕ) (rest lines : List (List ℕ)) → IsNotFirst line rest → rest ≡ line ∷ lines → ⊥
not_first line [] lines other same = absurd (Prim.cc)
not_first line (c ∷ rest) lines other same = first_is line c lines rest other same

-- a history of the file's first commands doesn't differ from them
not_other : (file : List ℕ) (done behind : List EntryRecord) (kept : EntryRecord) → IsFront (lines_of (done ++ kept ∷ behind)) (commands file) → DiffersAt kept.line (lines_of done) (commands file) → ⊥
not_other file done behind kept first differs =
    not_first kept.line differs.rest (lines_of behind ++ first.rest) differs.other
    (goes_alike (lines_of done) differs.rest (kept.line ∷ (lines_of behind ++ first.rest))
    (sym differs.parts ∙ first.parts ∙ ap (λ xs. xs ++ first.rest) (lines_append done (kept ∷ behind)) ∙ append_assoc (lines_of done) (kept.line ∷ lines_of behind) first.rest))

-- no command is long where all are short
none_long : (cs : List (List ℕ)) (i : ℕ) → AllByRecursion (λ c. length c ≤ MOST_OF_COMMAND) cs → FirstIsLong (drop i cs) → ⊥
none_long [] zero short long = long
none_long [] (suc i) short long = long
none_long (c ∷ cs) zero short long = absurd (omega (arith, short.0, long))
none_long (c ∷ cs) (suc i) short long = none_long cs i short.1 long

not_long : (k : ℕ) (old new : Feed) (lines : List (List ℕ)) (takes : TakesDay old new lines (LongLine k)) → All (λ c. length c ≤ MOST_OF_COMMAND) (commands old.left) → ⊥
not_long k old new lines takes short =
    let shorts = recursion_from_All (λ c. length c ≤ MOST_OF_COMMAND) (commands old.left) short in
    elim (takes.at.long) [
      | inl shown ↦ none_long (commands old.left) (k - 1) shorts (subst (λ xs. FirstIsLong (drop (k - 1) (commands xs))) (sym takes.moved) (shown new.left).long)
      | inr at_end ↦ none_long (commands old.left) (k - 1) shorts
          (subst (λ xs. FirstIsLong (drop (k - 1) (commands xs))) (sym (takes.moved ∙ ap (λ xs. takes.taken ++ xs) at_end.end ∙ append-nil takes.taken)) at_end.long.long)
    ]

not_past : (old new : Feed) (lines : List (List ℕ)) (takes : TakesDay old new lines LongFile) → length old.left ≤ MOST_OF_FILE → ⊥
not_past old new lines takes small =
    omega (arith, ap length takes.moved, length-append takes.taken new.left, ap length takes.at.parts, length-append takes.at.within (takes.at.past ∷ []), takes.at.limit)

not_full : (need left edition : ℕ) (old : Feed) (before after : Sight) (all : List EntryRecord) → NextFits old.left after → after.size ≡ before.size → HasAtRest edition all after →
    FitsNot true true need left old before all edition → ⊥
not_full need left edition old before after all fits size at full =
    omega (
      arith,
      fits edition all full.entry (record { tail = at.tail; at = at.rest.holds }) full.next full.edition_is (full.command refl),
      size,
      full.need_is,
      full.left_is refl,
      full.short,
    )

-- where the premise holds, there is no damage
pub day_undamaged : (old new : Feed) (before after : Sight) (place : ℕ) (why : Damage) → EachSpellsFirst old.left before → DayRun true true old new before after (Damaged place why) → ⊥
day_undamaged old new before after place why premise day =
    let is : SpellsFirst old.left before.bytes = premise before.bytes before.printed (own_left before (day.told refl)) in
    not_damaged before.bytes is.history place why is.spells (day.damaged refl place why refl)

-- and no other day
pub day_same : (old new : Feed) (before after : Sight) (k : ℕ) → EachSpellsFirst old.left before → DayRun true true old new before after (OtherDay k) → ⊥
day_same old new before after k premise day = elim day.came [
  | inl u ↦ u.ends
  | inr o ↦ not_other old.left o.done o.because.behind o.because.kept
      (subst (λ xs. IsFront (lines_of xs) (commands old.left)) o.because.parts (found_first old.left before o.found (day.told refl) premise (o.spelled refl))) (o.because.differs refl)
]

-- a day in whose way nothing stands is done, or wants memory
pub day_complete : (old new : Feed) (before after : Sight) (end : DayEnd) → EachSpellsFirst old.left before → IsClear old new before after → DayRun true true old new before after end → (end ≡ Done) ⊎ (end ≡ OutOfMemory)
day_complete old new before after Done premise clear day = inl refl
day_complete old new before after ReadFault premise clear day = absurd (clear.no_read (day.counts.read refl))
day_complete old new before after PrintFault premise clear day = absurd (clear.no_print (day.counts.print refl))
day_complete old new before after DiskFault premise clear day = absurd (clear.no_disk (day.counts.disk refl))
day_complete old new before after (Damaged place why) premise clear day = absurd (day_undamaged old new before after place why premise day)
day_complete old new before after (OtherDay k) premise clear day = absurd (day_same old new before after k premise day)
day_complete old new before after (LongLine k) premise clear day = elim day.came [
  | inl u ↦ absurd u.ends
  | inr o ↦ absurd (not_long k old new (lines_of o.done) (o.input refl) clear.short)
]
day_complete old new before after LongFile premise clear day = elim day.came [
  | inl u ↦ absurd u.ends
  | inr o ↦ absurd (not_past old new (lines_of o.done) (o.input refl) clear.small)
]
day_complete old new before after (JournalFull need left) premise clear day = elim day.came [
  | inl u ↦ absurd u.ends
  | inr o ↦ absurd (not_full need left o.edition old before after o.all clear.fits day.counts.goes.same_size (o.rest refl (λ is. absurd (Prim.cc))) o.because.1)
]
day_complete old new before after OutOfMemory premise clear day = inr refl

-- of two cuts of a list the longer front goes on behind the shorter one
record GoesBehind (first : List EntryRecord) (kept : EntryRecord) (longer : List EntryRecord) : Type 0 where
  more : List EntryRecord
  parts : longer ≡ first ++ kept ∷ more

cut_behind : (first : List EntryRecord) (kept : EntryRecord) (behind longer : List EntryRecord) (other : EntryRecord) (rest : List EntryRecord) → first ++ kept ∷ behind ≡ longer ++ other ∷ rest →
    length first < length longer → GoesBehind first kept longer
cut_behind first kept behind [] other rest same less = absurd (omega (arith, less))
cut_behind [] kept behind (x ∷ longer) other rest same less = record { more = longer; parts = ap (λ (e : EntryRecord). e ∷ longer) (Prim.cc) }
cut_behind (y ∷ first) kept behind (x ∷ longer) other rest same less =
    let on = cut_behind first kept behind longer other rest (Prim.cc) (omega (arith, less)) in
    let head : x ≡ y = Prim.cc in
    record { more = on.more; parts = ap (λ (e : EntryRecord). e ∷ longer) head ∙ ap (λ xs. y ∷ xs) on.parts }

-- only at one number a file is of another line
one_other : (file : List ℕ) (first behind done later : List EntryRecord) (kept other : EntryRecord) → first ++ kept ∷ behind ≡ done ++ other ∷ later → DiffersAt kept.line (lines_of first) (commands file) →
    IsFront (lines_of done) (commands file) → length first < length done → ⊥
one_other file first behind done later kept other same differs front less =
    let on = cut_behind first kept behind done other later same less in
    not_other file first on.more kept (subst (λ xs. IsFront (lines_of xs) (commands file)) on.parts front) differs

differs_front : (line : List ℕ) (lines file_commands : List (List ℕ)) → DiffersAt line lines file_commands → IsFront lines file_commands
differs_front line lines file_commands differs = record { rest = differs.rest; parts = differs.parts }

-- all found lines are the file's where all entries are done
found_done : (old new : Feed) (before after : Sight) (end : DayEnd) (o : Opened true true old new before after end) → o.done ≡ o.all → IsFront (lines_of o.found) (commands old.left)
found_done old new before after end o done =
    front_within (lines_of o.found) (lines_of o.all) (commands old.left)
    (lines_front o.found o.all (record { rest = o.entries.added.more; parts = o.entries.added.parts }))
    (subst (λ xs. IsFront (lines_of xs) (commands old.left)) done (o.input refl).first)

-- The end where a found entry is of another line.
module _ (old new : Feed) (before after : Sight) (k : ℕ) (at : IsOtherAt k old.left before) where
  same_found : (end : DayEnd) (o : Opened true true old new before after end) → o.found ≡ at.first ++ at.kept ∷ at.behind
  same_found end o = one_history before.bytes o.found (at.first ++ at.kept ∷ at.behind) (o.spelled refl) at.spelled.spells

  not_done : (end : DayEnd) (o : Opened true true old new before after end) → o.done ≡ o.all → ⊥
  not_done end o done = not_other old.left at.first at.behind at.kept (subst (λ xs. IsFront (lines_of xs) (commands old.left)) (same_found end o) (found_done old new before after end o done)) at.differs

  same_number : (j : ℕ) → (o : Opened true true old new before after (OtherDay j)) → j ≡ k
  same_number j o =
      let same : at.first ++ at.kept ∷ at.behind ≡ o.done ++ o.because.kept ∷ o.because.behind = sym (same_found (OtherDay j) o) ∙ o.because.parts in
      elim (cases_lt (length at.first) (length o.done)) [
        | inl less ↦ absurd (one_other old.left at.first at.behind o.done o.because.behind at.kept o.because.kept same at.differs
            (differs_front o.because.kept.line (lines_of o.done) (commands old.left) (o.because.differs refl)) less)
        | inr most ↦ elim (cases_lt (length o.done) (length at.first)) [
          | inl less ↦ absurd (one_other old.left o.done o.because.behind at.first at.behind o.because.kept at.kept (sym same) (o.because.differs refl)
              (differs_front at.kept.line (lines_of at.first) (commands old.left) at.differs) less)
          | inr least ↦ omega (arith, o.because.number, at.number, most, least)
        ]
      ]

  pub day_other : (end : DayEnd) → DayRun true true old new before after end → AnswersOther k end
  day_other Done day = elim day.came [ inl u ↦ absurd u.ends | inr o ↦ not_done Done o o.because ]
  day_other ReadFault day = tt
  day_other PrintFault day = tt
  day_other DiskFault day = tt
  day_other (Damaged place why) day = not_damaged before.bytes (at.first ++ at.kept ∷ at.behind) place why at.spelled (day.damaged refl place why refl)
  day_other (OtherDay j) day = elim day.came [ inl u ↦ absurd u.ends | inr o ↦ same_number j o ]
  day_other (LongLine j) day = tt
  day_other LongFile day = tt
  day_other (JournalFull need left) day = elim day.came [ inl u ↦ absurd u.ends | inr o ↦ not_done (JournalFull need left) o o.because.0 ]
  day_other OutOfMemory day = tt
