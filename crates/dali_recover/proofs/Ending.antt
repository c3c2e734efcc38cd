-- What an answer of recovery says of the bytes, and where a device comes to rest.
use Rattle.std.proofs.Common.{◌≡◌, ◌⊎◌, ◌∙◌, inl, inr, ℕ, ◌+◌, ◌<◌, ◌≤◌, Bool, false, List, [], length, take, replicate, refl, sym, ap, subst, arith}
use Rattle.std.specs.Prelude.{IsTrue, Result, Ok, Err, IfOk, IsErrOf, MatchResult}
use Rattle.dali_outside.specs.Outside.{Sight, SameDisk, TellsAll}
use Rattle.std.proofs.lemmas.List.Elements.{All-nil}
use Rattle.dali_entry.specs.EntryRecord.{EntryRecord}
use Rattle.dali_record.specs.IsRecord.{IsWithin}
use Rattle.dali_journal.specs.Holds.{IsHeader, StandsTo, HoldsAt}
use Rattle.dali_journal.specs.Appends.{AtRest, IsFirm}
use Rattle.dali_journal.specs.declared.refusal.Damage.{Damage}
use Rattle.dali_journal.specs.declared.refusal.Damage.TheVariants as damage
use Rattle.dali_journal.proofs.RestLemmas.{rest_image}
use Rattle.dali_recover.specs.Spells.{records_of, AreEntriesIn, Spells, SpellsLegal}
use Rattle.dali_recover.specs.Damaged.{ReadsTo, DamagedAt}
use Rattle.dali_recover.specs.Recovers.{IsFound, RestsWith, IsWant, no_of}
use Rattle.dali_journal.specs.declared.refusal.OpenNo.{OpenNo}
use Rattle.dali_journal.specs.declared.refusal.OpenNo.TheVariants as unopened_by
use Rattle.dali_recover.specs.declared.found.Found.{Found}
use Rattle.dali_recover.specs.declared.refusal.RecoverNo.{RecoverNo}
use Rattle.dali_recover.specs.declared.refusal.RecoverNo.TheVariants as errors
use Rattle.dali_recover.proofs.Damages.{One, not_damaged, one_damage}
use Rattle.dali_recover.proofs.Spelling.{one_history}

-- what `open_journal` says of a device that it calls damaged
abbrev pub IsUnopened : Bool → Sight → ℕ → Damage → Type 0
IsUnopened tells s place why =
    (place ≡ 0) × (((why ≡ damage.Short) × (s.size < 17))
    ⊎ ((why ≡ damage.Header) × (17 ≤ s.size) × (IsTrue tells → (edition : ℕ) → IsHeader edition (take 16 s.bytes) → ⊥)))

pub unopened : (tells : Bool) (s : Sight) (place : ℕ) (why : Damage) → IsTrue tells → length s.bytes ≡ s.size → IsUnopened tells s place why → DamagedAt s.bytes place why
unopened tells s place why t long is = elim is.1 [
  | inl short ↦
      let damaged : DamagedAt s.bytes place damage.Short = (is.0, omega (arith, short.1, long)) in
      subst (λ w. DamagedAt s.bytes place w) (sym short.0) damaged
  | inr header ↦
      let damaged : DamagedAt s.bytes place damage.Header = (is.0, omega (arith, header.1, long), header.2 t) in
      subst (λ w. DamagedAt s.bytes place w) (sym header.0) damaged
]

-- a journal that was opened is read up to its first gate
pub opened : (s : Sight) (edition : ℕ) → length s.bytes ≡ s.size → 17 ≤ s.size → StandsTo 16 edition [] s.bytes → ReadsTo 16 edition [] s.bytes
opened s edition long size stands = record {
  stands = stands;
  gate = omega (arith, long, size);
  entries = record { within = All-nil IsWithin; editions = All-nil (λ (e : EntryRecord). e.edition ≤ edition) };
  legal = record { entries = tt };
}

-- the one answer of `open_journal` that tells damage
pub no_of_damaged : (e : OpenNo) (place : ℕ) (why : Damage) → no_of e ≡ errors.Damaged place why → e ≡ unopened_by.Damaged place why
no_of_damaged unopened_by.DiskFault place why is = absurd (cc)
no_of_damaged (unopened_by.Damaged p w) place why is = cc is
no_of_damaged unopened_by.OutOfMemory place why is = absurd (cc)

-- what is found is what the bytes spell
pub found_spells : (size : ℕ) (bytes : List ℕ) (found : Found) → IsFound size found → HoldsAt found.journal.tail found.journal.edition (records_of found.entries) bytes → SpellsLegal bytes found.entries
found_spells size bytes found is at = record {
  spells = record { edition = found.journal.edition; holds = record { tail = found.journal.tail; at = at }; entries = is.read.entries };
  legal = is.read.legal;
}

-- what is firm stays so where the disk is the same
pub firm_too : (old new : Sight) → SameDisk old new → IsFirm old → IsFirm new
firm_too old new disk firm = subst (λ ls. ls ≡ replicate (length ls) false) (sym disk.loose) firm

-- where nothing is loose, the device rests with what was found
pub rests : (size : ℕ) (s : Sight) (found : Found) → TellsAll s → IsFirm s → IsFound size found → HoldsAt found.journal.tail found.journal.edition (records_of found.entries) s.bytes → RestsWith found s
rests size s found all firm is at = record {
  rest = record { holds = at; firm = firm };
  images = λ image text left. subst (λ (bs : List ℕ). Spells bs found.entries) (sym (rest_image s all firm image text left)) (found_spells size s.bytes found is at).spells;
}

-- what an answer of Ok says of the bytes at the start
pub ok_spells : (size : ℕ) (old new : Sight) (r : Result Found RecoverNo) → new.bytes ≡ old.bytes → IfOk r (IsFound size) → IfOk r (λ found. RestsWith found new) → IfOk r (λ found. SpellsLegal old.bytes found.entries)
ok_spells size old new (Ok found) same is rest = found_spells size old.bytes found is
    (subst (λ (bs : List ℕ). HoldsAt found.journal.tail found.journal.edition (records_of found.entries) bs) same rest.rest.holds)
ok_spells size old new (Err e) same is rest = tt

module _ (bytes : List ℕ) (r : Result Found RecoverNo) (ok : IfOk r (λ found. SpellsLegal bytes found.entries)) (err : (place : ℕ) (why : Damage) → IsErrOf r (errors.Damaged place why) → DamagedAt bytes place why) where
  -- bytes that spell a legal history give it
  pub spelled : (history : List EntryRecord) → SpellsLegal bytes history → MatchResult r (λ found. found.entries ≡ history) IsWant
  spelled history spells = by r ok err
    where
      by : (r : Result Found RecoverNo) → IfOk r (λ found. SpellsLegal bytes found.entries) → ((place : ℕ) (why : Damage) → IsErrOf r (errors.Damaged place why) → DamagedAt bytes place why) →
          MatchResult r (λ found. found.entries ≡ history) IsWant
      by (Ok found) here damaged = one_history bytes found.entries history here.spells spells.spells
      by (Err errors.DiskFault) here damaged = inl refl
      by (Err (errors.Damaged place why)) here damaged = absurd (not_damaged bytes history place why spells (damaged place why refl))
      by (Err errors.OutOfMemory) here damaged = inr refl

  -- bytes that are damaged are told so
  pub only : (place : ℕ) (why : Damage) → DamagedAt bytes place why → MatchResult r (λ found. ⊥) (λ e. (e ≡ errors.Damaged place why) ⊎ IsWant e)
  only place why is = by r ok err
    where
      by : (r : Result Found RecoverNo) → IfOk r (λ found. SpellsLegal bytes found.entries) → ((place : ℕ) (why : Damage) → IsErrOf r (errors.Damaged place why) → DamagedAt bytes place why) →
          MatchResult r (λ found. ⊥) (λ e. (e ≡ errors.Damaged place why) ⊎ IsWant e)
      by (Ok found) here damaged = not_damaged bytes found.entries place why here is
      by (Err errors.DiskFault) here damaged = inr (inl refl)
      by (Err (errors.Damaged other way)) here damaged =
          let one = one_damage bytes other place way why (damaged other way refl) is in
          inl (λ i. errors.Damaged (one.place i) (one.way i))
      by (Err errors.OutOfMemory) here damaged = inr (inr refl)
