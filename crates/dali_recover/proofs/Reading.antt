-- One more record that was read and taken.
use Rattle.std.proofs.Common.{◌≡◌, ◌∙◌, ℕ, ◌+◌, ◌*◌, ◌<◌, ◌≤◌, ◌^◌, List, [], ◌∷◌, ◌++◌, length, slice_index, refl, sym, ap, subst, arith, length-append}
use Rattle.std.specs.List.{All}
use Rattle.std.proofs.lemmas.List.Elements.{All-push, All-nil}
use Rattle.dali_outside.specs.Outside.{Sight, TellsAll}
use Rattle.dali_entry.specs.EntryRecord.{EntryRecord}
use Rattle.dali_record.specs.IsRecord.{IsWithin, IsRecord}
use Rattle.dali_record.specs.RecordText.{record_text}
use Rattle.dali_machine.specs.Machine.{Machine, opening}
use Rattle.dali_machine.specs.History.{IsNext, AreNext, IsLegal, state_of}
use Rattle.dali_journal.specs.Holds.{StandsTo, HoldsAt}
use Rattle.dali_journal.specs.JournalAt.{Reached, IsTooLong, Finds}
use Rattle.dali_journal.specs.Frames.{frames_length}
use Rattle.dali_journal.specs.declared.refusal.Damage.{Damage}
use Rattle.dali_journal.specs.declared.refusal.Damage.TheVariants as damage
use Rattle.dali_recover.specs.Reported.{AreReported}
use Rattle.dali_recover.specs.Spells.{records_of, AreEntriesIn}
use Rattle.dali_recover.specs.Damaged.{last_edition, ReadsTo, StandsWhole, FailsBehind, DamagedAt}
use Rattle.dali_recover.specs.Recovers.{IsReadTo, IsFound}
use Rattle.dali_recover.specs.Taking.{Denies, GoesOnWith, no_at}
use Rattle.dali_recover.specs.declared.found.Found.{Found}
use Rattle.dali_recover.specs.declared.refusal.Denial.{Denial}
use Rattle.dali_recover.specs.declared.refusal.Denial.TheVariants as denials
use Rattle.dali_recover.specs.declared.refusal.RecoverNo.{RecoverNo}
use Rattle.dali_recover.specs.declared.refusal.RecoverNo.TheVariants as errors
use Rattle.dali_recover.proofs.Histories.{state_more, next_more, reported_more, records_more, frames_more, frames_many}
use Rattle.dali_recover.proofs.Fronts.{fits_whole}

-- an entry more, in a journal that can hold it
pub entries_more : (edition : ℕ) (payload : List ℕ) (old new : List EntryRecord) → AreEntriesIn edition old → GoesOnWith edition payload old new → AreEntriesIn edition new
entries_more edition payload old new are on = subst (AreEntriesIn edition) (sym on.longer) (record {
  within = All-push IsWithin old on.e are.within on.record_is.within;
  editions = All-push (λ (x : EntryRecord). x.edition ≤ edition) old on.e are.editions on.most;
})

pub legal_more : (edition : ℕ) (payload : List ℕ) (old new : List EntryRecord) → IsLegal old → GoesOnWith edition payload old new → IsLegal new
legal_more edition payload old new are on = subst IsLegal (sym on.longer) (record { entries = next_more opening 0 old on.e are.entries on.next })

pub reported_on : (edition : ℕ) (payload : List ℕ) (old new : List EntryRecord) → AreReported opening old → GoesOnWith edition payload old new → AreReported opening new
reported_on edition payload old new are on = subst (AreReported opening) (sym on.longer) (reported_more opening old on.e are on.reported)

pub records_on : (edition : ℕ) (payload : List ℕ) (old new : List EntryRecord) → GoesOnWith edition payload old new → records_of new ≡ records_of old ++ payload ∷ []
records_on edition payload old new on = ap records_of on.longer ∙ records_more old on.e ∙ ap (λ (bs : List ℕ). records_of old ++ bs ∷ []) (sym on.record_is.text)

pub frames_on : (edition : ℕ) (payload : List ℕ) (old new : List EntryRecord) → GoesOnWith edition payload old new → frames_length (records_of new) ≡ frames_length (records_of old) + (length payload + 5)
frames_on edition payload old new on = ap frames_length (records_on edition payload old new on) ∙ frames_more (records_of old) payload

pub length_on : (edition : ℕ) (payload : List ℕ) (old new : List EntryRecord) → GoesOnWith edition payload old new → length new ≡ length old + 1
length_on edition payload old new on = ap length on.longer ∙ length-append old (on.e ∷ [])

-- fewer than 2^63 records fit on a device
pub few : (size : ℕ) (found : Found) → size < 2 ^ 64 → IsReadTo size found → found.state.machine.commands < 2 ^ 63
few size found bound read = omega (arith, bound, read.counted, read.place, read.whole, frames_many found.entries)

-- one more record was read and taken
pub read_more : (size : ℕ) (old new : Found) (payload : List ℕ) → IsReadTo size old → GoesOnWith old.journal.edition payload old.entries new.entries →
    new.state.machine ≡ state_of new.entries → new.state.machine.commands ≡ old.state.machine.commands + 1 →
    new.journal.edition ≡ old.journal.edition → new.journal.tail ≡ old.journal.tail + (length payload + 5) →
    new.journal.tail + new.journal.left ≡ old.journal.tail + old.journal.left → IsReadTo size new
read_more size old new payload read on state counted edition tail whole = record {
  entries = subst (λ k. AreEntriesIn k new.entries) (sym edition) (entries_more old.journal.edition payload old.entries new.entries read.entries on);
  legal = legal_more old.journal.edition payload old.entries new.entries read.legal on;
  reported = reported_on old.journal.edition payload old.entries new.entries read.reported on;
  state = state;
  counted = omega (arith, counted, read.counted, length_on old.journal.edition payload old.entries new.entries on);
  place = omega (arith, tail, read.place, frames_on old.journal.edition payload old.entries new.entries on);
  whole = whole ∙ read.whole;
}

-- and it stands in the bytes
pub reads_more : (tail next edition : ℕ) (payload bytes : List ℕ) (old new : List EntryRecord) → ReadsTo tail edition old bytes → GoesOnWith edition payload old new →
    StandsTo next edition (records_of old ++ payload ∷ []) bytes → Finds payload bytes tail next → (IsTooLong (length bytes) tail bytes → ⊥) → ReadsTo next edition new bytes
reads_more tail next edition payload bytes old new reads on stands finds fits = record {
  stands = subst (λ (list : List (List ℕ)). StandsTo next edition list bytes) (sym (records_on edition payload old new on)) stands;
  gate = fits_whole payload bytes tail next finds fits;
  entries = entries_more edition payload old new reads.entries on;
  legal = legal_more edition payload old new reads.legal on;
}

-- what an answer says of the bytes
abbrev DamagedBy : List ℕ → RecoverNo → Type 0
DamagedBy bytes errors.DiskFault = Unit {0}
DamagedBy bytes (errors.Damaged place why) = DamagedAt bytes place why
DamagedBy bytes errors.OutOfMemory = Unit {0}

-- a payload that is denied damages the bytes at its gate
pub denied : (tail next edition place : ℕ) (why : Damage) (payload bytes : List ℕ) (history : List EntryRecord) (denial : Denial) → ReadsTo tail edition history bytes →
    Finds payload bytes tail next → (IsTooLong (length bytes) tail bytes → ⊥) → Denies denial edition history payload → no_at tail denial ≡ errors.Damaged place why → DamagedAt bytes place why
denied tail next edition place why payload bytes history denials.Entry reads finds fits denies is =
    let behind : FailsBehind damage.Entry tail bytes = record { edition = edition; history = history; reads = reads; fails = (payload, record { next = next; finds = finds; gate = fits_whole payload bytes tail next finds fits }, denies) } in
    subst (λ (e : RecoverNo). DamagedBy bytes e) is behind
denied tail next edition place why payload bytes history denials.Illegal reads finds fits denies is =
    let behind : FailsBehind damage.Illegal tail bytes = record { edition = edition; history = history; reads = reads; fails = (payload, record { next = next; finds = finds; gate = fits_whole payload bytes tail next finds fits }, denies) } in
    subst (λ (e : RecoverNo). DamagedBy bytes e) is behind
denied tail next edition place why payload bytes history denials.OutOfMemory reads finds fits denies is = absurd (cc)
