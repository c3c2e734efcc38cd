-- Laws of histories: one more entry, an entry in the middle, and lists of records.
use Rattle.std.proofs.Common.{◌≡◌, ◌∙◌, ℕ, ◌+◌, ◌-◌, ◌*◌, ◌≤◌, Option, Some, None, List, [], ◌∷◌, ◌++◌, length, drop, map, refl, sym, ap, subst, arith}
use Rattle.std.specs.Prelude.{unwrap_or}
use Rattle.std.specs.List.{All, slice_get}
use Rattle.std.proofs.lemmas.List.{map-append}
use Rattle.std.proofs.lemmas.List.Elements.{All-head, All-tail, All-push}
use Rattle.dali_entry.specs.EntryRecord.{EntryRecord}
use Rattle.dali_record.specs.IsRecord.{IsWithin}
use Rattle.dali_record.specs.RecordText.{record_text}
use Rattle.dali_record.proofs.EntryAgain.{one_entry}
use Rattle.dali_machine.specs.Machine.{Machine}
use Rattle.dali_machine.specs.History.{IsNext, AreNext, after_entry, state_after}
use Rattle.dali_machine.specs.Outcomes.{IsReported}
use Rattle.dali_machine.specs.Step.{step}
use Rattle.dali_journal.specs.Frames.{frames_length}
use Rattle.dali_recover.specs.Reported.{AreReported}
use Rattle.dali_recover.specs.Spells.{records_of}
use Rattle.dali_recover.specs.Damaged.{last_edition}

-- the state after one more entry
pub state_more : (m : Machine) (entries : List EntryRecord) (e : EntryRecord) → state_after m (entries ++ e ∷ []) ≡ after_entry (state_after m entries) e
state_more m [] e = refl
state_more m (x ∷ entries) e = state_more (after_entry m x) entries e

-- the edition of the last entry
last_is : (before : ℕ) (e x : EntryRecord) (entries : List EntryRecord) → Some e ≡ slice_get (x ∷ entries) (length entries) → e.edition ≡ last_edition before (x ∷ entries)
last_is before e x [] is = ap (λ (o : Option EntryRecord). (unwrap_or o x).edition) is
last_is before e x (y ∷ entries) is = last_is x.edition e y entries is

pub last_entry : (e : EntryRecord) (entries : List EntryRecord) → Some e ≡ slice_get entries (length entries - 1) → e.edition ≡ last_edition 0 entries
last_entry e [] is = absurd (cc)
last_entry e (x ∷ entries) is =
    let place : length (x ∷ entries) - 1 ≡ length entries = omega arith in
    last_is 0 e x entries (subst (λ k. Some e ≡ slice_get (x ∷ entries) k) place is)

-- one more entry that may come next
pub next_more : (m : Machine) (last : ℕ) (entries : List EntryRecord) (e : EntryRecord) → AreNext m last entries →
    IsNext (state_after m entries) (last_edition last entries) e → AreNext m last (entries ++ e ∷ [])
next_more m last [] e are next = (next, tt)
next_more m last (x ∷ entries) e are next = (are.0, next_more (after_entry m x) x.edition entries e are.1 next)

-- each entry may come behind those before it
pub next_there : (m : Machine) (last : ℕ) (entries : List EntryRecord) (e : EntryRecord) (more : List EntryRecord) → AreNext m last (entries ++ e ∷ more) →
    IsNext (state_after m entries) (last_edition last entries) e
next_there m last [] e more are = are.0
next_there m last (x ∷ entries) e more are = next_there (after_entry m x) x.edition entries e more are.1

-- what is answered to one more entry is true
pub reported_more : (m : Machine) (entries : List EntryRecord) (e : EntryRecord) → AreReported m entries →
    IsReported (step e.edition (state_after m entries) e.line e.choice).outcome → AreReported m (entries ++ e ∷ [])
reported_more m [] e are is = (is, tt)
reported_more m (x ∷ entries) e are is = (are.0, reported_more (after_entry m x) entries e are.1 is)

-- and to the first ones
pub reported_first : (m : Machine) (first second : List EntryRecord) → AreReported m (first ++ second) → AreReported m first
reported_first m [] second are = tt
reported_first m (e ∷ first) second are = (are.0, reported_first (after_entry m e) first second are.1)

pub all_there : {X : Type 0} (P : X → Type 0) (xs : List X) (x : X) (more : List X) → All P (xs ++ x ∷ more) → P x
all_there P [] x more all = All-head P x more all
all_there P (y ∷ xs) x more all = all_there P xs x more (All-tail P y (xs ++ x ∷ more) all)

pub records_more : (entries : List EntryRecord) (e : EntryRecord) → records_of (entries ++ e ∷ []) ≡ records_of entries ++ record_text e ∷ []
records_more entries e = map-append record_text entries (e ∷ [])

pub frames_more : (list : List (List ℕ)) (payload : List ℕ) → frames_length (list ++ payload ∷ []) ≡ frames_length list + (length payload + 5)
frames_more [] payload = omega arith
frames_more (x ∷ list) payload = omega (arith, frames_more list payload)

-- each frame has at least five bytes
pub frames_many : (entries : List EntryRecord) → 5 * length entries ≤ frames_length (records_of entries)
frames_many [] = omega arith
frames_many (e ∷ entries) = omega (arith, frames_many entries)

abbrev first_of : List (List ℕ) → List ℕ
first_of [] = []
first_of (x ∷ xs) = x

-- a history whose records begin with those of another begins with that one
pub record Behind (front whole : List EntryRecord) (more : List (List ℕ)) : Type 0 where
  pub rest : List EntryRecord
  pub parts : whole ≡ front ++ rest
  pub records : records_of rest ≡ more

pub behind : (front whole : List EntryRecord) (more : List (List ℕ)) → All IsWithin front → All IsWithin whole → records_of whole ≡ records_of front ++ more → Behind front whole more
behind [] whole more first second is = record { rest = whole; parts = refl; records = is }
behind (x ∷ front) [] more first second is = absurd (omega (arith, ap length is))
behind (x ∷ front) (y ∷ whole) more first second is =
    let same : x ≡ y = one_entry x y (All-head IsWithin x front first) (All-head IsWithin y whole second) (sym (ap first_of is)) in
    let later = behind front whole more (All-tail IsWithin x front first) (All-tail IsWithin y whole second) (ap (λ (xs : List (List ℕ)). drop 1 xs) is) in
    record {
      rest = later.rest;
      parts = ap (λ (z : EntryRecord). z ∷ whole) (sym same) ∙ ap (λ (xs : List EntryRecord). x ∷ xs) later.parts;
      records = later.records;
    }
