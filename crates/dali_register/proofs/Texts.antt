use Rattle.std.proofs.Common.{◌≡◌, ◌∙◌, ℕ, ◌≤◌, List, [], ◌∷◌, ◌++◌, map, refl, sym, ap, append_assoc, append-nil, arith}
use Rattle.std.specs.List.{All}
use Rattle.std.proofs.lemmas.List.{map-append}
use Rattle.std.proofs.lemmas.List.Elements.{All-nil, All-cons, All-head, All-tail}
use Rattle.dali_entry.specs.EntryRecord.{EntryRecord}
use Rattle.dali_machine.specs.History.{AreNext, IsNext, after_entry, state_after}
use Rattle.dali_machine.specs.Machine.{Machine}
use Rattle.dali_record.specs.RecordText.{record_text}
use Rattle.dali_recover.specs.Spells.{records_of}
use Rattle.dali_register.specs.TextOf.{answer_to, texts, lines_of}

-- the text, the state, the records and the lines of one list behind another
pub texts_append : (m : Machine) (first second : List EntryRecord) → texts m (first ++ second) ≡ texts m first ++ texts (state_after m first) second
texts_append m [] second = refl
texts_append m (e ∷ first) second = ap (λ xs. answer_to m e ++ xs) (texts_append (after_entry m e) first second)
    ∙ sym (append_assoc (answer_to m e) (texts (after_entry m e) first) (texts (state_after (after_entry m e) first) second))

pub state_append : (m : Machine) (first second : List EntryRecord) → state_after m (first ++ second) ≡ state_after (state_after m first) second
state_append m [] second = refl
state_append m (e ∷ first) second = state_append (after_entry m e) first second

pub records_append : (first second : List EntryRecord) → records_of (first ++ second) ≡ records_of first ++ records_of second
records_append first second = map-append record_text first second

pub lines_append : (first second : List EntryRecord) → lines_of (first ++ second) ≡ lines_of first ++ lines_of second
lines_append first second = map-append (λ (e : EntryRecord). e.line) first second

-- what holds of each item of two lists holds of each item of the first
pub All_first : {X : Type 0} (P : X → Type 0) (xs ys : List X) → All P (xs ++ ys) → All P xs
All_first P [] ys all = All-nil P
All_first P (x ∷ xs) ys all = All-cons P x xs (All-head P x (xs ++ ys) all) (All_first P xs ys (All-tail P x (xs ++ ys) all))

-- the edition of the last entry
abbrev pub last_edition : ℕ → List EntryRecord → ℕ
last_edition last [] = last
last_edition last (e ∷ entries) = last_edition e.edition entries

-- it is at most what each of them is at most
pub last_within : (most last : ℕ) (entries : List EntryRecord) → last ≤ most → All (λ (e : EntryRecord). e.edition ≤ most) entries → last_edition last entries ≤ most
last_within most last [] low all = low
last_within most last (e ∷ entries) low all = last_within most e.edition entries
    (All-head (λ (x : EntryRecord). x.edition ≤ most) e entries all) (All-tail (λ (x : EntryRecord). x.edition ≤ most) e entries all)

-- one more entry that may come next
pub next_more : (m : Machine) (last : ℕ) (entries : List EntryRecord) (e : EntryRecord) → AreNext m last entries → IsNext (state_after m entries) (last_edition last entries) e → AreNext m last (entries ++ e ∷ [])
next_more m last [] e are next = (next, tt)
next_more m last (x ∷ entries) e are next = (are.0, next_more (after_entry m x) x.edition entries e are.1 next)

-- the first entries of a legal history are one
pub next_first : (m : Machine) (last : ℕ) (first second : List EntryRecord) → AreNext m last (first ++ second) → AreNext m last first
next_first m last [] second are = tt
next_first m last (e ∷ first) second are = (are.0, next_first (after_entry m e) e.edition first second are.1)
