use Rattle.std.specs.Prelude.{◌≡◌, ◌≢◌, ◌≤◌, ℕ, List, [], ◌∷◌, codes, decimal}
use Rattle.std.specs.Str.{IsUtf8}
use Rattle.dali_gen.specs.Limits.{most_number}
use Rattle.dali_journal.specs.Limits.{least_size}
use Rattle.dali_desk.specs.Limits.{most_size}
use Rattle.dali_desk.specs.declared.job.Job.{Job}
use Rattle.dali_desk.specs.declared.job.Job.TheVariants.{Init, Day, Check, Export, Gen, Trial, Raise, Gate, Ship, Follow}

-- this word, followed by JOURNAL, which is any text that isn't empty
abbrev pub OverJournal : List (List ℕ) → List ℕ → Type 0
OverJournal words word = (path : List ℕ) × (path ≢ []) × IsUtf8 path × (words ≡ word ∷ path ∷ [])

-- the table of words: these words ask for this job. JOURNAL is any text that isn't empty, and SIZE a decimal number.
abbrev pub IsJob : List (List ℕ) → Job → Type 0
IsJob words (Init size) =
    (path : List ℕ) × (path ≢ []) × IsUtf8 path × (least_size ≤ size) × (size ≤ most_size) × (words ≡ codes "init" ∷ path ∷ decimal size ∷ [])
IsJob words Day = OverJournal words (codes "day")
IsJob words Check = words ≡ codes "check" ∷ []
IsJob words Export = OverJournal words (codes "export")
IsJob words (Gen n) = (1 ≤ n) × (n ≤ most_number) × (words ≡ codes "gen" ∷ decimal n ∷ [])
IsJob words (Trial n) = (1 ≤ n) × (n ≤ most_number) × (words ≡ codes "trial" ∷ decimal n ∷ [])
IsJob words Raise = OverJournal words (codes "raise")
IsJob words Gate = OverJournal words (codes "gate")
IsJob words Ship = OverJournal words (codes "ship")
IsJob words Follow = OverJournal words (codes "follow")

-- the word of a job that is followed by a journal alone
abbrev pub IsJournalWord : List ℕ → Job → Type 0
IsJournalWord word (Init size) = ⊥
IsJournalWord word Day = word ≡ codes "day"
IsJournalWord word Check = ⊥
IsJournalWord word Export = word ≡ codes "export"
IsJournalWord word (Gen n) = ⊥
IsJournalWord word (Trial n) = ⊥
IsJournalWord word Raise = word ≡ codes "raise"
IsJournalWord word Gate = word ≡ codes "gate"
IsJournalWord word Ship = word ≡ codes "ship"
IsJournalWord word Follow = word ≡ codes "follow"
