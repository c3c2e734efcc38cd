use Rattle.std.specs.Prelude.{◌≡◌, ◌≢◌, ℕ, ◌+◌, ◌≤◌, Bool, IsTrue, List, [], ◌++◌, length}
use Rattle.dali_outside.specs.Outside.{Feed, Sight, Rose, Goes, SameDisk}
use Rattle.dali_outside.specs.Stops.{LeavesOnly}
use Rattle.dali_cert_text.specs.declared.block.Block.{Block}
use Rattle.dali_cert_text.specs.Form.{Spells}
use Rattle.dali_check.specs.Allowed.{Allowed}
use Rattle.dali_verdict.specs.declared.verdict.Figures.{Figures}
use Rattle.dali_verdict.specs.declared.verdict.Why.{Why}
use Rattle.dali_verdict.specs.declared.verdict.Verdict.{Verdict}
use Rattle.dali_verdict.specs.declared.verdict.Verdict.TheVariants as verdicts
use Rattle.dali_verdict.specs.Verdict.{IsVerdict}
use Rattle.dali_verdict.specs.VerdictLine.{verdict_line}
use Rattle.dali_register.specs.Front.{PrintsFront}
use Rattle.dali_desk.specs.Texts.{LeavesText}
use Rattle.dali_desk.specs.Limits.{most_checked}
use Rattle.dali_desk.specs.declared.status.Status.{Status}
use Rattle.dali_desk.specs.declared.status.Status.TheVariants.{Done, Invalid, Usage, ReadFault, PrintFault, DiskFault, Damaged, OtherDay, LongLine, LongFile, JournalFull, OutOfMemory, NoGate, BadFrame}

-- the statuses of `check`
abbrev pub EndsCheck : Status → Type 0
EndsCheck Done = Unit {0}
EndsCheck (Invalid why) = Unit {0}
EndsCheck Usage = ⊥
EndsCheck ReadFault = Unit {0}
EndsCheck PrintFault = Unit {0}
EndsCheck DiskFault = ⊥
EndsCheck (Damaged place why) = ⊥
EndsCheck (OtherDay k) = ⊥
EndsCheck (LongLine k) = ⊥
EndsCheck LongFile = Unit {0}
EndsCheck (JournalFull need left_over) = ⊥
EndsCheck OutOfMemory = Unit {0}
EndsCheck (NoGate place) = ⊥
EndsCheck (BadFrame place) = ⊥

-- how much of the input was taken when the status came: all of it, at most what it may have, or one byte more
abbrev pub CheckTakes : Status → List ℕ → List ℕ → Type 0
CheckTakes Done taken left = (length taken ≤ most_checked) × (left ≡ [])
CheckTakes (Invalid why) taken left = (length taken ≤ most_checked) × (left ≡ [])
CheckTakes Usage taken left = ⊥
CheckTakes ReadFault taken left = length taken ≤ most_checked
CheckTakes PrintFault taken left = (length taken ≤ most_checked) × (left ≡ [])
CheckTakes DiskFault taken left = ⊥
CheckTakes (Damaged place why) taken left = ⊥
CheckTakes (OtherDay k) taken left = ⊥
CheckTakes (LongLine k) taken left = ⊥
CheckTakes LongFile taken left = length taken ≡ most_checked + 1
CheckTakes (JournalFull need left_over) taken left = ⊥
CheckTakes OutOfMemory taken left = length taken ≤ most_checked
CheckTakes (NoGate place) taken left = ⊥
CheckTakes (BadFrame place) taken left = ⊥

-- this text is the line that says the verdict on these bytes
pub record Says (bytes : List ℕ) (verdict : Verdict) (text : List ℕ) : Type 0 where
  pub of : IsVerdict bytes verdict
  pub line : text ≡ verdict_line verdict

-- what the bytes taken were found to be when the status came, and the text that says so; it is empty where they weren't
-- judged
abbrev pub CheckFinds : Status → List ℕ → List ℕ → Type 0
CheckFinds Done taken text = (figures : Figures) × Says taken (verdicts.Valid figures) text
CheckFinds (Invalid why) taken text = Says taken (verdicts.Invalid why) text
CheckFinds Usage taken text = ⊥
CheckFinds ReadFault taken text = text ≡ []
CheckFinds PrintFault taken text = (verdict : Verdict) × Says taken verdict text
CheckFinds DiskFault taken text = ⊥
CheckFinds (Damaged place why) taken text = ⊥
CheckFinds (OtherDay k) taken text = ⊥
CheckFinds (LongLine k) taken text = ⊥
CheckFinds LongFile taken text = text ≡ []
CheckFinds (JournalFull need left_over) taken text = ⊥
CheckFinds OutOfMemory taken text = text ≡ []
CheckFinds (NoGate place) taken text = ⊥
CheckFinds (BadFrame place) taken text = ⊥

-- what was printed when the status came: the whole text, and after a print fault a front of it; where nothing was judged,
-- nothing was done to the site
abbrev pub CheckPrints : Status → List ℕ → Sight → Sight → Type 0
CheckPrints Done text old new = new.printed ≡ old.printed ++ text
CheckPrints (Invalid why) text old new = new.printed ≡ old.printed ++ text
CheckPrints Usage text old new = ⊥
CheckPrints ReadFault text old new = new ≡ old
CheckPrints PrintFault text old new = PrintsFront text old new
CheckPrints DiskFault text old new = ⊥
CheckPrints (Damaged place why) text old new = ⊥
CheckPrints (OtherDay k) text old new = ⊥
CheckPrints (LongLine k) text old new = ⊥
CheckPrints LongFile text old new = new ≡ old
CheckPrints (JournalFull need left_over) text old new = ⊥
CheckPrints OutOfMemory text old new = new ≡ old
CheckPrints (NoGate place) text old new = ⊥
CheckPrints (BadFrame place) text old new = ⊥

-- the whole input was judged, or memory was wanted
abbrev pub IsChecked : Status → Type 0
IsChecked Done = Unit {0}
IsChecked (Invalid why) = Unit {0}
IsChecked Usage = ⊥
IsChecked ReadFault = ⊥
IsChecked PrintFault = ⊥
IsChecked DiskFault = ⊥
IsChecked (Damaged place why) = ⊥
IsChecked (OtherDay k) = ⊥
IsChecked (LongLine k) = ⊥
IsChecked LongFile = ⊥
IsChecked (JournalFull need left_over) = ⊥
IsChecked OutOfMemory = Unit {0}
IsChecked (NoGate place) = ⊥
IsChecked (BadFrame place) = ⊥

-- What a run of `check` does: it reads the whole input, judges it, and prints the one line that says the verdict. Done
-- says that the input is a block of an allowed choice, and Invalid that it is none.
pub record CheckRun (source_tells site_tells : Bool) (old new : Feed) (before after : Sight) (status : Status) : Type 0 where
  pub statuses : EndsCheck status
  -- a fault comes only where its count rose
  pub read_fault : status ≡ ReadFault → Rose old.faults new.faults
  pub print_fault : status ≡ PrintFault → Rose before.print_faults after.print_faults
  pub faults : old.faults ≤ new.faults
  pub goes : Goes before after
  -- the bytes taken, what they were found to be, and the text that says so
  pub taken : List ℕ
  pub moved : IsTrue source_tells → old.left ≡ taken ++ new.left
  pub far : IsTrue source_tells → CheckTakes status taken new.left
  pub text : List ℕ
  pub finds : CheckFinds status taken text
  pub printed : IsTrue site_tells → CheckPrints status text before after
  -- a block of an allowed choice is never called invalid
  pub valid : IsTrue source_tells → (b : Block) → Spells old.left b → Allowed b.problem b.budget b.choice → (why : Why) → status ≢ Invalid why
  -- at every moment since the start a stop leaves a disk that it might have left at the start, and a front of the text
  pub stops : IsTrue site_tells → LeavesOnly (LeavesText before text) before after
  -- the disk is as before, and nothing was synced
  pub disk : IsTrue site_tells → SameDisk before after
  pub syncs : after.syncs ≤ before.syncs
  -- where no count rose and the input is within its limit, it is judged, or memory is wanted
  pub complete : IsTrue source_tells → length old.left ≤ most_checked →
      (Rose old.faults new.faults → ⊥) → (Rose before.print_faults after.print_faults → ⊥) → IsChecked status
