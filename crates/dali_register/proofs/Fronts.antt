use Rattle.std.proofs.Common.{◌≡◌, ◌∙◌, ◌⊎◌, inl, inr, ℕ, ◌≤◌, List, [], ◌∷◌, ◌++◌, refl, sym, ap, subst, append_assoc, append-nil}
use Rattle.std.specs.List.{All}
use Rattle.dali_entry.specs.EntryRecord.{EntryRecord}
use Rattle.dali_journal.specs.Appends.{EitherList}
use Rattle.dali_journal.specs.Holds.{Holds}
use Rattle.dali_machine.specs.Machine.{opening}
use Rattle.dali_machine.specs.History.{state_of}
use Rattle.dali_outside.specs.Outside.{Sight}
use Rattle.dali_record.specs.IsRecord.{IsWithin}
use Rattle.dali_register.specs.Front.{IsFront}
use Rattle.dali_register.specs.Leaving.{LeavesDay}
use Rattle.dali_recover.specs.Spells.{records_of, AreEntriesIn}
use Rattle.dali_register.specs.TextOf.{texts, text_of}
use Rattle.dali_register.proofs.Texts.{texts_append, records_append, All_first}

pub whole_front : {X : Type 0} (xs : List X) → IsFront xs xs
whole_front xs = record { rest = []; parts = sym (append-nil xs) }

pub front_more : {X : Type 0} (front whole more : List X) → IsFront front whole → IsFront front (whole ++ more)
front_more front whole more is = record { rest = is.rest ++ more; parts = ap (λ xs. xs ++ more) is.parts ∙ append_assoc front is.rest more }

pub front_within : {X : Type 0} (a b c : List X) → IsFront a b → IsFront b c → IsFront a c
front_within a b c first second = record { rest = first.rest ++ second.rest; parts = second.parts ∙ ap (λ xs. xs ++ second.rest) first.parts ∙ append_assoc a first.rest second.rest }

pub entries_first : (edition : ℕ) (first second : List EntryRecord) → AreEntriesIn edition (first ++ second) → AreEntriesIn edition first
entries_first edition first second are = record {
  within = All_first IsWithin first second are.within;
  editions = All_first (λ (e : EntryRecord). e.edition ≤ edition) first second are.editions;
}

-- what a stop may leave stays that with more entries
pub more_left : (old : Sight) (found kept more : List EntryRecord) (image text : List ℕ) → LeavesDay old found kept image text → LeavesDay old found (kept ++ more) image text
more_left old found kept more image text (inl start) = inl start
more_left old found kept more image text (inr s) = inr (record {
  history = s.history;
  begins = s.begins;
  within = front_more s.history kept more s.within;
  spells = s.spells;
  shown = s.shown;
  printed = s.printed;
  front = s.front;
})

-- an append of more entries leaves the entries of before it or all of them, and the text of before it is printed
pub either_left : (before : Sight) (found kept more : List EntryRecord) (edition : ℕ) (printed image text : List ℕ) → IsFront found kept → AreEntriesIn edition (kept ++ more) →
    printed ≡ before.printed ++ text_of kept → EitherList edition (records_of kept) (records_of more) printed image text → LeavesDay before found (kept ++ more) image text
either_left before found kept more edition printed image text begins entries is either = elim either.one [
  | inl short ↦ inr (record {
    history = kept;
    begins = begins;
    within = record { rest = more; parts = refl };
    spells = record { edition = edition; holds = short; entries = entries_first edition kept more entries };
    shown = text_of kept;
    printed = either.silent ∙ is;
    front = whole_front (text_of kept);
  })
  | inr long ↦ inr (record {
    history = kept ++ more;
    begins = front_more found kept more begins;
    within = whole_front (kept ++ more);
    spells = record { edition = edition; holds = subst (λ list. Holds edition list image) (sym (records_append kept more)) long; entries = entries };
    shown = text_of kept;
    printed = either.silent ∙ is;
    front = record { rest = texts (state_of kept) more; parts = texts_append opening kept more };
  })
]
