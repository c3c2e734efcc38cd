-- What an image spells, and what stands in it behind a history.
use Rattle.std.proofs.Common.{◌≡◌, ◌⊎◌, ◌∙◌, inl, inr, ℕ, ◌+◌, ◌<◌, ◌≤◌, List, [], ◌∷◌, ◌++◌, length, slice_index, refl, sym, ap, subst, arith, append-nil}
use Rattle.std.specs.List.{All}
use Rattle.std.proofs.lemmas.List.{map-append}
use Rattle.dali_entry.specs.EntryRecord.{EntryRecord}
use Rattle.dali_record.specs.IsRecord.{IsWithin, IsRecord}
use Rattle.dali_record.specs.RecordText.{record_text}
use Rattle.dali_machine.specs.Machine.{opening}
use Rattle.dali_machine.specs.History.{IsNext, IsLegal, state_of}
use Rattle.dali_journal.specs.Holds.{StandsTo, HoldsAt, Holds}
use Rattle.dali_journal.specs.Frames.{frames_length}
use Rattle.dali_journal.proofs.OneList.{one_list}
use Rattle.dali_recover.specs.Spells.{records_of, AreEntriesIn, Spells, SpellsLegal}
use Rattle.dali_recover.specs.Damaged.{last_edition, ReadsTo, StandsWhole}
use Rattle.dali_recover.proofs.Histories.{behind, next_there, all_there}
use Rattle.dali_recover.proofs.Fronts.{GoesOn, one_front, tail_is, held_stands, first_left, rest_is, Stands, next_stands}

-- an image spells at most one history
pub one_history : (image : List ℕ) (history other : List EntryRecord) → Spells image history → Spells image other → history ≡ other
one_history image history other first second =
    let same : records_of history ≡ records_of other = (one_list first.edition second.edition (records_of history) (records_of other) image first.holds second.holds).1 in
    let more = behind history other [] first.entries.within second.entries.within (sym same ∙ sym (append-nil (records_of history))) in
    sym (append-nil history) ∙ ap (λ xs. history ++ xs) (sym (empty more.rest more.records)) ∙ sym more.parts
  where
    empty : (rest : List EntryRecord) → records_of rest ≡ [] → rest ≡ []
    empty [] is = refl
    empty (x ∷ rest) is = absurd (omega (arith, ap length is))

-- where an image's history ends
pub record Ends (image : List ℕ) (history : List EntryRecord) : Type 0 where
  pub place : ℕ
  pub edition : ℕ
  pub reads : ReadsTo place edition history image
  pub shut : slice_index image place ≡ 0

pub ends : (image : List ℕ) (history : List EntryRecord) → SpellsLegal image history → Ends image history
ends image history is =
    let at = is.spells.holds.at in
    let stands = held_stands is.spells.holds.tail is.spells.edition (records_of history) image at in
    let gate = first_left image is.spells.holds.tail 0 at.free (rest_is is.spells.holds.tail is.spells.edition (records_of history) image stands) in
    record {
      place = is.spells.holds.tail;
      edition = is.spells.edition;
      reads = record { stands = stands; gate = gate.0; entries = is.spells.entries; legal = is.legal };
      shut = gate.1;
    }

-- an entry stands behind a history, in a journal's bytes
pub record Next (place edition : ℕ) (history : List EntryRecord) (bytes : List ℕ) : Type 0 where
  pub e : EntryRecord
  pub stands : StandsWhole (record_text e) place bytes
  pub within : IsWithin e
  pub most : e.edition ≤ edition
  pub next : IsNext (state_of history) (last_edition 0 history) e

-- two histories that were read in the same bytes: they are the same, at one place, or behind one of them the next entry of
-- the other stands
pub record Same (p q : ℕ) (history other : List EntryRecord) : Type 0 where
  pub place : p ≡ q
  pub history_is : history ≡ other

abbrev pub Compares : ℕ → ℕ → ℕ → List EntryRecord → List EntryRecord → List ℕ → Type 0
Compares p q edition history other bytes = Same p q history other ⊎ (Next p edition history bytes ⊎ Next q edition other bytes)

-- the next entry, where one history goes on behind another
next_entry : (p q e f : ℕ) (history : List EntryRecord) (x : EntryRecord) (rest : List EntryRecord) (bytes : List ℕ) → ReadsTo p e history bytes → ReadsTo q f (history ++ x ∷ rest) bytes → e ≡ f →
    Next p e history bytes
next_entry p q e f history x rest bytes first second same =
    let found = next_stands p q e f (records_of history) (record_text x) (records_of rest) bytes first.stands
    (subst (λ (list : List (List ℕ)). StandsTo q f list bytes) (map-append record_text history (x ∷ rest)) second.stands) in
    let low = all_there (λ (y : EntryRecord). y.edition ≤ f) history x rest second.entries.editions in
    record {
      e = x;
      stands = record { next = p + (length (record_text x) + 5); finds = found.finds; gate = omega (arith, found.within, second.gate) };
      within = all_there IsWithin history x rest second.entries.within;
      most = omega (arith, low, same);
      next = next_there opening 0 history x rest second.legal.entries;
    }

pub compares : (p q e f : ℕ) (history other : List EntryRecord) (bytes : List ℕ) → ReadsTo p e history bytes → ReadsTo q f other bytes → (e ≡ f) × Compares p q e history other bytes
compares p q e f history other bytes first second =
    let front = one_front p q e f (records_of history) (records_of other) bytes first.stands second.stands in (
      front.0,
      elim front.1 [
        | inl on ↦
            let more = behind history other on.more first.entries.within second.entries.within on.parts in
            forward front.0 more.rest more.parts
        | inr on ↦
            let more = behind other history on.more second.entries.within first.entries.within on.parts in
            backward front.0 more.rest more.parts
      ],
    )
  where
    place : history ≡ other → p ≡ q
    place same = tail_is p e (records_of history) bytes first.stands ∙ ap (λ (xs : List EntryRecord). 16 + frames_length (records_of xs)) same ∙ sym (tail_is q f (records_of other) bytes second.stands)

    forward : e ≡ f → (rest : List EntryRecord) → other ≡ history ++ rest → Compares p q e history other bytes
    forward same [] parts =
        let one : history ≡ other = sym (append-nil history) ∙ sym parts in
        inl (record { place = place one; history_is = one })
    forward same (x ∷ rest) parts = inr (inl (next_entry p q e f history x rest bytes first (subst (λ (xs : List EntryRecord). ReadsTo q f xs bytes) parts second) same))

    backward : e ≡ f → (rest : List EntryRecord) → history ≡ other ++ rest → Compares p q e history other bytes
    backward same [] parts =
        let one : history ≡ other = parts ∙ append-nil other in
        inl (record { place = place one; history_is = one })
    backward same (x ∷ rest) parts =
        inr (inr (subst (λ k. Next q k other bytes) (sym same) (next_entry q p f e other x rest bytes second (subst (λ (xs : List EntryRecord). ReadsTo p e xs bytes) parts first) (sym same))))
