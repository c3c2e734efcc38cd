-- Bytes that spell a legal history aren't damaged, and bytes are damaged at one place in one way.
use Rattle.std.proofs.Common.{◌≡◌, ◌⊎◌, ◌∙◌, inl, inr, ℕ, ◌+◌, ◌<◌, ◌≤◌, List, [], ◌∷◌, ◌++◌, length, take, slice_index, refl, sym, ap, subst, arith}
use Rattle.std.proofs.lemmas.List.{take_at, length-append}
use Rattle.dali_entry.specs.EntryRecord.{EntryRecord}
use Rattle.dali_record.specs.IsRecord.{IsWithin, IsRecord}
use Rattle.dali_record.specs.RecordText.{record_text}
use Rattle.dali_record.proofs.EntryAgain.{one_entry}
use Rattle.dali_machine.specs.History.{IsNext, IsLegal, HasItsChoice, state_of}
use Rattle.dali_machine.specs.Step.{judged}
use Rattle.dali_journal.specs.Holds.{IsHeader, StandsTo}
use Rattle.dali_journal.specs.JournalAt.{IsTooLong, Finds}
use Rattle.dali_journal.specs.declared.refusal.Damage.{Damage}
use Rattle.dali_journal.specs.declared.refusal.Damage.TheVariants.{Short, Header, Length, Entry, Illegal}
use Rattle.dali_journal.proofs.RecordLemmas.{header_length}
use Rattle.dali_recover.specs.Spells.{records_of, SpellsLegal}
use Rattle.dali_recover.specs.Damaged.{last_edition, ReadsTo, StandsWhole, IsNoEntry, IsIllegal, FailsAt, FailsBehind, DamagedAt}
use Rattle.dali_recover.proofs.Fronts.{gate_of, one_payload, whole_fits}
use Rattle.dali_recover.proofs.Spelling.{Ends, ends, Next, Same, Compares, compares}

-- two payloads that stand whole at one place are one
same_payload : (p q bytes : List ℕ) (place : ℕ) → StandsWhole p place bytes → StandsWhole q place bytes → p ≡ q
same_payload p q bytes place first second = one_payload p q bytes place first.next second.next first.finds second.finds

-- an entry whose record a payload is
entry_is : (e f : EntryRecord) (payload : List ℕ) → IsRecord payload e → IsRecord payload f → e ≡ f
entry_is e f payload first second = one_entry e f first.within second.within (sym first.text ∙ second.text)

-- the gate at a place where something fails is open
open_gate : (why : Damage) (edition : ℕ) (history : List EntryRecord) (place : ℕ) (bytes : List ℕ) → FailsAt why edition history place bytes → slice_index bytes place ≡ 0 → ⊥
open_gate Short edition history place bytes fails shut = fails
open_gate Header edition history place bytes fails shut = fails
open_gate Length edition history place bytes fails shut = fails.0 shut
open_gate Entry edition history place bytes fails shut = (gate_of fails.0 bytes place fails.1.next fails.1.finds).1 shut
open_gate Illegal edition history place bytes fails shut = (gate_of fails.0 bytes place fails.1.next fails.1.finds).1 shut

-- where a next entry stands, nothing fails
no_failure : (why : Damage) (edition : ℕ) (history : List EntryRecord) (place : ℕ) (bytes : List ℕ) → Next place edition history bytes → FailsAt why edition history place bytes → ⊥
no_failure Short edition history place bytes next fails = fails
no_failure Header edition history place bytes next fails = fails
no_failure Length edition history place bytes next fails = whole_fits (record_text next.e) bytes place next.stands.next next.stands.finds next.stands.gate fails
no_failure Entry edition history place bytes next fails =
    let is : IsRecord fails.0 next.e = record { within = next.within; text = same_payload fails.0 (record_text next.e) bytes place fails.1 next.stands } in
    elim fails.2 [
      | inl none ↦ none next.e is
      | inr other ↦
          let same : other.0 ≡ next.e = entry_is other.0 next.e fails.0 other.1 is in
          let edition_is : other.0.edition ≡ next.e.edition = ap (λ (x : EntryRecord). x.edition) same in
          elim other.2 [
            | inl above ↦ absurd (omega (arith, above, edition_is, next.most))
            | inr below ↦ absurd (omega (arith, below, edition_is, next.next.edition))
          ]
    ]
no_failure Illegal edition history place bytes next fails =
    let is : IsRecord fails.0 next.e = record { within = next.within; text = same_payload fails.0 (record_text next.e) bytes place fails.1 next.stands } in
    let same : next.e ≡ fails.2.0 = entry_is next.e fails.2.0 fails.0 is fails.2.1 in
    fails.2.4 (subst (λ (x : EntryRecord). HasItsChoice (state_of history) (judged x.edition (state_of history) x.line) x.choice) same next.next.choice)

-- at one place behind one history one thing fails
entry_or_illegal : (edition : ℕ) (history : List EntryRecord) (place : ℕ) (bytes : List ℕ) → FailsAt Entry edition history place bytes → FailsAt Illegal edition history place bytes → ⊥
entry_or_illegal edition history place bytes first second =
    let is : IsRecord first.0 second.2.0 = subst (λ (bs : List ℕ). IsRecord bs second.2.0) (same_payload second.0 first.0 bytes place second.1 first.1) second.2.1 in
    elim first.2 [
      | inl none ↦ none second.2.0 is
      | inr other ↦
          let edition_is : other.0.edition ≡ second.2.0.edition = ap (λ (x : EntryRecord). x.edition) (entry_is other.0 second.2.0 first.0 other.1 is) in
          elim other.2 [
            | inl above ↦ absurd (omega (arith, above, edition_is, second.2.2))
            | inr below ↦ absurd (omega (arith, below, edition_is, second.2.3))
          ]
    ]

one_failure : (why other : Damage) (edition : ℕ) (history : List EntryRecord) (place : ℕ) (bytes : List ℕ) → FailsAt why edition history place bytes → FailsAt other edition history place bytes → why ≡ other
one_failure Short other edition history place bytes first second = absurd first
one_failure Header other edition history place bytes first second = absurd first
one_failure Length Short edition history place bytes first second = absurd second
one_failure Length Header edition history place bytes first second = absurd second
one_failure Length Length edition history place bytes first second = refl
one_failure Length Entry edition history place bytes first second = absurd (whole_fits second.0 bytes place second.1.next second.1.finds second.1.gate first)
one_failure Length Illegal edition history place bytes first second = absurd (whole_fits second.0 bytes place second.1.next second.1.finds second.1.gate first)
one_failure Entry Short edition history place bytes first second = absurd second
one_failure Entry Header edition history place bytes first second = absurd second
one_failure Entry Length edition history place bytes first second = absurd (whole_fits first.0 bytes place first.1.next first.1.finds first.1.gate second)
one_failure Entry Entry edition history place bytes first second = refl
one_failure Entry Illegal edition history place bytes first second = absurd (entry_or_illegal edition history place bytes first second)
one_failure Illegal Short edition history place bytes first second = absurd second
one_failure Illegal Header edition history place bytes first second = absurd second
one_failure Illegal Length edition history place bytes first second = absurd (whole_fits first.0 bytes place first.1.next first.1.finds first.1.gate second)
one_failure Illegal Entry edition history place bytes first second = absurd (entry_or_illegal edition history place bytes second first)
one_failure Illegal Illegal edition history place bytes first second = refl

-- what was read has a header, and a byte behind it
record Headed (bytes : List ℕ) : Type 0 where
  pub edition : ℕ
  pub is : IsHeader edition (take 16 bytes)
  pub long : 17 ≤ length bytes

headed : (place edition : ℕ) (history : List EntryRecord) (bytes : List ℕ) → ReadsTo place edition history bytes → Headed bytes
headed place edition history bytes reads =
    let to = reads.stands in
    record {
      edition = edition;
      is = subst (IsHeader edition) (sym (ap (λ bs. take 16 bs) to.whole ∙ take_at to.header (to.body ++ to.rest) 16 (header_length edition to.header to.is_header))) to.is_header;
      long = omega (arith, reads.gate, to.place);
    }

-- where the records before a place are a history, neither the length nor the header is wrong
no_start : (why : Damage) (p place edition : ℕ) (history : List EntryRecord) (bytes : List ℕ) → ReadsTo p edition history bytes → DamagedAt bytes place why → FailsBehind why place bytes
no_start Short p place edition history bytes reads damaged = absurd (let head = headed p edition history bytes reads in omega (arith, damaged.1, head.long))
no_start Header p place edition history bytes reads damaged = absurd (let head = headed p edition history bytes reads in damaged.2 head.edition head.is)
no_start Length p place edition history bytes reads damaged = damaged
no_start Entry p place edition history bytes reads damaged = damaged
no_start Illegal p place edition history bytes reads damaged = damaged

-- bytes that spell a legal history aren't damaged
pub not_damaged : (bytes : List ℕ) (history : List EntryRecord) (place : ℕ) (why : Damage) → SpellsLegal bytes history → DamagedAt bytes place why → ⊥
not_damaged bytes history place why spells damaged =
    let end = ends bytes history spells in
    let fails = no_start why end.place place end.edition history bytes end.reads damaged in
    let both = compares place end.place fails.edition end.edition fails.history history bytes fails.reads end.reads in
    elim both.1 [
      | inl same ↦ open_gate why fails.edition fails.history place bytes fails.fails (ap (λ k. slice_index bytes k) same.place ∙ end.shut)
      | inr next ↦ elim next [
        | inl here ↦ no_failure why fails.edition fails.history place bytes here fails.fails
        | inr there ↦ (gate_of (record_text there.e) bytes end.place there.stands.next there.stands.finds).1 end.shut
      ]
    ]

-- one place, and one way
pub record One (p q : ℕ) (why other : Damage) : Type 0 where
  pub place : p ≡ q
  pub way : why ≡ other

behind_one : (bytes : List ℕ) (p q : ℕ) (why other : Damage) → FailsBehind why p bytes → FailsBehind other q bytes → One p q why other
behind_one bytes p q why other first second =
    let both = compares p q first.edition second.edition first.history second.history bytes first.reads second.reads in
    elim both.1 [
      | inl same ↦ record {
        place = same.place;
        way = one_failure why other first.edition first.history p bytes first.fails
            (subst (λ k. FailsAt other k first.history p bytes) (sym both.0)
            (subst (λ (xs : List EntryRecord). FailsAt other second.edition xs p bytes) (sym same.history_is)
            (subst (λ k. FailsAt other second.edition second.history k bytes) (sym same.place) second.fails)));
      }
      | inr next ↦ elim next [
        | inl here ↦ absurd (no_failure why first.edition first.history p bytes here first.fails)
        | inr there ↦ absurd (no_failure other second.edition second.history q bytes (subst (λ k. Next q k second.history bytes) both.0 there) second.fails)
      ]
    ]

pub one_damage : (bytes : List ℕ) (p q : ℕ) (why other : Damage) → DamagedAt bytes p why → DamagedAt bytes q other → One p q why other
one_damage bytes p q Short Short first second = record { place = first.0 ∙ sym second.0; way = refl }
one_damage bytes p q Short Header first second = absurd (omega (arith, first.1, second.1))
one_damage bytes p q Short Length first second = absurd (let head = headed q second.edition second.history bytes second.reads in omega (arith, first.1, head.long))
one_damage bytes p q Short Entry first second = absurd (let head = headed q second.edition second.history bytes second.reads in omega (arith, first.1, head.long))
one_damage bytes p q Short Illegal first second = absurd (let head = headed q second.edition second.history bytes second.reads in omega (arith, first.1, head.long))
one_damage bytes p q Header Short first second = absurd (omega (arith, first.1, second.1))
one_damage bytes p q Header Header first second = record { place = first.0 ∙ sym second.0; way = refl }
one_damage bytes p q Header Length first second = absurd (let head = headed q second.edition second.history bytes second.reads in first.2 head.edition head.is)
one_damage bytes p q Header Entry first second = absurd (let head = headed q second.edition second.history bytes second.reads in first.2 head.edition head.is)
one_damage bytes p q Header Illegal first second = absurd (let head = headed q second.edition second.history bytes second.reads in first.2 head.edition head.is)
one_damage bytes p q Length other first second = behind_one bytes p q Length other first (no_start other p q first.edition first.history bytes first.reads second)
one_damage bytes p q Entry other first second = behind_one bytes p q Entry other first (no_start other p q first.edition first.history bytes first.reads second)
one_damage bytes p q Illegal other first second = behind_one bytes p q Illegal other first (no_start other p q first.edition first.history bytes first.reads second)
