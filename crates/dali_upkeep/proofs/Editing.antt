-- What an image spells in an edition.
use Rattle.std.proofs.Common.{◌≡◌, inl, inr, ℕ, ◌+◌, ◌<◌, ◌≤◌, Bool, true, false, nat_lt, if◌then◌else◌, List, [], ◌∷◌, refl, sym, ap, subst, arith}
use Rattle.std.proofs.lemmas.List.Elements.{All-weaker}
use Rattle.std.proofs.lemmas.Bool.{ltb-true, ltb-false}
use Rattle.dali_base.specs.Limits.{newest_edition}
use Rattle.dali_outside.specs.Outside.{overlay}
use Rattle.dali_entry.specs.EntryRecord.{EntryRecord}
use Rattle.dali_machine.specs.History.{IsLegal}
use Rattle.dali_journal.specs.Holds.{HoldsAt}
use Rattle.dali_journal.proofs.OneList.{one_list}
use Rattle.dali_recover.specs.Spells.{records_of, AreEntriesIn, SpellsLegal}
use Rattle.dali_recover.proofs.Spelling.{one_history}
use Rattle.dali_upkeep.specs.Editions.{SpellsIn, SpellsInEither, raised_edition, raised_bytes}
use Rattle.dali_upkeep.specs.RaiseRun.{SpellsOne}

-- a journal of a greater edition can hold the same entries
pub entries_up : (edition next : ℕ) (history : List EntryRecord) → edition ≤ next → AreEntriesIn edition history → AreEntriesIn next history
entries_up edition next history up are = record {
  within = are.within;
  editions = All-weaker (λ (e : EntryRecord). e.edition ≤ edition) (λ (e : EntryRecord). e.edition ≤ next) (λ (e : EntryRecord) most. omega (arith, most, up)) history are.editions;
}

one_up : (edition : ℕ) (b : Bool) → edition ≤ (if b then edition + 1 else edition)
one_up edition true = omega arith
one_up edition false = omega arith

pub raised_up : (edition : ℕ) → edition ≤ raised_edition edition
raised_up edition = one_up edition (nat_lt edition newest_edition)

-- below the newest there is a next one, and at it there is none
abbrev pub raised_by : Bool → ℕ → ℕ
raised_by b edition = if b then edition + 1 else edition

abbrev pub rewritten_by : Bool → ℕ → List ℕ → List ℕ
rewritten_by b edition bytes = if b then overlay bytes (11 + edition) (1 ∷ []) else bytes

test_below : (edition : ℕ) → edition < newest_edition → nat_lt edition newest_edition ≡ true
test_below edition below = by (nat_lt edition newest_edition) refl
  where
    by : (b : Bool) → nat_lt edition newest_edition ≡ b → nat_lt edition newest_edition ≡ true
    by true is = is
    by false is = absurd (let past = ltb-false edition newest_edition is in omega (arith, past, below))

test_newest : (edition : ℕ) → newest_edition ≤ edition → nat_lt edition newest_edition ≡ false
test_newest edition past = by (nat_lt edition newest_edition) refl
  where
    by : (b : Bool) → nat_lt edition newest_edition ≡ b → nat_lt edition newest_edition ≡ false
    by true is = absurd (let below = ltb-true edition newest_edition is in omega (arith, past, below))
    by false is = is

pub edition_below : (edition : ℕ) → edition < newest_edition → edition + 1 ≡ raised_edition edition
edition_below edition below = sym (ap (λ b. raised_by b edition) (test_below edition below))

pub bytes_below : (edition : ℕ) (bytes : List ℕ) → edition < newest_edition → overlay bytes (11 + edition) (1 ∷ []) ≡ raised_bytes edition bytes
bytes_below edition bytes below = sym (ap (λ b. rewritten_by b edition bytes) (test_below edition below))

pub edition_newest : (edition : ℕ) → newest_edition ≤ edition → edition ≡ raised_edition edition
edition_newest edition past = sym (ap (λ b. raised_by b edition) (test_newest edition past))

pub bytes_newest : (edition : ℕ) (bytes : List ℕ) → newest_edition ≤ edition → bytes ≡ raised_bytes edition bytes
bytes_newest edition bytes past = sym (ap (λ b. rewritten_by b edition bytes) (test_newest edition past))

-- from a list of records that stands somewhere
pub spells_at : (tail edition : ℕ) (history : List EntryRecord) (image : List ℕ) → AreEntriesIn edition history → IsLegal history → HoldsAt tail edition (records_of history) image → SpellsIn edition history image
spells_at tail edition history image entries legal at = record { holds = record { tail = tail; at = at }; entries = entries; legal = legal }

pub legal_in : (edition : ℕ) (history : List EntryRecord) (image : List ℕ) → SpellsIn edition history image → SpellsLegal image history
legal_in edition history image s = record { spells = record { edition = edition; holds = s.holds; entries = s.entries }; legal = s.legal }

pub in_edition : (image : List ℕ) (one : SpellsOne image) → SpellsIn one.legal.spells.edition one.history image
in_edition image one = record { holds = one.legal.spells.holds; entries = one.legal.spells.entries; legal = one.legal.legal }

-- an image spells one history in one edition
pub same_edition : (e f : ℕ) (history other : List EntryRecord) (image : List ℕ) → SpellsIn e history image → SpellsIn f other image → e ≡ f
same_edition e f history other image first second = (one_list e f (records_of history) (records_of other) image first.holds second.holds).0

pub same_history : (e f : ℕ) (history other : List EntryRecord) (image : List ℕ) → SpellsIn e history image → SpellsIn f other image → history ≡ other
same_history e f history other image first second =
    one_history image history other (legal_in e history image first).spells (legal_in f other image second).spells

pub either_same : (e f : ℕ) (history other : List EntryRecord) (image : List ℕ) → e ≡ f → history ≡ other → SpellsInEither e history image → SpellsInEither f other image
either_same e f history other image same one either =
    subst (λ k. SpellsInEither k other image) same (subst (λ h. SpellsInEither e h image) one either)

pub either_legal : (edition : ℕ) (history : List EntryRecord) (image : List ℕ) → SpellsInEither edition history image → SpellsLegal image history
either_legal edition history image (inl same) = legal_in edition history image same
either_legal edition history image (inr next) = legal_in (edition + 1) history image next
