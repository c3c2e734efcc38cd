-- What stands on the device while frames are taken.
use Rattle.std.proofs.Common.{◌≡◌, ◌∙◌, inl, inr, ℕ, zero, suc, ◌+◌, Bool, true, List, [], ◌∷◌, ◌++◌, length, take, refl, sym, ap, subst, arith, append_assoc, append-nil}
use Rattle.std.specs.Prelude.{IsTrue}
use Rattle.dali_entry.specs.EntryRecord.{EntryRecord}
use Rattle.dali_journal.specs.Appends.{AtRest, EitherList}
use Rattle.dali_journal.specs.Holds.{Holds, HoldsAt}
use Rattle.dali_machine.specs.History.{IsLegal}
use Rattle.dali_outside.specs.Outside.{Sight, Goes, TellsAll, now}
use Rattle.dali_outside.specs.Stops.{IsImage, Keeps, LeavesOnly}
use Rattle.dali_outside.proofs.Images.{only_image}
use Rattle.dali_outside.proofs.Moments.{leaves_start, leaves_on, leaves_weaker}
use Rattle.dali_record.specs.RecordText.{record_text}
use Rattle.dali_recover.specs.Recovers.{IsFound, RestsWith}
use Rattle.dali_recover.specs.Spells.{records_of, AreEntriesIn}
use Rattle.dali_recover.specs.declared.found.Found.{Found}
use Rattle.dali_recover.proofs.Histories.{records_more}
use Rattle.dali_replica.specs.Judging.{IsNextBy}
use Rattle.dali_replica.specs.Stream.{ShippedRecord}
use Rattle.dali_upkeep.specs.Editions.{SpellsIn}
use Rattle.dali_follow.specs.FollowRun.{SpellsTaken}
use Rattle.dali_follow.specs.SoFar.{AppendsEntry, Adds, Passes, TakesFrame, Stands}
use Rattle.dali_follow.specs.Takes.{Takes}
use Rattle.dali_follow.proofs.Takings.{takes_more, takes_past, held_more}

pub goes_on : (a b c : Sight) → Goes a b → Goes b c → Goes a c
goes_on a b c first second = record { same_size = second.same_size ∙ first.same_size; disk = omega (arith, first.disk, second.disk); print = omega (arith, first.print, second.print) }

pub goes_nowhere : (s : Sight) → Goes s s
goes_nowhere s = record { same_size = refl; disk = omega arith; print = omega arith }

pub take_none : (n : ℕ) → take {A = ℕ} n [] ≡ []
take_none zero = refl
take_none (suc n) = refl

-- on a device at rest a stop leaves the bytes that stand there
pub rest_image : (tail edition : ℕ) (list : List (List ℕ)) (s : Sight) (image : List ℕ) → TellsAll s → AtRest tail edition list s → IsImage s.bytes s.loose image → image ≡ s.bytes
rest_image tail edition list s image tells at is =
    only_image s.bytes (length s.loose) image (tells.loose ∙ sym tells.bytes) (subst (λ ls. IsImage s.bytes ls image) at.firm is)

-- what is held is spelled
pub spells_in : (edition : ℕ) (history : List EntryRecord) (image : List ℕ) → AreEntriesIn edition history → IsLegal history → Holds edition (records_of history) image → SpellsIn edition history image
spells_in edition history image held legal holds = record { holds = holds; entries = held; legal = legal }

-- a stop while the history stands, with no frame taken since
pub taken_now : (edition : ℕ) (found : List EntryRecord) (frames : List ShippedRecord) (all : List EntryRecord) (printed image text : List ℕ) → Takes edition found frames all → SpellsIn edition all image → text ≡ printed →
    SpellsTaken edition found frames printed image text
taken_now edition found frames all printed image text takes spells silent = record {
  first = frames;
  rest = [];
  parts = sym (append-nil frames);
  history = all;
  takes = takes;
  spells = spells;
  silent = silent;
}

pub taken_more : (edition : ℕ) (found : List EntryRecord) (frames more : List ShippedRecord) (printed image text : List ℕ) → SpellsTaken edition found frames printed image text →
    SpellsTaken edition found (frames ++ more) printed image text
taken_more edition found frames more printed image text is = record {
  first = is.first;
  rest = is.rest ++ more;
  parts = ap (λ (fs : List ShippedRecord). fs ++ more) is.parts ∙ append_assoc is.first is.rest more;
  history = is.history;
  takes = is.takes;
  spells = is.spells;
  silent = is.silent;
}

-- right after the opening
pub stands_start : (told : Bool) (mid : Sight) (found : Found) → IsFound mid.size found → (IsTrue told → RestsWith found mid) → (IsTrue told → TellsAll mid) →
    Stands told mid found.journal.edition found.entries [] found mid
stands_start told mid found is rests tells = record {
  read = is;
  edition_is = refl;
  takes = refl;
  rest = λ t. (rests t).rest;
  silent = λ t. refl;
  stops = λ t. leaves_start (SpellsTaken found.journal.edition found.entries [] mid.printed) mid (start t);
  goes = goes_nowhere mid;
}
  where
    start : IsTrue told → Keeps (SpellsTaken found.journal.edition found.entries [] mid.printed) (now mid)
    start t image text may =
        let at = (rests t).rest in
        let same : image ≡ mid.bytes = rest_image found.journal.tail found.journal.edition (records_of found.entries) mid image (tells t) at may.disk in
        taken_now found.journal.edition found.entries [] found.entries mid.printed image text refl
        (spells_in found.journal.edition found.entries image is.read.entries is.read.legal
        (record { tail = found.journal.tail; at = subst (HoldsAt found.journal.tail found.journal.edition (records_of found.entries)) (sym same) at.holds }))
        (may.printed ∙ ap (λ (bs : List ℕ). mid.printed ++ bs) (take_none may.n) ∙ append-nil mid.printed)

module _ (told : Bool) (mid : Sight) (edition : ℕ) (found : List EntryRecord) (frames : List ShippedRecord) (f : ShippedRecord) (old : Found) (before : Sight) (stands : Stands told mid edition found frames old before) where
  -- a frame was passed over
  pub stands_past : (new : Found) (after : Sight) → Passes f old new before after → Stands told mid edition found (frames ++ f ∷ []) new after
  stands_past new after past =
      subst (λ (x : Found). Stands told mid edition found (frames ++ f ∷ []) x after) (sym past.same)
      (subst (Stands told mid edition found (frames ++ f ∷ []) old) (sym past.still) (record {
        read = stands.read;
        edition_is = stands.edition_is;
        takes = takes_past edition found frames old.entries f stands.takes past.passed;
        rest = stands.rest;
        silent = stands.silent;
        stops = λ t. leaves_weaker (SpellsTaken edition found frames mid.printed) (SpellsTaken edition found (frames ++ f ∷ []) mid.printed) mid before
            (taken_more edition found frames (f ∷ []) mid.printed) (stands.stops t);
        goes = stands.goes;
      }))

  module _ (e : EntryRecord) (next : IsNextBy old.journal.edition old.entries f e) where
    next_in : IsNextBy edition old.entries f e
    next_in = subst (λ n. IsNextBy n old.entries f e) stands.edition_is next

    held : AreEntriesIn edition old.entries
    held = subst (λ n. AreEntriesIn n old.entries) stands.edition_is stands.read.read.entries

    -- one more entry, whether its append worked or not
    pub all_taken : Takes edition found (frames ++ f ∷ []) (old.entries ++ e ∷ [])
    all_taken = takes_more edition found frames old.entries f e stands.takes next_in

    pub all_held : AreEntriesIn edition (old.entries ++ e ∷ [])
    all_held = let goes = next_in in held_more edition old.entries f.bytes e held goes.goes_on

    pub all_legal : IsLegal (old.entries ++ e ∷ [])
    all_legal = let goes = next_in in goes.goes_on.legal

    either : (image text : List ℕ) → before.printed ≡ mid.printed → EitherList edition (records_of old.entries) (record_text e ∷ []) before.printed image text → SpellsTaken edition found (frames ++ f ∷ []) mid.printed image text
    either image text silent is = elim is.one [
      | inl one ↦ taken_more edition found frames (f ∷ []) mid.printed image text
          (taken_now edition found frames old.entries mid.printed image text stands.takes (spells_in edition old.entries image held stands.read.read.legal one) (is.silent ∙ silent))
      | inr both ↦ taken_now edition found (frames ++ f ∷ []) (old.entries ++ e ∷ []) mid.printed image text all_taken
          (spells_in edition (old.entries ++ e ∷ []) image all_held all_legal (subst (λ (list : List (List ℕ)). Holds edition list image) (sym (records_more old.entries e)) both)) (is.silent ∙ silent)
    ]

    pub append_stops : (worked : Bool) (after : Sight) → IsTrue told → AppendsEntry worked old.journal.tail e before after → LeavesOnly (SpellsTaken edition found (frames ++ f ∷ []) mid.printed) mid after
    append_stops worked after t appends =
        let done = appends edition (records_of old.entries) (stands.rest t) in
        leaves_on (SpellsTaken edition found (frames ++ f ∷ []) mid.printed) mid before
        (leaves_weaker (SpellsTaken edition found frames mid.printed) (SpellsTaken edition found (frames ++ f ∷ []) mid.printed) mid before (taken_more edition found frames (f ∷ []) mid.printed) (stands.stops t))
        after
        (leaves_weaker (EitherList edition (records_of old.entries) (record_text e ∷ []) before.printed) (SpellsTaken edition found (frames ++ f ∷ []) mid.printed) before after
        (λ image text is. either image text (stands.silent t) is) done.2.each)

    -- it worked
    pub stands_more : (new : Found) (after : Sight) → Adds told e old new before after → IsFound mid.size new → Stands told mid edition found (frames ++ f ∷ []) new after
    stands_more new after adds is = record {
      read = is;
      edition_is = adds.edition ∙ stands.edition_is;
      takes = subst (Takes edition found (frames ++ f ∷ [])) (sym adds.entries) all_taken;
      rest = λ t.
          let done = adds.appends t edition (records_of old.entries) (stands.rest t) in
          let at = done.2.done refl in
          let tail : old.journal.tail + length done.0 ≡ new.journal.tail = omega (arith, done.1, adds.tail) in
          subst (λ (list : List (List ℕ)). AtRest new.journal.tail edition list after) (sym (records_more old.entries e) ∙ ap records_of (sym adds.entries))
          (subst (λ n. AtRest n edition (records_of old.entries ++ record_text e ∷ []) after) tail at);
      silent = λ t. adds.silent t ∙ stands.silent t;
      stops = λ t. append_stops true after t (adds.appends t);
      goes = goes_on mid before after stands.goes adds.goes;
    }

-- one more frame was taken
pub stands_on : (told : Bool) (mid : Sight) (edition : ℕ) (found : List EntryRecord) (frames : List ShippedRecord) (f : ShippedRecord) (old new : Found) (before after : Sight) →
    Stands told mid edition found frames old before → TakesFrame told f old new before after → IsFound after.size new → Stands told mid edition found (frames ++ f ∷ []) new after
stands_on told mid edition found frames f old new before after stands (inl added) is =
    stands_more told mid edition found frames f old before stands added.e added.next new after added.adds (subst (λ n. IsFound n new) (added.adds.goes.same_size ∙ stands.goes.same_size) is)
stands_on told mid edition found frames f old new before after stands (inr past) is = stands_past told mid edition found frames f old before stands new after past
