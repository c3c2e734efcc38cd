use Rattle.std.proofs.Common.{◌≡◌, ◌∙◌, ℕ, ◌+◌, ◌-◌, ◌<◌, ◌≤◌, Bool, true, false, List, [], ◌∷◌, ◌++◌, length, refl, sym, ap, subst, append_assoc, append-nil, arith}
use Rattle.std.specs.Prelude.{IsTrue}
use Rattle.std.specs.List.{All}
use Rattle.dali_entry.specs.EntryRecord.{EntryRecord}
use Rattle.dali_journal.specs.Appends.{AtRest, Appends}
use Rattle.dali_journal.specs.Frames.{frames_length, AreFrames}
use Rattle.dali_journal.specs.JournalAt.{Reached}
use Rattle.dali_machine.specs.History.{state_of}
use Rattle.dali_machine.specs.Machine.{StateRecord}
use Rattle.dali_outside.specs.Outside.{Sight, Prints, SameDisk, TellsAll, Goes, Rose}
use Rattle.dali_outside.specs.Stops.{LeavesOnly}
use Rattle.dali_register.specs.Front.{IsFront, PrintsFront}
use Rattle.dali_register.specs.Leaving.{LeavesDay}
use Rattle.dali_recover.specs.Spells.{records_of}
use Rattle.dali_register.specs.Standing.{HasKept, AreEntries, IsAtSite, Stands}
use Rattle.dali_register.specs.Taking.{GivesUp, PrintsInPart}
use Rattle.dali_register.specs.TextOf.{texts, text_of}
use Rattle.dali_register.specs.declared.register.Register.{Register}
use Rattle.dali_register.proofs.Keeping.{AppendsMore, appended_stops, put_stops_more, put_rest, put_front, has_more}
use Rattle.dali_register.proofs.Putting.{goes_on}

-- only no entries have no records
no_records : (held : List EntryRecord) → records_of held ≡ [] → held ≡ []
no_records [] none = refl
no_records (e ∷ held) none = absurd (Prim.cc)

-- the entries that were held back, behind those added
pub moved_over : (found added held : List EntryRecord) → (found ++ (added ++ held)) ++ [] ≡ (found ++ added) ++ held
moved_over found added held = append-nil (found ++ (added ++ held)) ∙ sym (append_assoc found added held)

-- nothing is held back
pub flushed_none : (told : Bool) (before : Sight) (found added held : List EntryRecord) (r : Register) (s : Sight) → Stands told before found added held r s → r.group ≡ [] →
    Stands told before found (added ++ held) [] r s
flushed_none told before found added held r s stands none =
    let nothing : held ≡ [] = no_records held (sym stands.group ∙ none) in
    subst (λ xs. Stands told before found (added ++ xs) [] r s) (sym nothing)
    (subst (λ xs. Stands told before found xs [] r s) (sym (append-nil added)) (subst (λ xs. Stands told before found added xs r s) nothing stands))

-- What was held back is appended, and its replies are printed.
module _ (told : Bool) (before : Sight) (found added held : List EntryRecord) (r : Register) (old mid : Sight) (stands : Stands told before found added held r old) where
  kept_is : found ++ (added ++ held) ≡ (found ++ added) ++ held
  kept_is = sym (append_assoc found added held)

  begins : IsFront found (found ++ added)
  begins = record { rest = added; parts = refl }

  -- the append failed
  pub flush_gave_up : (IsTrue told → AppendsMore false r.journal.tail r.journal.edition (found ++ added) held (frames_length r.group) old mid) → Goes old mid → Rose old.disk_faults mid.disk_faults →
      GivesUp told before found ((found ++ added) ++ held) r.journal.edition old mid
  flush_gave_up appends goes rose = record {
    entries = stands.entries;
    stops = λ is. appended_stops told before found (found ++ added) held r.journal.tail r.journal.edition (frames_length r.group) old mid begins stands.entries.held stands.kept false is (appends is);
    goes = goes_on before old mid stands.kept.goes goes;
    rose = rose;
  }

  module _ (new : Sight) (appends : IsTrue told → AppendsMore true r.journal.tail r.journal.edition (found ++ added) held (frames_length r.group) old mid) (silent : IsTrue told → mid.printed ≡ old.printed)
      (tells : IsTrue told → TellsAll mid) (same : IsTrue told → SameDisk mid new) (first : Goes old mid) (second : Goes mid new) where
    -- the put failed
    pub flush_mumbled : (IsTrue told → Prints false r.replies mid new) → Rose mid.print_faults new.print_faults →
        PrintsInPart told before found (added ++ held) (r.journal.tail + frames_length r.group) r.journal.edition old new
    flush_mumbled prints rose = record {
      entries = subst (AreEntries r.journal.edition found) (sym kept_is) stands.entries;
      rest = λ is. subst (λ xs. AtRest (r.journal.tail + frames_length r.group) r.journal.edition (records_of xs) new) (sym kept_is)
          (put_rest told before found (found ++ added) held r.journal.tail r.journal.edition (frames_length r.group) old mid begins stands.entries.held stands.kept r.replies new stands.replies appends silent tells same is);
      text = λ is. subst (λ xs. PrintsFront (text_of xs) before new) (sym kept_is)
          (put_front told before found (found ++ added) held r.journal.tail r.journal.edition (frames_length r.group) old mid begins stands.entries.held stands.kept r.replies new stands.replies appends silent tells same false is (prints is));
      stops = λ is. subst (λ xs. LeavesOnly (LeavesDay before found xs) before new) (sym kept_is)
          (put_stops_more told before found (found ++ added) held r.journal.tail r.journal.edition (frames_length r.group) old mid begins stands.entries.held stands.kept r.replies new stands.replies appends silent tells same false is (prints is));
      goes = goes_on before mid new (goes_on before old mid stands.kept.goes first) second;
      rose = omega (arith, rose, first.print);
    }

    -- all worked
    pub flushed_all : (after : Register) → (IsTrue told → Prints true r.replies mid new) → after.state ≡ r.state →
        after.journal ≡ record r.journal { tail = r.journal.tail + frames_length r.group; left = r.journal.left - frames_length r.group } → after.group ≡ [] → after.replies ≡ [] →
        Stands told before found (added ++ held) [] after new
    flushed_all after prints state journal group replies = record {
      at_site = record {
        size = omega (arith, ap (λ (j : Reached). j.tail) journal, ap (λ (j : Reached). j.left) journal, stands.at_site.size, stands.at_site.fits, first.same_size, second.same_size);
        ended = ap (λ (j : Reached). j.ended) journal ∙ stands.at_site.ended;
        fits = omega (arith, ap frames_length group, ap (λ (j : Reached). j.left) journal, stands.at_site.fits);
      };
      kept = subst (λ (j : Reached). HasKept told before found (found ++ (added ++ held)) j.tail j.edition new) (sym journal)
          (subst (λ xs. HasKept told before found xs (r.journal.tail + frames_length r.group) r.journal.edition new) (sym kept_is)
          (has_more told before found (found ++ added) held r.journal.tail r.journal.edition (frames_length r.group) old mid begins stands.entries.held stands.kept r.replies new stands.replies appends silent tells same prints first second));
      entries = subst (λ (j : Reached). AreEntries j.edition found ((found ++ (added ++ held)) ++ [])) (sym journal) (subst (AreEntries r.journal.edition found) (sym (moved_over found added held)) stands.entries);
      own = subst (λ (j : Reached). All (λ (e : EntryRecord). e.edition ≡ j.edition) ((added ++ held) ++ [])) (sym journal)
          (subst (All (λ (e : EntryRecord). e.edition ≡ r.journal.edition)) (sym (append-nil (added ++ held))) stands.own);
      machine = ap (λ (x : StateRecord). x.machine) state ∙ stands.machine ∙ ap state_of (sym (moved_over found added held));
      group = group;
      replies = replies;
      few = omega arith;
    }

-- what an append of a group says of the entries behind it
pub group_appends : (told worked : Bool) (before : Sight) (found added held : List EntryRecord) (r : Register) (old mid : Sight) → Stands told before found added held r old → (is : IsTrue told) →
    ((edition : ℕ) (list : List (List ℕ)) → AtRest r.journal.tail edition list old →
    (frames : List ℕ) × AreFrames r.group frames × (length frames ≡ frames_length r.group) × Appends worked r.journal.tail edition list r.group frames old mid) →
    AppendsMore worked r.journal.tail r.journal.edition (found ++ added) held (frames_length r.group) old mid
group_appends told worked before found added held r old mid stands is stops =
    let given = stops r.journal.edition (records_of (found ++ added)) (stands.kept.rest is) in
    record {
      frames = given.0;
      long = given.2;
      appends = subst (λ list. Appends worked r.journal.tail r.journal.edition (records_of (found ++ added)) list given.0 old mid) stands.group given.3;
    }
