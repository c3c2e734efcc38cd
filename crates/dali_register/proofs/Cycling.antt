use Rattle.std.proofs.Common.{◌≡◌, ◌∙◌, ℕ, ◌+◌, ◌-◌, ◌<◌, ◌≤◌, Bool, true, false, List, [], ◌∷◌, ◌++◌, length, refl, sym, ap, subst, append_assoc, append-nil, length-append, arith}
use Rattle.std.specs.Prelude.{IsTrue}
use Rattle.std.specs.Int.{w32, to_be_bytes}
use Rattle.std.specs.List.{All}
use Rattle.std.proofs.lemmas.List.Elements.{All-push}
use Rattle.dali_entry.specs.EntryRecord.{EntryRecord}
use Rattle.dali_journal.specs.Appends.{AtRest, Appends}
use Rattle.dali_journal.specs.Frames.{frames_length, frame_of, payload_of}
use Rattle.dali_journal.specs.JournalAt.{Reached}
use Rattle.dali_machine.specs.History.{after_entry, state_of}
use Rattle.dali_machine.specs.Machine.{Machine, StateRecord, opening}
use Rattle.dali_outside.specs.Outside.{Sight, Prints, SameDisk, TellsAll, Goes, Rose}
use Rattle.dali_outside.specs.Stops.{LeavesOnly}
use Rattle.dali_record.specs.RecordText.{record_text}
use Rattle.dali_register.specs.Cycling.{IsMadeOf}
use Rattle.dali_register.specs.Front.{IsFront, PrintsFront}
use Rattle.dali_register.specs.Leaving.{LeavesDay}
use Rattle.dali_recover.specs.Spells.{records_of}
use Rattle.dali_register.specs.Standing.{HasKept, AreEntries, IsAtSite, Stands, Spends, SoFar}
use Rattle.dali_register.specs.Taking.{GivesUp, PrintsInPart, Breaks, Mumbles, FillsUp, TakesEntry}
use Rattle.dali_register.specs.TextOf.{answer_to, texts, text_of}
use Rattle.dali_register.specs.declared.making.Made.{Made}
use Rattle.dali_register.specs.declared.register.Register.{Register}
use Rattle.dali_register.proofs.Holding.{entries_more, state_of_more}
use Rattle.dali_register.proofs.Keeping.{AppendsMore, appended_stops, put_stops_more, put_rest, put_front, has_more}
use Rattle.dali_register.proofs.Putting.{goes_on}
use Rattle.dali_register.proofs.Spending.{spends_cycle, spends_less}

-- a frame has five bytes beside its payload
pub frame_length : (payload : List ℕ) → length (frame_of payload) ≡ length payload + 5
frame_length payload =
    let closed : length (payload ++ 0 ∷ []) ≡ length payload + 1 = length-append payload (0 ∷ []) in
    let four : length (to_be_bytes w32 (length payload)) ≡ 4 = refl in
    let both : length (frame_of payload) ≡ length (to_be_bytes w32 (length payload)) + length (payload ++ 0 ∷ []) = length-append (to_be_bytes w32 (length payload)) (payload ++ 0 ∷ []) in
    omega (arith, closed, four, both)

-- What was made of a cycle is appended to what is firm, and its reply printed.
module _ (told : Bool) (before : Sight) (found added : List EntryRecord) (line : List ℕ) (r : Register) (made : Made) (old mid : Sight) (stands : Stands told before found added [] r old)
    (spends : Spends 1 before added old) (of : IsMadeOf r.journal.edition r.state.machine line made) where
  abbrev kept : List EntryRecord
  kept = found ++ added

  machine_is : r.state.machine ≡ state_of kept
  machine_is = stands.machine ∙ ap state_of (append-nil kept)

  one_more : AreEntries r.journal.edition found (kept ++ of.entry ∷ [])
  one_more = entries_more r.journal.edition found kept r.state.machine of.entry (subst (AreEntries r.journal.edition found) (append-nil kept) stands.entries) machine_is of.may

  begins : IsFront found kept
  begins = record { rest = added; parts = refl }

  behind : kept ++ of.entry ∷ [] ≡ found ++ (added ++ of.entry ∷ [])
  behind = append_assoc found added (of.entry ∷ [])

  replies : made.reply ≡ texts (state_of kept) (of.entry ∷ [])
  replies = of.is_made.reply_is ∙ ap (λ m. answer_to m of.entry) machine_is ∙ sym (append-nil (answer_to (state_of kept) of.entry))

  -- the frame is that of the entry's record
  pub cycle_appends : (worked : Bool) (frame : List ℕ) → payload_of frame ≡ made.record → IsTrue told →
      ((edition : ℕ) (list : List (List ℕ)) → AtRest r.journal.tail edition list old → Appends worked r.journal.tail edition list (payload_of frame ∷ []) frame old mid) →
      AppendsMore worked r.journal.tail r.journal.edition kept (of.entry ∷ []) (length frame) old mid
  cycle_appends worked frame payload is stops = record {
    frames = frame;
    long = refl;
    appends = subst (λ x. Appends worked r.journal.tail r.journal.edition (records_of kept) (x ∷ []) frame old mid) (payload ∙ of.is_made.record_is)
        (stops r.journal.edition (records_of kept) (stands.kept.rest is));
  }

  -- it doesn't fit
  pub cycle_full : (need left n : ℕ) → n ≡ length made.record + 5 → need ≡ n + 1 → left ≡ r.journal.left → r.journal.left < n + 1 → FillsUp told before found added line need left r old
  cycle_full need left n long needs lefts short = record {
    entry = of.entry;
    line_is = of.line_is;
    edition_is = of.may.own;
    next = one_more.legal;
    need_is = omega (arith, needs, long, ap length of.is_made.record_is);
    left_is = lefts;
    short = omega (arith, needs, lefts, short);
    stands = stands;
    spends = spends;
  }

  -- the append failed
  pub cycle_broke : (len : ℕ) → (IsTrue told → AppendsMore false r.journal.tail r.journal.edition kept (of.entry ∷ []) len old mid) → Goes old mid → Rose old.disk_faults mid.disk_faults →
      Breaks told before found added line r.journal.edition old mid
  cycle_broke len appends goes rose = record {
    more = of.entry ∷ [];
    lines = record { rest = []; parts = ap (λ x. x ∷ []) (sym of.line_is) };
    gives_up = record {
      entries = one_more;
      stops = λ is. appended_stops told before found kept (of.entry ∷ []) r.journal.tail r.journal.edition len old mid begins one_more.held stands.kept false is (appends is);
      goes = goes_on before old mid stands.kept.goes goes;
      rose = rose;
    };
  }

  module _ (len : ℕ) (new : Sight) (appends : IsTrue told → AppendsMore true r.journal.tail r.journal.edition kept (of.entry ∷ []) len old mid) (silent : IsTrue told → mid.printed ≡ old.printed)
      (tells : IsTrue told → TellsAll mid) (same : IsTrue told → SameDisk mid new) (first : Goes old mid) (second : Goes mid new) (syncs : new.syncs ≤ old.syncs + 2) where
    -- the put failed
    pub cycle_mumbled : (IsTrue told → Prints false made.reply mid new) → Rose mid.print_faults new.print_faults → Mumbles told before found added line (r.journal.tail + len) r.journal.edition old new
    cycle_mumbled prints rose = record {
      more = of.entry ∷ [];
      lines = record { rest = []; parts = ap (λ x. x ∷ []) (sym of.line_is) };
      in_part = record {
        entries = subst (AreEntries r.journal.edition found) behind one_more;
        rest = λ is. subst (λ xs. AtRest (r.journal.tail + len) r.journal.edition (records_of xs) new) behind
            (put_rest told before found kept (of.entry ∷ []) r.journal.tail r.journal.edition len old mid begins one_more.held stands.kept made.reply new replies appends silent tells same is);
        text = λ is. subst (λ xs. PrintsFront (text_of xs) before new) behind
            (put_front told before found kept (of.entry ∷ []) r.journal.tail r.journal.edition len old mid begins one_more.held stands.kept made.reply new replies appends silent tells same false is (prints is));
        stops = λ is. subst (λ xs. LeavesOnly (LeavesDay before found xs) before new) behind
            (put_stops_more told before found kept (of.entry ∷ []) r.journal.tail r.journal.edition len old mid begins one_more.held stands.kept made.reply new replies appends silent tells same false is (prints is));
        goes = goes_on before mid new (goes_on before old mid stands.kept.goes first) second;
        rose = omega (arith, rose, first.print);
      };
      spends = spends_less before (added ++ of.entry ∷ []) new (spends_cycle before added of.entry old new of.cycle spends syncs);
    }

    -- all worked
    pub cycle_taken : (after : Register) → (IsTrue told → Prints true made.reply mid new) → len < r.journal.left → after.state.machine ≡ after_entry r.state.machine of.entry →
        after.journal ≡ record r.journal { tail = r.journal.tail + len; left = r.journal.left - len } → after.group ≡ r.group → after.replies ≡ r.replies →
        TakesEntry told before found added line after new
    cycle_taken after prints fits machine journal group repeat = record {
      entry = of.entry;
      line_is = of.line_is;
      edition_is = of.may.own ∙ sym (ap (λ (j : Reached). j.edition) journal);
      added = added ++ of.entry ∷ [];
      held = [];
      whole = append-nil (added ++ of.entry ∷ []);
      so_far = record {
        stands = record {
          at_site = record {
            size = omega (arith, ap (λ (j : Reached). j.tail) journal, ap (λ (j : Reached). j.left) journal, stands.at_site.size, fits, first.same_size, second.same_size);
            ended = ap (λ (j : Reached). j.ended) journal ∙ stands.at_site.ended;
            fits = omega (arith, ap frames_length (group ∙ stands.group), ap (λ (j : Reached). j.left) journal, fits);
          };
          kept = subst (λ (j : Reached). HasKept told before found (found ++ (added ++ of.entry ∷ [])) j.tail j.edition new) (sym journal)
              (subst (λ xs. HasKept told before found xs (r.journal.tail + len) r.journal.edition new) behind
              (has_more told before found kept (of.entry ∷ []) r.journal.tail r.journal.edition len old mid begins one_more.held stands.kept made.reply new replies appends silent tells same prints first second));
          entries = subst (λ (j : Reached). AreEntries j.edition found ((found ++ (added ++ of.entry ∷ [])) ++ [])) (sym journal)
              (subst (AreEntries r.journal.edition found) (behind ∙ sym (append-nil (found ++ (added ++ of.entry ∷ [])))) one_more);
          own = subst (λ (j : Reached). All (λ (e : EntryRecord). e.edition ≡ j.edition) ((added ++ of.entry ∷ []) ++ [])) (sym journal)
              (subst (All (λ (e : EntryRecord). e.edition ≡ r.journal.edition)) (sym (append-nil (added ++ of.entry ∷ [])))
              (All-push (λ (e : EntryRecord). e.edition ≡ r.journal.edition) added of.entry (subst (All (λ (e : EntryRecord). e.edition ≡ r.journal.edition)) (append-nil added) stands.own) of.may.own));
          machine = machine ∙ state_of_more kept r.state.machine of.entry machine_is ∙ ap state_of (behind ∙ sym (append-nil (found ++ (added ++ of.entry ∷ []))));
          group = group ∙ stands.group;
          replies = repeat ∙ stands.replies;
          few = omega arith;
        };
        room = omega arith;
        spends = spends_cycle before added of.entry old new of.cycle spends syncs;
      };
    }
