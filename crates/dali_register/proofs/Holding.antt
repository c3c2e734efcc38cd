use Rattle.std.proofs.Common.{◌≡◌, ◌∙◌, ℕ, ◌+◌, ◌<◌, ◌≤◌, Bool, true, false, List, [], ◌∷◌, ◌++◌, length, refl, sym, ap, subst, append_assoc, append-nil, length-append, arith}
use Rattle.std.specs.Prelude.{IsTrue, None}
use Rattle.std.specs.List.{All}
use Rattle.std.proofs.lemmas.List.Elements.{All-push}
use Rattle.dali_entry.specs.EntryRecord.{EntryRecord}
use Rattle.dali_journal.specs.Frames.{frames_length}
use Rattle.dali_journal.specs.JournalAt.{Reached}
use Rattle.dali_journal.specs.Limits.{most_payloads}
use Rattle.dali_line.specs.Line.{is_line}
use Rattle.dali_machine.specs.Cycles.{accepted_cycle}
use Rattle.dali_machine.specs.History.{AreNext, IsNext, HasItsChoice, after_entry, state_of}
use Rattle.dali_machine.specs.Machine.{Machine, StateRecord, opening}
use Rattle.dali_machine.specs.Outcomes.{IsReported}
use Rattle.dali_machine.specs.Step.{judged, step}
use Rattle.dali_outside.specs.Outside.{Sight}
use Rattle.dali_record.specs.IsRecord.{IsWithin}
use Rattle.dali_record.specs.RecordText.{record_text}
use Rattle.dali_register.specs.Added.{HasFinest}
use Rattle.dali_register.specs.Holding.{MayHold}
use Rattle.dali_register.specs.Making.{IsMade}
use Rattle.dali_recover.specs.Spells.{records_of, AreEntriesIn}
use Rattle.dali_register.specs.Standing.{HasKept, AreEntries, IsAtSite, Stands, SoFar}
use Rattle.dali_register.specs.TextOf.{answer_to, texts}
use Rattle.dali_register.specs.declared.making.Made.{Made}
use Rattle.dali_register.specs.declared.register.Register.{Register}
use Rattle.dali_recover.proofs.Histories.{reported_more}
use Rattle.dali_register.proofs.Adding.{since_more}
use Rattle.dali_register.proofs.Texts.{texts_append, state_append, records_append, last_edition, last_within, next_more}

-- one more entry of the journal's edition, which the state may take
pub entries_more : (edition : ℕ) (found entries : List EntryRecord) (m : Machine) (e : EntryRecord) → AreEntries edition found entries → m ≡ state_of entries → MayHold edition m e →
    AreEntries edition found (entries ++ e ∷ [])
entries_more edition found entries m e are is may = record {
  legal = next_more opening 0 entries e are.legal (record {
    line = may.within.line;
    edition = omega (arith, may.own, last_within edition 0 entries (omega arith) are.held.editions);
    choice = subst (λ x. HasItsChoice x (judged e.edition x e.line) e.choice) is may.choice;
  });
  held = record {
    within = All-push IsWithin entries e are.held.within may.within;
    editions = All-push (λ (x : EntryRecord). x.edition ≤ edition) entries e are.held.editions (omega (arith, may.own));
  };
  reported = reported_more opening entries e are.reported (subst (λ x. IsReported (step e.edition x e.line e.choice).outcome) is may.reported);
  added = since_more edition found entries e are.added may.own (subst (λ x. HasFinest x e.choice (accepted_cycle (judged e.edition x e.line))) is may.finest);
}

pub state_of_more : (entries : List EntryRecord) (m : Machine) (e : EntryRecord) → m ≡ state_of entries → after_entry m e ≡ state_of (entries ++ e ∷ [])
state_of_more entries m e is = ap (λ x. after_entry x e) is ∙ sym (state_append opening entries (e ∷ []))

-- a register stands where its state has other spare room
pub stands_same : (told : Bool) (before : Sight) (found added held : List EntryRecord) (r after : Register) (s : Sight) → Stands told before found added held r s →
    after.state.machine ≡ r.state.machine → after.journal ≡ r.journal → after.group ≡ r.group → after.replies ≡ r.replies → Stands told before found added held after s
stands_same told before found added held r after s stands machine journal group replies = record {
  at_site = record {
    size = omega (arith, ap (λ (j : Reached). j.tail) journal, ap (λ (j : Reached). j.left) journal, stands.at_site.size);
    ended = ap (λ (j : Reached). j.ended) journal ∙ stands.at_site.ended;
    fits = omega (arith, ap frames_length group, ap (λ (j : Reached). j.left) journal, stands.at_site.fits);
  };
  kept = subst (λ (j : Reached). HasKept told before found (found ++ added) j.tail j.edition s) (sym journal) stands.kept;
  entries = subst (λ (j : Reached). AreEntries j.edition found ((found ++ added) ++ held)) (sym journal) stands.entries;
  own = subst (λ (j : Reached). All (λ (e : EntryRecord). e.edition ≡ j.edition) (added ++ held)) (sym journal) stands.own;
  machine = machine ∙ stands.machine;
  group = group ∙ stands.group;
  replies = replies ∙ stands.replies;
  few = stands.few;
}

-- the frames of one more payload
pub frames_more : (list : List (List ℕ)) (payload : List ℕ) → frames_length (list ++ payload ∷ []) ≡ frames_length list + (length payload + 5)
frames_more [] payload = omega arith
frames_more (x ∷ list) payload = omega (arith, frames_more list payload)

pub records_long : (entries : List EntryRecord) → length (records_of entries) ≡ length entries
records_long [] = refl
records_long (e ∷ entries) = omega (arith, records_long entries)

-- an entry is held back
pub held_more : (told : Bool) (before : Sight) (found added held : List EntryRecord) (e : EntryRecord) (r after : Register) (s : Sight) (made : Made) → Stands told before found added held r s →
    IsMade e r.state.machine made → MayHold r.journal.edition r.state.machine e → length r.group < most_payloads → frames_length r.group + (length made.record + 5) < r.journal.left →
    after.state.machine ≡ after_entry r.state.machine e → after.journal ≡ r.journal → after.group ≡ r.group ++ made.record ∷ [] → after.replies ≡ r.replies ++ made.reply →
    Stands told before found added (held ++ e ∷ []) after s
held_more told before found added held e r after s made stands is may room fits machine journal group replies =
    let behind : ((found ++ added) ++ held) ++ e ∷ [] ≡ (found ++ added) ++ (held ++ e ∷ []) = append_assoc (found ++ added) held (e ∷ []) in
    let as_long : length held ≡ length r.group = sym (records_long held) ∙ ap length (sym stands.group) in
    record {
      at_site = record {
        size = omega (arith, ap (λ (j : Reached). j.tail) journal, ap (λ (j : Reached). j.left) journal, stands.at_site.size);
        ended = ap (λ (j : Reached). j.ended) journal ∙ stands.at_site.ended;
        fits = omega (arith, ap frames_length group, frames_more r.group made.record, ap (λ (j : Reached). j.left) journal, fits);
      };
      kept = subst (λ (j : Reached). HasKept told before found (found ++ added) j.tail j.edition s) (sym journal) stands.kept;
      entries = subst (λ (j : Reached). AreEntries j.edition found ((found ++ added) ++ (held ++ e ∷ []))) (sym journal)
          (subst (AreEntries r.journal.edition found) behind (entries_more r.journal.edition found ((found ++ added) ++ held) r.state.machine e stands.entries stands.machine may));
      own = subst (λ (j : Reached). All (λ (x : EntryRecord). x.edition ≡ j.edition) (added ++ (held ++ e ∷ []))) (sym journal)
          (subst (All (λ (x : EntryRecord). x.edition ≡ r.journal.edition)) (append_assoc added held (e ∷ []))
          (All-push (λ (x : EntryRecord). x.edition ≡ r.journal.edition) (added ++ held) e stands.own may.own));
      machine = machine ∙ state_of_more ((found ++ added) ++ held) r.state.machine e stands.machine ∙ ap state_of behind;
      group = group ∙ ap (λ xs. xs ++ made.record ∷ []) stands.group ∙ ap (λ x. records_of held ++ x ∷ []) is.record_is ∙ sym (records_append held (e ∷ []));
      replies = replies ∙ ap (λ xs. xs ++ made.reply) stands.replies ∙ ap (λ x. texts (state_of (found ++ added)) held ++ x) (is.reply_is ∙ sym (append-nil (answer_to r.state.machine e)))
          ∙ ap (λ m. texts (state_of (found ++ added)) held ++ texts m (e ∷ [])) (stands.machine ∙ state_append opening (found ++ added) held)
          ∙ sym (texts_append (state_of (found ++ added)) held (e ∷ []));
      few = omega (arith, length-append held (e ∷ []), as_long, room);
    }

pub so_far_same : (told : Bool) (before : Sight) (found added held : List EntryRecord) (r after : Register) (s : Sight) → SoFar told before found added held r s →
    after.state.machine ≡ r.state.machine → after.journal ≡ r.journal → after.group ≡ r.group → after.replies ≡ r.replies → SoFar told before found added held after s
so_far_same told before found added held r after s far machine journal group replies = record {
  stands = stands_same told before found added held r after s far.stands machine journal group replies;
  room = far.room;
  spends = far.spends;
}

pub at_site_same : (r after : Register) (s : Sight) → IsAtSite r s → after.journal ≡ r.journal → after.group ≡ r.group → IsAtSite after s
at_site_same r after s at journal group = record {
  size = omega (arith, ap (λ (j : Reached). j.tail) journal, ap (λ (j : Reached). j.left) journal, at.size);
  ended = ap (λ (j : Reached). j.ended) journal ∙ at.ended;
  fits = omega (arith, ap frames_length group, ap (λ (j : Reached). j.left) journal, at.fits);
}

pub at_site_more : (r after : Register) (record_is : List ℕ) (s : Sight) → IsAtSite r s → frames_length r.group + (length record_is + 5) < r.journal.left → after.journal ≡ r.journal →
    after.group ≡ r.group ++ record_is ∷ [] → IsAtSite after s
at_site_more r after record_is s at fits journal group = record {
  size = omega (arith, ap (λ (j : Reached). j.tail) journal, ap (λ (j : Reached). j.left) journal, at.size);
  ended = ap (λ (j : Reached). j.ended) journal ∙ at.ended;
  fits = omega (arith, ap frames_length group, frames_more r.group record_is, ap (λ (j : Reached). j.left) journal, fits);
}

-- a line that is no accepted CYCLE, as an entry
pub plain_may : (edition own : ℕ) (m : Machine) (line : List ℕ) → own ≡ edition → 1 ≤ own → own ≤ 4 → IsTrue (is_line line) → HasItsChoice m (judged edition m line) None →
    IsReported (step own m line None).outcome → MayHold edition m (record { edition = own; line = line; choice = None })
plain_may edition own m line same first newest line_is plain reported = record {
  own = same;
  within = record { first = first; newest = newest; line = line_is; choice = tt };
  choice = subst (λ x. HasItsChoice m (judged x m line) None) (sym same) plain;
  reported = reported;
  finest = tt;
}

-- as many entries are held back as the group has payloads
pub held_long : (told : Bool) (before : Sight) (found added held : List EntryRecord) (r : Register) (s : Sight) → Stands told before found added held r s → length r.group ≡ length held
held_long told before found added held r s stands = ap length stands.group ∙ records_long held
