use Rattle.std.proofs.Common.{◌≡◌, ◌∙◌, ℕ, Bool, true, false, List, [], ◌∷◌, ◌++◌, refl, sym, ap, subst, append_assoc, append-nil}
use Rattle.std.specs.Prelude.{IsTrue}
use Rattle.dali_entry.specs.EntryRecord.{EntryRecord}
use Rattle.dali_machine.specs.History.{after_entry, state_of}
use Rattle.dali_machine.specs.Machine.{Machine, opening}
use Rattle.dali_outside.specs.Outside.{Sight, Prints, SameDisk, TellsAll, Goes, Rose}
use Rattle.dali_outside.specs.Stops.{LeavesOnly}
use Rattle.dali_outside.proofs.Moments.{leaves_on}
use Rattle.dali_register.specs.Front.{IsFront, PrintsFront}
use Rattle.dali_register.specs.Leaving.{LeavesDay}
use Rattle.dali_register.specs.Repeating.{Repeats, RepeatsMore, RepeatsInPart}
use Rattle.dali_recover.specs.Spells.{records_of, AreEntriesIn}
use Rattle.dali_register.specs.TextOf.{answer_to, texts, text_of}
use Rattle.dali_register.proofs.Fronts.{whole_front}
use Rattle.dali_register.proofs.Keeping.{rests}
use Rattle.dali_register.proofs.Putting.{put_left, front_behind, goes_on}
use Rattle.dali_register.proofs.Texts.{texts_append, state_append}

-- The reply to the next of the found entries is put.
module _ (told : Bool) (before : Sight) (found done todo : List EntryRecord) (e : EntryRecord) (tail edition : ℕ) (machine : Machine) (old new : Sight) (parts : found ≡ done ++ e ∷ todo)
    (state : machine ≡ state_of done) (entries : AreEntriesIn edition found) (repeats : Repeats told before found done tail edition old) (piece : List ℕ) (is : piece ≡ answer_to machine e)
    (tells : IsTrue told → TellsAll old) (same : IsTrue told → SameDisk old new) (goes : Goes old new) where
  abbrev later : List ℕ
  later = texts (after_entry (state_of done) e) todo

  text_is : text_of found ≡ text_of done ++ (piece ++ later)
  text_is = ap text_of parts ∙ texts_append opening done (e ∷ todo) ∙ ap (λ x. text_of done ++ (x ++ later)) (ap (λ m. answer_to m e) (sym state) ∙ sym is)

  text_more : text_of (done ++ e ∷ []) ≡ text_of done ++ piece
  text_more = texts_append opening done (e ∷ []) ∙ ap (λ xs. text_of done ++ xs) (append-nil (answer_to (state_of done) e) ∙ ap (λ m. answer_to m e) (sym state) ∙ sym is)

  stops_on : (worked : Bool) → IsTrue told → Prints worked piece old new → LeavesOnly (LeavesDay before found found) before new
  stops_on worked t prints = leaves_on (LeavesDay before found found) before old (repeats.stops t) new
      (put_left before found found tail edition (text_of done) piece later worked old new (tells t) (repeats.rest t) entries (whole_front found) (repeats.text t) text_is prints (same t))

  pub repeated_one : (after : Machine) → (IsTrue told → Prints true piece old new) → after ≡ after_entry machine e → RepeatsMore told before found (done ++ e ∷ []) tail edition after new
  repeated_one after prints next = record {
    repeats = record {
      rest = λ t. rests tail edition (records_of found) old new (same t) (repeats.rest t);
      text = λ t. (prints t).printed ∙ ap (λ xs. old.printed ++ xs) ((prints t).whole refl) ∙ ap (λ xs. xs ++ piece) (repeats.text t) ∙ append_assoc before.printed (text_of done) piece
          ∙ ap (λ xs. before.printed ++ xs) (sym text_more);
      stops = λ t. stops_on true t (prints t);
      goes = goes_on before old new repeats.goes goes;
    };
    machine_is = next ∙ ap (λ m. after_entry m e) state ∙ sym (state_append opening done (e ∷ []));
  }

  pub repeated_in_part : (IsTrue told → Prints false piece old new) → Rose old.print_faults new.print_faults → RepeatsInPart told before found tail edition old new
  repeated_in_part prints rose = record {
    rest = λ t. rests tail edition (records_of found) old new (same t) (repeats.rest t);
    text = λ t. let shown = front_behind (text_of done) piece false before old new (repeats.text t) (prints t) in record {
      went = shown.went;
      printed = shown.printed;
      front = record { rest = shown.front.rest ++ later; parts = text_is ∙ sym (append_assoc (text_of done) piece later) ∙ ap (λ xs. xs ++ later) shown.front.parts ∙ append_assoc shown.went shown.front.rest later };
    };
    stops = λ t. stops_on false t (prints t);
    goes = goes_on before old new repeats.goes goes;
    rose = rose;
  }
