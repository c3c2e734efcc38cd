-- An entry that was read is decoded exactly where it is whole.
use Rattle.std.proofs.Common.{◌≡◌, ℕ, ◌≤◌, List, [], ◌++◌, Option, Some, None, refl, sym, ◌∙◌, ap, subst}
use Rattle.std.specs.Prelude.{Result, Ok, Err, IfOk, IfSome, IsErrOf, MatchResult}
use Rattle.std.proofs.lemmas.List.{append-nil}
use Rattle.std.proofs.lemmas.Option.{none-some}
use Rattle.dali_tree.specs.declared.choice.Choice.{Choice}
use Rattle.dali_tree.specs.Fits.{Fits}
use Rattle.dali_entry.specs.EntryRecord.{EntryRecord}
use Rattle.dali_record.specs.declared.refusal.RecordNo.{RecordNo}
use Rattle.dali_record.specs.declared.refusal.RecordNo.TheVariants as errors
use Rattle.dali_record.specs.RecordText.{record_text}
use Rattle.dali_record.specs.IsRecord.{branches_of, IsChoiceWithin, IsRecord}
use Rattle.dali_record.specs.Reading.{Fails}
use Rattle.dali_record.specs.EntryReading.{entry_at}
use Rattle.dali_record.specs.Decodes.{Decodes, IsWhole}
use Rattle.dali_record.proofs.Fields.{IsBytes, some_is}
use Rattle.dali_record.proofs.EntryTakes.{entry_took}
use Rattle.dali_record.proofs.EntryAgain.{entry_again, one_entry}

choice_within : (choice : Option Choice) → IfSome choice (Fits 1024 4096) → IfSome choice (λ c. branches_of c.parts ≤ 4096) → IfSome choice IsChoiceWithin
choice_within None fits few = tt
choice_within (Some c) fits few = record { fits = fits; branches = few }

pub decode_found : (bytes : List ℕ) (e : EntryRecord) (rest : List ℕ) → IsBytes bytes → entry_at bytes ≡ Some (e, rest) → IsWhole e rest → IsRecord bytes e
decode_found bytes e rest small read whole =
    let took = entry_took bytes (e, rest) small read in
    record {
      within = record { first = whole.first; newest = whole.newest; line = took.line; choice = choice_within e.choice whole.fits took.branches };
      text = took.front.parts ∙ ap (λ (x : List ℕ). record_text e ++ x) whole.ended ∙ append-nil (record_text e);
    }

fits_within : (choice : Option Choice) → IfSome choice IsChoiceWithin → IfSome choice (Fits 1024 4096)
fits_within None within = tt
fits_within (Some c) within = within.fits

read_record : (bytes : List ℕ) (e : EntryRecord) → IsRecord bytes e → entry_at bytes ≡ Some (e, [])
read_record bytes e is = ap entry_at is.text ∙ entry_again e is.within

pub decode_other : (bytes : List ℕ) (d : EntryRecord) (rest : List ℕ) → entry_at bytes ≡ Some (d, rest) → (IsWhole d rest → ⊥) → Decodes bytes (Err errors.Form)
decode_other bytes d rest read other e is =
    let told : (e, []) ≡ (d, rest) = some_is (e, []) (d, rest) (sym (read_record bytes e is) ∙ read) in
    let whole : IsWhole e [] = record { ended = refl; first = is.within.first; newest = is.within.newest; fits = fits_within e.choice is.within.choice } in
    other (subst (λ (x : EntryRecord × List ℕ). IsWhole x.0 x.1) told whole)

pub decode_fails : (bytes : List ℕ) (no_record : RecordNo) → Fails no_record (entry_at bytes) → Decodes bytes (Err no_record)
decode_fails bytes errors.Form failed = λ e is. none-some (e, []) (sym failed ∙ read_record bytes e is)
decode_fails bytes errors.OutOfMemory failed = tt

pub decodes_found : (bytes : List ℕ) (r : Result EntryRecord RecordNo) → Decodes bytes r → IfOk r (IsRecord bytes)
decodes_found bytes (Ok e) told = told
decodes_found bytes (Err e) told = tt

pub decodes_form : (bytes : List ℕ) (r : Result EntryRecord RecordNo) → Decodes bytes r → IsErrOf r errors.Form → (e : EntryRecord) → IsRecord bytes e → ⊥
decodes_form bytes (Ok e) told is = absurd (let apart = is in cc)
decodes_form bytes (Err errors.Form) told is = told
decodes_form bytes (Err errors.OutOfMemory) told is = absurd (let apart = is in cc)

pub decodes_only : (bytes : List ℕ) (r : Result EntryRecord RecordNo) → Decodes bytes r → (e : EntryRecord) → IsRecord bytes e → MatchResult r (λ d. d ≡ e) (λ x. x ≡ errors.OutOfMemory)
decodes_only bytes (Ok d) told e is = one_entry d e told.within is.within (sym told.text ∙ is.text)
decodes_only bytes (Err errors.Form) told e is = absurd (told e is)
decodes_only bytes (Err errors.OutOfMemory) told e is = refl
