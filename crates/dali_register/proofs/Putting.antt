use Rattle.std.proofs.Common.{◌≡◌, ◌∙◌, ◌⊎◌, inl, inr, ℕ, zero, suc, Bool, true, false, List, [], ◌∷◌, ◌++◌, length, take, drop, replicate, refl, sym, ap, subst, append_assoc, append-nil, arith, ◌≤◌}
use Rattle.std.proofs.lemmas.List.{take-append-drop}
use Rattle.dali_entry.specs.EntryRecord.{EntryRecord}
use Rattle.dali_journal.specs.Appends.{AtRest}
use Rattle.dali_journal.specs.Holds.{HoldsAt}
use Rattle.dali_outside.specs.Outside.{Sight, Prints, SameDisk, TellsAll, Goes, now, printing}
use Rattle.dali_outside.specs.Stops.{IsImage, MayLeave, Keeps, LeavesOnly}
use Rattle.dali_outside.proofs.Images.{only_image}
use Rattle.dali_outside.proofs.Moments.{leaves_start, leaves_put, leaves_weaker}
use Rattle.dali_register.specs.Front.{IsFront, PrintsFront}
use Rattle.dali_register.specs.Leaving.{LeavesDay}
use Rattle.dali_recover.specs.Spells.{records_of, AreEntriesIn}
use Rattle.dali_register.specs.TextOf.{text_of}
use Rattle.dali_register.proofs.Fronts.{whole_front}

-- what a stop within a put leaves: the disk of before it, and a front of the piece behind what was printed before
pub record LeavesPut (old : Sight) (piece image text : List ℕ) : Type 0 where
  pub disk : IsImage old.bytes old.loose image
  pub shown : List ℕ
  pub printed : text ≡ old.printed ++ shown
  pub front : IsFront shown piece

take_none : (n : ℕ) → take {A = ℕ} n [] ≡ []
take_none zero = refl
take_none (suc n) = refl

put_start : (s : Sight) (piece : List ℕ) → Keeps (LeavesPut s piece) (now s)
put_start s piece image text may = record {
  disk = may.disk;
  shown = [];
  printed = may.printed ∙ ap (λ xs. s.printed ++ xs) (take_none may.n);
  front = record { rest = piece; parts = refl };
}

-- what a put printed is a front of its piece
pub went_front : (worked : Bool) (piece : List ℕ) (old new : Sight) (prints : Prints worked piece old new) → IsFront prints.went piece
went_front true piece old new prints = record { rest = []; parts = sym (prints.whole refl) ∙ sym (append-nil prints.went) }
went_front false piece old new prints =
    let begun = prints.begun refl in
    record {
      rest = drop begun.0 piece;
      parts = sym (take-append-drop begun.0 piece) ∙ ap (λ xs. xs ++ drop begun.0 piece) (sym begun.1);
    }

-- a put of a piece, whether it worked or not
pub put_stops : (worked : Bool) (piece : List ℕ) (old new : Sight) → Prints worked piece old new → SameDisk old new → LeavesOnly (LeavesPut old piece) old new
put_stops worked piece old new prints same =
    let front : IsFront prints.went piece = went_front worked piece old new prints in
    leaves_put (LeavesPut old piece) old old (leaves_start (LeavesPut old piece) old (put_start old piece)) new prints.went prints.past
    (λ image text may. record {
      disk = may.disk;
      shown = take may.n prints.went;
      printed = may.printed;
      front = record {
        rest = drop may.n prints.went ++ front.rest;
        parts = front.parts ∙ ap (λ xs. xs ++ front.rest) (sym (take-append-drop may.n prints.went))
            ∙ append_assoc (take may.n prints.went) (drop may.n prints.went) front.rest;
      };
    })
    (λ image text may. record {
      disk = subst (λ bs. IsImage bs old.loose image) same.bytes (subst (λ ls. IsImage new.bytes ls image) same.loose may.disk);
      shown = prints.went;
      printed = may.printed ∙ ap (λ xs. new.printed ++ xs) (take_none may.n) ∙ append-nil new.printed ∙ prints.printed;
      front = record { rest = front.rest; parts = front.parts };
    })

-- a put on a device at rest with all entries, whose piece stands in their text right behind what was printed since the
-- start
pub put_left : (before : Sight) (found all : List EntryRecord) (tail edition : ℕ) (shown piece rest : List ℕ) (worked : Bool) (old new : Sight) → TellsAll old → AtRest tail edition (records_of all) old →
    AreEntriesIn edition all → IsFront found all → old.printed ≡ before.printed ++ shown → text_of all ≡ shown ++ (piece ++ rest) →
    Prints worked piece old new → SameDisk old new → LeavesOnly (LeavesDay before found all) old new
put_left before found all tail edition shown piece rest worked old new tells at entries begins printed text prints same =
    leaves_weaker (LeavesPut old piece) (LeavesDay before found all) old new
    (λ image left may.
    let same_bytes : image ≡ old.bytes = only_image old.bytes (length old.loose) image (tells.loose ∙ sym tells.bytes) (subst (λ ls. IsImage old.bytes ls image) at.firm may.disk) in
    inr (record {
      history = all;
      begins = begins;
      within = whole_front all;
      spells = record { edition = edition; holds = record { tail = tail; at = subst (HoldsAt tail edition (records_of all)) (sym same_bytes) at.holds }; entries = entries };
      shown = shown ++ may.shown;
      printed = may.printed ∙ ap (λ xs. xs ++ may.shown) printed ∙ append_assoc before.printed shown may.shown;
      front = record {
        rest = may.front.rest ++ rest;
        parts = text ∙ ap (λ xs. shown ++ (xs ++ rest)) may.front.parts ∙ ap (λ xs. shown ++ xs) (append_assoc may.shown may.front.rest rest)
            ∙ sym (append_assoc shown may.shown (may.front.rest ++ rest));
      };
    }))
    (put_stops worked piece old new prints same)

-- the whole of a text, and a front of what comes behind it
pub front_behind : (text : List ℕ) (piece : List ℕ) (worked : Bool) (old mid new : Sight) → mid.printed ≡ old.printed ++ text → Prints worked piece mid new → PrintsFront (text ++ piece) old new
front_behind text piece worked old mid new printed prints =
    let front : IsFront prints.went piece = went_front worked piece mid new prints in
    record {
      went = text ++ prints.went;
      printed = prints.printed ∙ ap (λ xs. xs ++ prints.went) printed ∙ append_assoc old.printed text prints.went;
      front = record {
        rest = front.rest;
        parts = ap (λ xs. text ++ xs) front.parts ∙ sym (append_assoc text prints.went front.rest);
      };
    }

pub goes_on : (a b c : Sight) → Goes a b → Goes b c → Goes a c
goes_on a b c first second = record { same_size = second.same_size ∙ first.same_size; disk = omega (arith, first.disk, second.disk); print = omega (arith, first.print, second.print) }
