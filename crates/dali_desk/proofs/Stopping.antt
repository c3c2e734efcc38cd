use Rattle.std.proofs.Common.{◌≡◌, ◌∙◌, ℕ, zero, suc, Bool, true, false, List, [], ◌∷◌, ◌++◌, take, drop, refl, sym, ap, subst, append_assoc, append-nil}
use Rattle.std.proofs.lemmas.List.{take-append-drop}
use Rattle.dali_outside.specs.Outside.{Sight, Prints, SameDisk, now, printing}
use Rattle.dali_outside.specs.Stops.{IsImage, MayLeave, Keeps, LeavesOnly}
use Rattle.dali_outside.proofs.Moments.{leaves_start, leaves_put, leaves_on, leaves_weaker}
use Rattle.dali_register.specs.Front.{IsFront}
use Rattle.dali_desk.specs.Texts.{LeavesText}

pub take_none : (n : ℕ) → take {A = ℕ} n [] ≡ []
take_none zero = refl
take_none (suc n) = refl

-- nothing is printed of a text yet
start_keeps : (s : Sight) (text : List ℕ) → Keeps (LeavesText s text) (now s)
start_keeps s text image left may = record {
  disk = may.disk;
  shown = [];
  printed = may.printed ∙ ap (λ xs. s.printed ++ xs) (take_none may.n);
  front = record { rest = text; parts = refl };
}

pub stops_start : (s : Sight) (text : List ℕ) → LeavesOnly (LeavesText s text) s s
stops_start s text = leaves_start (LeavesText s text) s (start_keeps s text)

-- what a put printed is a front of its piece
went_front : (worked : Bool) (piece : List ℕ) (old new : Sight) (prints : Prints worked piece old new) → IsFront prints.went piece
went_front true piece old new prints = record { rest = []; parts = sym (prints.whole refl) ∙ sym (append-nil prints.went) }
went_front false piece old new prints =
    let begun = prints.begun refl in
    record {
      rest = drop begun.0 piece;
      parts = sym (take-append-drop begun.0 piece) ∙ ap (λ xs. xs ++ drop begun.0 piece) (sym begun.1);
    }

-- a put of a piece, whether it worked or not
pub put_stops : (worked : Bool) (piece : List ℕ) (old new : Sight) → Prints worked piece old new → SameDisk old new → LeavesOnly (LeavesText old piece) old new
put_stops worked piece old new prints same =
    let front : IsFront prints.went piece = went_front worked piece old new prints in
    leaves_put (LeavesText old piece) old old (stops_start old piece) new prints.went prints.past
    (λ image left may. record {
      disk = may.disk;
      shown = take may.n prints.went;
      printed = may.printed;
      front = record {
        rest = drop may.n prints.went ++ front.rest;
        parts = front.parts ∙ ap (λ xs. xs ++ front.rest) (sym (take-append-drop may.n prints.went))
            ∙ append_assoc (take may.n prints.went) (drop may.n prints.went) front.rest;
      };
    })
    (λ image left may. record {
      disk = subst (λ bs. IsImage bs old.loose image) same.bytes (subst (λ ls. IsImage new.bytes ls image) same.loose may.disk);
      shown = prints.went;
      printed = may.printed ∙ ap (λ xs. new.printed ++ xs) (take_none may.n) ∙ append-nil new.printed ∙ prints.printed;
      front = record { rest = front.rest; parts = front.parts };
    })

-- a front of a text, and of what comes behind it
pub stops_more : (text piece : List ℕ) (old mid new : Sight) → LeavesOnly (LeavesText old text) old mid → LeavesOnly (LeavesText mid piece) mid new → SameDisk old mid →
    mid.printed ≡ old.printed ++ text → LeavesOnly (LeavesText old (text ++ piece)) old new
stops_more text piece old mid new first second same printed =
    leaves_on (LeavesText old (text ++ piece)) old mid
    (leaves_weaker (LeavesText old text) (LeavesText old (text ++ piece)) old mid (λ image left may. record {
      disk = may.disk;
      shown = may.shown;
      printed = may.printed;
      front = record {
        rest = may.front.rest ++ piece;
        parts = ap (λ xs. xs ++ piece) may.front.parts ∙ append_assoc may.shown may.front.rest piece;
      };
    }) first)
    new
    (leaves_weaker (LeavesText mid piece) (LeavesText old (text ++ piece)) mid new (λ image left may. record {
      disk = subst (λ bs. IsImage bs old.loose image) same.bytes (subst (λ ls. IsImage mid.bytes ls image) same.loose may.disk);
      shown = text ++ may.shown;
      printed = may.printed ∙ ap (λ xs. xs ++ may.shown) printed ∙ append_assoc old.printed text may.shown;
      front = record {
        rest = may.front.rest;
        parts = ap (λ xs. text ++ xs) may.front.parts ∙ sym (append_assoc text may.shown may.front.rest);
      };
    }) second)
