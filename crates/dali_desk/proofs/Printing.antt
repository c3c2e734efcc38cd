use Rattle.std.proofs.Common.{◌≡◌, ◌∙◌, ℕ, ◌≤◌, Bool, true, false, List, [], ◌∷◌, ◌++◌, take, drop, refl, sym, ap, subst, arith, append_assoc, append-nil}
use Rattle.std.proofs.lemmas.List.{take-append-drop}
use Rattle.dali_outside.specs.Outside.{Sight, Prints, Goes}
use Rattle.dali_register.specs.Front.{IsFront, PrintsFront}
use Rattle.dali_desk.specs.Texts.{Quiet}

-- of a text this was printed since old, and this is still to come
pub record SoFar (text later : List ℕ) (old new : Sight) : Type 0 where
  pub went : List ℕ
  pub printed : new.printed ≡ old.printed ++ went
  pub whole : text ≡ went ++ later

pub nothing_yet : (text : List ℕ) (s : Sight) → SoFar text text s s
nothing_yet text s = record { went = []; printed = sym (append-nil _); whole = refl }

-- one more piece
pub one_more_piece : (text piece later : List ℕ) (old mid new : Sight) → SoFar text (piece ++ later) old mid → new.printed ≡ mid.printed ++ piece → SoFar text later old new
one_more_piece text piece later old mid new far printed = record {
  went = far.went ++ piece;
  printed = printed ∙ ap (λ xs. xs ++ piece) far.printed ∙ append_assoc old.printed far.went piece;
  whole = far.whole ∙ sym (append_assoc far.went piece later);
}

-- a front of the next piece, and no more
pub a_front_more : (text piece later : List ℕ) (old mid new : Sight) → SoFar text (piece ++ later) old mid → PrintsFront piece mid new → PrintsFront text old new
a_front_more text piece later old mid new far more = record {
  went = far.went ++ more.went;
  printed = more.printed ∙ ap (λ xs. xs ++ more.went) far.printed ∙ append_assoc old.printed far.went more.went;
  front = record {
    rest = more.front.rest ++ later;
    parts = far.whole ∙ ap (λ xs. far.went ++ (xs ++ later)) more.front.parts
        ∙ ap (λ xs. far.went ++ xs) (append_assoc more.went more.front.rest later)
        ∙ sym (append_assoc far.went more.went (more.front.rest ++ later));
  };
}

-- the whole of a text, and a front of what comes behind it
pub front_behind : (text piece : List ℕ) (old mid new : Sight) → mid.printed ≡ old.printed ++ text → PrintsFront piece mid new → PrintsFront (text ++ piece) old new
front_behind text piece old mid new printed more = record {
  went = text ++ more.went;
  printed = more.printed ∙ ap (λ xs. xs ++ more.went) printed ∙ append_assoc old.printed text more.went;
  front = record {
    rest = more.front.rest;
    parts = ap (λ xs. text ++ xs) more.front.parts ∙ sym (append_assoc text more.went more.front.rest);
  };
}

pub all_printed : (text : List ℕ) (old new : Sight) → SoFar text [] old new → new.printed ≡ old.printed ++ text
all_printed text old new far = far.printed ∙ ap (λ xs. old.printed ++ xs) (sym (far.whole ∙ append-nil _))

pub is_front : (text later : List ℕ) (old new : Sight) → SoFar text later old new → PrintsFront text old new
is_front text later old new far = record { went = far.went; printed = far.printed; front = record { rest = later; parts = far.whole } }

-- nothing is a front of each text
pub none_printed : (text : List ℕ) (old new : Sight) → new.printed ≡ old.printed → PrintsFront text old new
none_printed text old new same = record { went = []; printed = same ∙ sym (append-nil _); front = record { rest = text; parts = refl } }

-- a put prints a front of its piece
pub put_front : (worked : Bool) (piece : List ℕ) (old new : Sight) → Prints worked piece old new → PrintsFront piece old new
put_front true piece old new prints = record {
  went = prints.went;
  printed = prints.printed;
  front = record { rest = []; parts = sym (prints.whole refl) ∙ sym (append-nil _) };
}
put_front false piece old new prints = let begun = prints.begun refl in record {
  went = prints.went;
  printed = prints.printed;
  front = record { rest = drop begun.0 piece; parts = sym (take-append-drop begun.0 piece) ∙ ap (λ xs. xs ++ drop begun.0 piece) (sym begun.1) };
}

pub goes_on : (a b c : Sight) → Goes a b → Goes b c → Goes a c
goes_on a b c first second = record { same_size = second.same_size ∙ first.same_size; disk = omega (arith, first.disk, second.disk); print = omega (arith, first.print, second.print) }

pub goes_nowhere : (a : Sight) → Goes a a
goes_nowhere a = record { same_size = refl; disk = omega arith; print = omega arith }

-- before the first call nothing was written
pub quiet_start : (told : Bool) (s : Sight) → Quiet told s s
quiet_start told s = record { goes = goes_nowhere s; disk = λ t. record { bytes = refl; loose = refl }; syncs = omega arith }
