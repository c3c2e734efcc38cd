-- One put of a text on a disk that stays as it is.
use Rattle.std.proofs.Common.{◌≡◌, ◌∙◌, ℕ, zero, suc, Bool, true, false, List, [], ◌∷◌, ◌++◌, length, take, refl, sym, ap, subst, append-nil, arith}
use Rattle.std.proofs.lemmas.List.{take_all}
use Rattle.dali_outside.specs.Outside.{Sight, Prints, SameDisk, Goes}
use Rattle.dali_outside.specs.Stops.{IsImage, LeavesOnly}
use Rattle.dali_outside.proofs.Moments.{leaves_start, leaves_put}
use Rattle.dali_upkeep.specs.Printing.{LeavesFront}

pub take_none : (n : ℕ) → take {A = ℕ} n [] ≡ []
take_none zero = refl
take_none (suc n) = refl

-- the front of a front
pub front_of_front : (m n : ℕ) (xs : List ℕ) → (k : ℕ) × (take m (take n xs) ≡ take k xs)
front_of_front zero n xs = (0, refl)
front_of_front (suc m) zero xs = (0, refl)
front_of_front (suc m) (suc n) [] = (0, refl)
front_of_front (suc m) (suc n) (x ∷ xs) = let later = front_of_front m n xs in (suc later.0, ap (λ ys. x ∷ ys) later.1)

-- what a put printed is a front of its piece
pub went_front : (worked : Bool) (piece : List ℕ) (old new : Sight) (prints : Prints worked piece old new) → (n : ℕ) × (prints.went ≡ take n piece)
went_front true piece old new prints = (length piece, prints.whole refl ∙ sym (take_all (length piece) piece (omega arith)))
went_front false piece old new prints = prints.begun refl

-- nothing is printed yet
pub front_start : (text : List ℕ) (s : Sight) → LeavesOnly (LeavesFront text s) s s
front_start text s = leaves_start (LeavesFront text s) s (λ image printed may. record {
  disk = may.disk;
  n = 0;
  front = may.printed ∙ ap (λ xs. s.printed ++ xs) (take_none may.n);
})

-- a put of a piece, whether it worked or not
pub put_front : (worked : Bool) (piece : List ℕ) (old new : Sight) → Prints worked piece old new → SameDisk old new → LeavesOnly (LeavesFront piece old) old new
put_front worked piece old new prints same =
    let went = went_front worked piece old new prints in
    leaves_put (LeavesFront piece old) old old (front_start piece old) new prints.went prints.past
    (λ image printed may.
    let front = front_of_front may.n went.0 piece in
    record {
      disk = may.disk;
      n = front.0;
      front = may.printed ∙ ap (λ xs. old.printed ++ xs) (ap (λ xs. take may.n xs) went.1 ∙ front.1);
    })
    (λ image printed may. record {
      disk = subst (λ bs. IsImage bs old.loose image) same.bytes (subst (λ ls. IsImage new.bytes ls image) same.loose may.disk);
      n = went.0;
      front = may.printed ∙ ap (λ xs. new.printed ++ xs) (take_none may.n) ∙ append-nil new.printed ∙ prints.printed ∙ ap (λ xs. old.printed ++ xs) went.1;
    })

-- what it printed
pub put_whole : (piece : List ℕ) (old new : Sight) → Prints true piece old new → new.printed ≡ old.printed ++ piece
put_whole piece old new prints = prints.printed ∙ ap (λ xs. old.printed ++ xs) (prints.whole refl)

pub put_part : (piece : List ℕ) (old new : Sight) → Prints false piece old new → (n : ℕ) × (new.printed ≡ old.printed ++ take n piece)
put_part piece old new prints = let begun = prints.begun refl in (begun.0, prints.printed ∙ ap (λ xs. old.printed ++ xs) begun.1)

pub goes_nowhere : (s : Sight) → Goes s s
goes_nowhere s = record { same_size = refl; disk = omega arith; print = omega arith }

pub goes_on : (a b c : Sight) → Goes a b → Goes b c → Goes a c
goes_on a b c first second = record { same_size = second.same_size ∙ first.same_size; disk = omega (arith, first.disk, second.disk); print = omega (arith, first.print, second.print) }
