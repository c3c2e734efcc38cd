use Rattle.std.proofs.Common.{◌≡◌, ◌∙◌, ℕ, zero, suc, ◌+◌, ◌≤◌, Bool, true, false, List, [], ◌∷◌, ◌++◌, length, take, refl, sym, ap, subst, arith, append-nil, Err}
use Rattle.std.proofs.lemmas.List.{take_all}
use Rattle.dali_outside.specs.Outside.{Sight, Prints, SameDisk, now}
use Rattle.dali_outside.specs.Stops.{IsImage, MayLeave, Keeps, LeavesOnly}
use Rattle.dali_outside.proofs.Moments.{leaves_start, leaves_put}
use Rattle.dali_put.specs.PutRun.{PrintsSome, LeavesSome, PutRun}
use Rattle.dali_put.specs.declared.refusal.PutNo.TheVariants.{PrintFault, OutOfMemory}

take_none : (n : ℕ) → take {A = ℕ} n [] ≡ []
take_none zero = refl
take_none (suc n) = refl

-- nothing is printed of a text yet
start_keeps : (s : Sight) (text : List ℕ) → Keeps (LeavesSome s text) (now s)
start_keeps s text image left may = record {
  disk = may.disk;
  printed = record { count = 0; printed = may.printed ∙ ap (λ xs. s.printed ++ xs) (take_none may.n) };
}

pub stops_start : (s : Sight) (text : List ℕ) → LeavesOnly (LeavesSome s text) s s
stops_start s text = leaves_start (LeavesSome s text) s (start_keeps s text)

-- what a put printed are first bytes of its piece
pub put_some : (worked : Bool) (piece : List ℕ) (old new : Sight) → Prints worked piece old new → PrintsSome piece old.printed new.printed
put_some true piece old new prints = record {
  count = length piece;
  printed = prints.printed ∙ ap (λ xs. old.printed ++ xs) (prints.whole refl ∙ sym (take_all (length piece) piece (omega arith)));
}
put_some false piece old new prints =
    let begun = prints.begun refl in
    record { count = begun.0; printed = prints.printed ∙ ap (λ xs. old.printed ++ xs) begun.1 }

some_of_some : (n k : ℕ) (xs : List ℕ) → (j : ℕ) × (take n (take k xs) ≡ take j xs)
some_of_some zero k xs = (0, refl)
some_of_some (suc n) zero xs = (0, refl)
some_of_some (suc n) (suc k) [] = (0, refl)
some_of_some (suc n) (suc k) (x ∷ xs) = let rest = some_of_some n k xs in (suc rest.0, ap (λ ys. x ∷ ys) rest.1)

-- some first bytes of what was printed are some of the text
went_some : (worked : Bool) (piece : List ℕ) (old new : Sight) (prints : Prints worked piece old new) (n : ℕ) → (k : ℕ) × (take n prints.went ≡ take k piece)
went_some true piece old new prints n = (n, ap (λ xs. take n xs) (prints.whole refl))
went_some false piece old new prints n =
    let begun = prints.begun refl in
    let some = some_of_some n begun.0 piece in
    (some.0, ap (λ xs. take n xs) begun.1 ∙ some.1)

-- a put of a piece, whether it worked or not
pub put_stops : (worked : Bool) (piece : List ℕ) (old new : Sight) → Prints worked piece old new → SameDisk old new → LeavesOnly (LeavesSome old piece) old new
put_stops worked piece old new prints same =
    leaves_put (LeavesSome old piece) old old (stops_start old piece) new prints.went prints.past
    (λ image left may.
    let some = went_some worked piece old new prints may.n in
    record { disk = may.disk; printed = record { count = some.0; printed = may.printed ∙ ap (λ xs. old.printed ++ xs) some.1 } })
    (λ image left may.
    let some = put_some worked piece old new prints in
    record {
      disk = subst (λ bs. IsImage bs old.loose image) same.bytes (subst (λ ls. IsImage new.bytes ls image) same.loose may.disk);
      printed = record {
        count = some.count;
        printed = may.printed ∙ ap (λ xs. new.printed ++ xs) (take_none may.n) ∙ append-nil new.printed ∙ some.printed;
      };
    })

-- at want of memory the site wasn't touched
pub put_nothing : (told : Bool) (text : List ℕ) (s : Sight) → PutRun told text s s (Err OutOfMemory)
put_nothing told text s = record {
  text_at = λ _. refl;
  stops = λ _. stops_start s text;
  disk = λ _. record { bytes = refl; loose = refl };
  syncs = omega arith;
  goes = record { same_size = refl; disk = omega arith; print = omega arith };
  print_fault = λ is. absurd (Prim.cc);
  untouched = λ _. refl;
}
