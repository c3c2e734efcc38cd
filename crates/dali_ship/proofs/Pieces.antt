-- A text that is printed in pieces: its bytes are held back, put, and at last all gone.
use Rattle.std.proofs.Common.{◌≡◌, ◌∙◌, ℕ, zero, suc, ◌≤◌, Bool, true, false, List, [], ◌∷◌, ◌++◌, length, take, refl, sym, ap, subst, arith, append_assoc, append-nil}
use Rattle.std.specs.Prelude.{IsTrue, Result, Ok, Err, OnOk}
use Rattle.std.proofs.lemmas.List.{take_at}
use Rattle.dali_outside.specs.Outside.{Sight, Prints, SameDisk, Goes}
use Rattle.dali_outside.specs.Stops.{IsImage, LeavesOnly}
use Rattle.dali_outside.proofs.Moments.{leaves_on, leaves_weaker}
use Rattle.dali_upkeep.specs.Printing.{LeavesFront}
use Rattle.dali_upkeep.proofs.Putting.{take_none, front_start, put_front, put_whole, put_part, goes_nowhere, goes_on}
use Rattle.dali_ship.specs.Printing.{SoFar, EndsWithin, PrintsOn}
use Rattle.dali_ship.specs.declared.printing.PrintNo.{PrintNo}

-- nothing was printed yet
pub begun : (tells : Bool) (text : List ℕ) (s : Sight) → SoFar tells text [] text s s
begun tells text s = record {
  gone = [];
  parts = refl;
  printed = λ t. sym (append-nil s.printed);
  disk = λ t. record { bytes = refl; loose = refl };
  stops = λ t. front_start text s;
  goes = goes_nowhere s;
  syncs = omega arith;
}

-- a front of what comes behind other bytes, and these bytes, are a front of the whole
front_behind : (gone piece rest : List ℕ) (n : ℕ) → (m : ℕ) × (gone ++ take n piece ≡ take m (gone ++ (piece ++ rest)))
front_behind [] [] rest n = (0, take_none n)
front_behind [] (x ∷ piece) rest zero = (0, refl)
front_behind [] (x ∷ piece) rest (suc n) = let later = front_behind [] piece rest n in (suc later.0, ap (λ ys. x ∷ ys) later.1)
front_behind (x ∷ gone) piece rest n = let later = front_behind gone piece rest n in (suc later.0, ap (λ ys. x ∷ ys) later.1)

same_disk : (a b c : Sight) → SameDisk a b → SameDisk b c → SameDisk a c
same_disk a b c first second = record { bytes = second.bytes ∙ first.bytes; loose = second.loose ∙ first.loose }

module _ (tells : Bool) (text piece rest : List ℕ) (old mid : Sight) where
  -- more is held back
  pub held : (frame : List ℕ) → SoFar tells text piece (frame ++ rest) old mid → SoFar tells text (piece ++ frame) rest old mid
  held frame far = record {
    gone = far.gone;
    parts = far.parts ∙ ap (λ xs. far.gone ++ xs) (sym (append_assoc piece frame rest));
    printed = far.printed;
    disk = far.disk;
    stops = far.stops;
    goes = far.goes;
    syncs = far.syncs;
  }

  -- nothing is held back, and what comes next is taken
  pub taken : SoFar tells text [] (piece ++ rest) old mid → SoFar tells text piece rest old mid
  taken far = record {
    gone = far.gone;
    parts = far.parts;
    printed = far.printed;
    disk = far.disk;
    stops = far.stops;
    goes = far.goes;
    syncs = far.syncs;
  }

  module _ (far : SoFar tells text piece rest old mid) where
    -- no more is printed
    pub wanted : EndsWithin tells text old mid
    wanted = record {
      front = λ t. (
        length far.gone,
        far.printed t ∙ ap (λ xs. old.printed ++ xs) (sym (take_at far.gone (piece ++ rest) (length far.gone) refl) ∙ ap (λ xs. take (length far.gone) xs) (sym far.parts)),
      );
      disk = far.disk;
      stops = far.stops;
      goes = far.goes;
      syncs = far.syncs;
    }

    -- what a stop within a put of the piece leaves
    within_text : IsTrue tells → (image printed : List ℕ) → LeavesFront piece mid image printed → LeavesFront text old image printed
    within_text t image printed left =
        let front = front_behind far.gone piece rest left.n in
        record {
          disk = subst (λ bs. IsImage bs old.loose image) (far.disk t).bytes (subst (λ ls. IsImage mid.bytes ls image) (far.disk t).loose left.disk);
          n = front.0;
          front = left.front ∙ ap (λ xs. xs ++ take left.n piece) (far.printed t) ∙ append_assoc old.printed far.gone (take left.n piece)
              ∙ ap (λ xs. old.printed ++ xs) (front.1 ∙ ap (λ xs. take front.0 xs) (sym far.parts));
        }

    module _ (new : Sight) (goes : Goes mid new) (syncs : new.syncs ≤ mid.syncs) where
      put_stops : (worked : Bool) → IsTrue tells → Prints worked piece mid new → SameDisk mid new → LeavesOnly (LeavesFront text old) old new
      put_stops worked t prints same =
          leaves_on (LeavesFront text old) old mid (far.stops t) new
          (leaves_weaker (LeavesFront piece mid) (LeavesFront text old) mid new (within_text t) (put_front worked piece mid new prints same))

      -- the piece was printed
      pub printed : (IsTrue tells → Prints true piece mid new) → (IsTrue tells → SameDisk mid new) → SoFar tells text [] rest old new
      printed prints same = record {
        gone = far.gone ++ piece;
        parts = far.parts ∙ sym (append_assoc far.gone piece rest);
        printed = λ t. put_whole piece mid new (prints t) ∙ ap (λ xs. xs ++ piece) (far.printed t) ∙ append_assoc old.printed far.gone piece;
        disk = λ t. same_disk old mid new (far.disk t) (same t);
        stops = λ t. put_stops true t (prints t) (same t);
        goes = goes_on old mid new far.goes goes;
        syncs = let first = far.syncs in omega (arith, first, syncs);
      }

      -- some of it was, and no more is
      pub broken : (IsTrue tells → Prints false piece mid new) → (IsTrue tells → SameDisk mid new) → EndsWithin tells text old new
      broken prints same = record {
        front = λ t.
            let part = put_part piece mid new (prints t) in
            let front = front_behind far.gone piece rest part.0 in (
              front.0,
              part.1 ∙ ap (λ xs. xs ++ take part.0 piece) (far.printed t) ∙ append_assoc old.printed far.gone (take part.0 piece)
                  ∙ ap (λ xs. old.printed ++ xs) (front.1 ∙ ap (λ xs. take front.0 xs) (sym far.parts)),
            );
        disk = λ t. same_disk old mid new (far.disk t) (same t);
        stops = λ t. put_stops false t (prints t) (same t);
        goes = goes_on old mid new far.goes goes;
        syncs = let first = far.syncs in omega (arith, first, syncs);
      }

-- a piece that was printed is empty
pub on_empty : (tells : Bool) (text rest : List ℕ) (old now : Sight) (piece : List ℕ) (r : Result Unit PrintNo) → OnOk r (piece ≡ []) → PrintsOn r tells text [] rest old now → PrintsOn r tells text piece rest old now
on_empty tells text rest old now piece (Ok u) empty far = subst (λ (bytes : List ℕ). SoFar tells text bytes rest old now) (sym empty) far
on_empty tells text rest old now piece (Err e) empty part = part
