use Rattle.std.proofs.Common.{◌≡◌, ◌∙◌, ℕ, zero, suc, ◌+◌, ◌-◌, ◌≤◌, ◌<◌, All, Bool, true, false, List, [], ◌∷◌, ◌++◌, length, take, drop, replicate, slice_range, refl, sym, ap, subst, arith, append-nil}
use Rattle.std.proofs.lemmas.List.{take-append-drop, take_at, drop_at, length-replicate, length-take-le, length-drop}
use Rattle.std.proofs.lemmas.List.Elements.{All-nil, All-cons, All-take, All-drop}
use Rattle.dali_outside.specs.Outside.{Sight, overlay, now, Writes, SameText, TellsAll}
use Rattle.dali_outside.specs.Stops.{IsImage, Keeps, LeavesOnly}
use Rattle.dali_outside.proofs.Images.{only_image, image_length, image_front, image_back}
use Rattle.dali_outside.proofs.Moments.{leaves_start, leaves_same}
use Rattle.std.proofs.lemmas.List.Folds.{drop_split}
use Rattle.dali_outside.proofs.Undo.{overlay_same, overlay_length, range_length, take_before, drop_behind}
use Rattle.dali_journal.specs.Appends.{IsFirm, Torn}

take_nil : {X : Type 0} → (n : ℕ) → take {A = X} n [] ≡ []
take_nil zero = refl
take_nil (suc n) = refl

pub nothing_more : (xs : List ℕ) (n : ℕ) → xs ++ take n [] ≡ xs
nothing_more xs n = ap (λ ys. xs ++ ys) (take_nil n) ∙ append-nil xs

take_replicate : {X : Type 0} → (k m : ℕ) (x : X) → k ≤ m → take k (replicate m x) ≡ replicate k x
take_replicate zero m x le = refl
take_replicate (suc k) zero x le = absurd (omega (arith, le))
take_replicate (suc k) (suc m) x le = ap (λ xs. x ∷ xs) (take_replicate k m x (omega (arith, le)))

drop_replicate : {X : Type 0} → (k m : ℕ) (x : X) → drop k (replicate m x) ≡ replicate (m - k) x
drop_replicate zero m x = ap (λ n. replicate n x) (let same : m ≡ m - 0 = omega arith in same)
drop_replicate (suc k) zero x = ap (λ n. replicate n x) (let same : 0 ≡ 0 - suc k = omega arith in same)
drop_replicate (suc k) (suc m) x = drop_replicate k m x ∙ ap (λ n. replicate n x) (let same : m - k ≡ suc m - suc k = omega arith in same)

-- an image, where nothing but this range is loose, has the old bytes outside of it
pub torn_image : (bytes stands image : List ℕ) (at n m : ℕ) → at + n ≤ length bytes → length stands ≡ n → m ≡ length bytes →
    IsImage (overlay bytes at stands) (overlay (replicate m false) at (replicate n true)) image → image ≡ overlay bytes at (slice_range image at (at + n))
torn_image bytes stands image at n m fits as_long all left =
    let firm = replicate m false in
    let loose = replicate n true in
    let firm_length : length firm ≡ m = length-replicate m false in
    let loose_length : length loose ≡ n = length-replicate n true in
    let fits_loose : at + n ≤ length firm = omega (arith, fits, firm_length, all) in
    let image_long : length image ≡ length bytes =
    image_length (overlay bytes at stands) (overlay firm at loose) image left ∙ overlay_length bytes at stands (omega (arith, fits, as_long)) in
    let front_bytes : take at (overlay bytes at stands) ≡ take at bytes = take_before bytes at n fits stands in
    let front_loose : take at (overlay firm at loose) ≡ replicate at false = take_before firm at n fits_loose loose ∙ take_replicate at m false (omega (arith, fits, all)) in
    let front_left : IsImage (take at bytes) (replicate at false) (take at image) =
    subst (λ bs. IsImage bs (replicate at false) (take at image)) front_bytes
    (subst (λ ls. IsImage (take at (overlay bytes at stands)) ls (take at image)) front_loose (image_front at (overlay bytes at stands) (overlay firm at loose) image left)) in
    let front_length : length (take at bytes) ≡ at = length-take-le at bytes (omega (arith, fits)) in
    let front : take at image ≡ take at bytes = only_image (take at bytes) at (take at image) (sym front_length) front_left in
    let back_bytes : drop (at + n) (overlay bytes at stands) ≡ drop (at + n) bytes = drop_behind bytes at n fits stands as_long in
    let back_loose : drop (at + n) (overlay firm at loose) ≡ replicate (m - (at + n)) false = drop_behind firm at n fits_loose loose loose_length ∙ drop_replicate (at + n) m false in
    let back_left : IsImage (drop (at + n) bytes) (replicate (m - (at + n)) false) (drop (at + n) image) =
    subst (λ bs. IsImage bs (replicate (m - (at + n)) false) (drop (at + n) image)) back_bytes
    (subst (λ ls. IsImage (drop (at + n) (overlay bytes at stands)) ls (drop (at + n) image)) back_loose (image_back (at + n) (overlay bytes at stands) (overlay firm at loose) image left)) in
    let back_length : length (drop (at + n) bytes) ≡ length bytes - (at + n) = length-drop (at + n) bytes in
    let back : drop (at + n) image ≡ drop (at + n) bytes = only_image (drop (at + n) bytes) (m - (at + n)) (drop (at + n) image) (omega (arith, back_length, all)) back_left in
    let range = slice_range image at (at + n) in
    let long : length range ≡ n = range_length image at n (omega (arith, fits, image_long)) in
    sym (take-append-drop at image)
    ∙ ap (λ xs. xs ++ drop at image) front
    ∙ ap (λ xs. take at bytes ++ xs) (drop_split image at (at + n) (omega arith))
    ∙ ap (λ xs. take at bytes ++ (range ++ xs)) back
    ∙ ap (λ k. take at bytes ++ (range ++ drop (at + k) bytes)) (sym long)

loose_small : (n : ℕ) (bytes image : List ℕ) → IsImage bytes (replicate n true) image → All (λ b. b < 256) image
loose_small zero [] [] left = All-nil (λ b. b < 256)
loose_small zero [] (c ∷ image) left = absurd left
loose_small zero (b ∷ bytes) image left = absurd left
loose_small (suc n) [] image left = absurd left
loose_small (suc n) (b ∷ bytes) [] left = absurd left
loose_small (suc n) (b ∷ bytes) (c ∷ image) left = All-cons (λ b. b < 256) c image left.0 (loose_small n bytes image left.1)

-- what it has in the range is bytes
torn_small : (bytes image : List ℕ) (at n m : ℕ) → at + n ≤ m → IsImage bytes (overlay (replicate m false) at (replicate n true)) image → All (λ b. b < 256) (slice_range image at (at + n))
torn_small bytes image at n m fits left =
    let firm = replicate m false in
    let loose = replicate n true in
    let front : length (take at firm) ≡ at = length-take-le at firm (omega (arith, fits, length-replicate m false)) in
    let marks : take n (drop at (overlay firm at loose)) ≡ loose =
    ap (λ ls. take n ls) (drop_at (take at firm) (loose ++ drop (at + length loose) firm) at front) ∙ take_at loose (drop (at + length loose) firm) n (length-replicate n true) in
    let part : IsImage (take n (drop at bytes)) loose (take n (drop at image)) =
    subst (λ ls. IsImage (take n (drop at bytes)) ls (take n (drop at image))) marks
    (image_front n (drop at bytes) (drop at (overlay firm at loose)) (drop at image) (image_back at bytes (overlay firm at loose) image left)) in
    let width : n ≡ at + n - at = omega arith in
    subst (λ k. All (λ b. b < 256) (take k (drop at image))) width (loose_small n (take n (drop at bytes)) (take n (drop at image)) part)

module _ (old : Sight) (at n : ℕ) (fits : at + n ≤ length old.bytes) (firm : IsFirm old) (all : TellsAll old) where
  still_torn : Keeps (Torn old at n) (now old)
  still_torn image text left =
      let same : image ≡ old.bytes =
      only_image old.bytes (length old.loose) image (omega (arith, all.bytes, all.loose)) (subst (λ ls. IsImage old.bytes ls image) firm left.disk) in
      record {
        stands = slice_range old.bytes at (at + n);
        as_long = range_length old.bytes at n fits;
        small = All-take (λ b. b < 256) (at + n - at) (drop at old.bytes) (All-drop (λ b. b < 256) at old.bytes all.small);
        whole = same ∙ sym (overlay_same old.bytes at n fits);
        silent = left.printed ∙ nothing_more old.printed left.n;
      }

-- a write, worked or not, where nothing was loose
pub wrote_torn : (worked : Bool) (old new : Sight) (at : ℕ) (piece : List ℕ) → at + length piece ≤ length old.bytes → IsFirm old → TellsAll old →
    Writes worked at piece old new → SameText old new → LeavesOnly (Torn old at (length piece)) old new
wrote_torn worked old new at piece fits firm all writes same =
    let n = length piece in
    leaves_same (Torn old at n) old old (leaves_start (Torn old at n) old (still_torn old at n fits firm all)) new same (λ image text left.
    let loose : new.loose ≡ overlay (replicate (length old.loose) false) at (replicate n true) = writes.loose ∙ ap (λ ls. overlay ls at (replicate n true)) firm in
    let disk : IsImage (overlay old.bytes at writes.stands) (overlay (replicate (length old.loose) false) at (replicate n true)) image =
    subst (λ bs. IsImage bs (overlay (replicate (length old.loose) false) at (replicate n true)) image) writes.bytes (subst (λ ls. IsImage new.bytes ls image) loose left.disk) in
    let whole = torn_image old.bytes writes.stands image at n (length old.loose) fits writes.as_long (omega (arith, all.bytes, all.loose)) disk in
    let long : length image ≡ length old.bytes =
    image_length (overlay old.bytes at writes.stands) (overlay (replicate (length old.loose) false) at (replicate n true)) image disk ∙ overlay_length old.bytes at writes.stands (omega (arith, fits, writes.as_long)) in
    record {
      stands = slice_range image at (at + n);
      as_long = range_length image at n (omega (arith, fits, long));
      small = torn_small (overlay old.bytes at writes.stands) image at n (length old.loose) (omega (arith, fits, all.bytes, all.loose)) disk;
      whole = whole;
      silent = left.printed ∙ nothing_more new.printed left.n ∙ same.printed;
    })
