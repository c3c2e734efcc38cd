-- A part of bytes that stand on a device.
use Rattle.std.proofs.Common.{◌≡◌, ◌∙◌, ℕ, zero, suc, [], ◌∷◌, ◌+◌, ◌-◌, ◌≤◌, Bool, true, false, List, length, take, drop, replicate, slice_range, refl, sym, ap, arith}
use Rattle.std.proofs.lemmas.List.{drop-take, drop-drop, take-replicate, drop-replicate, length-replicate}
use Rattle.dali_outside.specs.Outside.{Sight, Writes, overlay}
use Rattle.dali_outside.proofs.Undo.{range_length, overlay_same}
use Rattle.dali_recover.specs.Pieces.{StandFrom}

-- the first of the first
take_take : {X : Type 0} (n m : ℕ) (xs : List X) → n ≤ m → take n (take m xs) ≡ take n xs
take_take zero m xs le = refl
take_take (suc n) zero xs le = absurd (omega (arith, le))
take_take (suc n) (suc m) [] le = refl
take_take (suc n) (suc m) (x ∷ xs) le = ap (λ ys. x ∷ ys) (take_take n m xs (omega (arith, le)))

-- a part of bytes that stand on a device stands there too
pub part_stands : (from at len first : ℕ) (bytes device : List ℕ) → StandFrom from bytes device → at ≡ from + first → first + len ≤ length bytes →
    slice_range bytes first (first + len) ≡ slice_range device at (at + len)
part_stands from at len first bytes device stand there fits =
    let n = length bytes in
    let rest = n - (first + len) in
    let whole : from + n - from ≡ first + (len + rest) = omega (arith, fits) in
    let here : first + len - first ≡ len = omega arith in
    let width : len ≡ at + len - at = omega arith in
    ap (λ (bs : List ℕ). take (first + len - first) (drop first bs)) stand
    ∙ ap (λ k. take (first + len - first) (drop first (take k (drop from device)))) whole
    ∙ ap (λ (bs : List ℕ). take (first + len - first) bs) (drop-take first (len + rest) (drop from device))
    ∙ ap (λ k. take k (take (len + rest) (drop first (drop from device)))) here
    ∙ take_take len (len + rest) (drop first (drop from device)) (omega arith)
    ∙ ap (λ (bs : List ℕ). take len bs) (drop-drop first from device)
    ∙ ap (λ k. take len (drop k device)) (sym there)
    ∙ ap (λ k. take k (drop at device)) width

-- where every byte is loose, a write leaves every byte loose
loose_still : (size at n : ℕ) → at + n ≤ size → replicate size true ≡ overlay (replicate size true) at (replicate n true)
loose_still size at n fits =
    let marks : List Bool = replicate size true in
    let long : length marks ≡ size = length-replicate size true in
    let width : at + n - at ≡ n = omega arith in
    let range : slice_range marks at (at + n) ≡ replicate n true =
    ap (λ k. take k (drop at marks)) width ∙ ap (λ (ms : List Bool). take n ms) (drop-replicate at size true) ∙ take-replicate n (size - at) true (omega (arith, fits)) in
    sym (overlay_same marks at n (omega (arith, fits, long))) ∙ ap (λ (ms : List Bool). overlay marks at ms) range

-- a write that failed left all bytes as they were
pub unwritten : (at : ℕ) (piece : List ℕ) (old new : Sight) → at + length piece ≤ length old.bytes → length old.bytes ≡ old.size → old.loose ≡ replicate old.size true →
    new.bytes ≡ old.bytes → new.loose ≡ old.loose → Writes false at piece old new
unwritten at piece old new fits long all bytes loose = record {
  stands = slice_range old.bytes at (at + length piece);
  as_long = range_length old.bytes at (length piece) fits;
  whole = λ is. absurd (cc is);
  bytes = bytes ∙ sym (overlay_same old.bytes at (length piece) fits);
  loose = loose ∙ all ∙ loose_still old.size at (length piece) (omega (arith, fits, long)) ∙ ap (λ (ms : List Bool). overlay ms at (replicate (length piece) true)) (sym all);
}
