use Rattle.std.proofs.Common.{◌≡◌, ℕ, ◌+◌, ◌-◌, ◌≤◌, Bool, List, ◌++◌, length, take, drop, ap, ◌∙◌, sym, arith}
use Rattle.std.proofs.Math.Seq.{take-append_seam, drop-append_seam}
use Rattle.std.proofs.lemmas.List.{length-take-le, take-take, drop-drop}
use Rattle.dali_outside.specs.Outside.{Sight, Writes, overlay}
use Rattle.dali_journal.specs.Appends.{StaysOutside}

overlay_before : (xs : List ℕ) (at : ℕ) (ys : List ℕ) → at ≤ length xs → take at (overlay xs at ys) ≡ take at xs
overlay_before xs at ys within =
    ap (λ n. take n (overlay xs at ys)) (sym (length-take-le at xs within)) ∙ take-append_seam (take at xs) (ys ++ drop (at + length ys) xs)

overlay_behind : (xs : List ℕ) (at n : ℕ) (ys : List ℕ) → at ≤ length xs → length ys ≡ n → drop (at + n) (overlay xs at ys) ≡ drop (at + n) xs
overlay_behind xs at n ys within long =
    sym (drop-drop n at (overlay xs at ys))
    ∙ ap (drop n) (ap (λ k. drop k (overlay xs at ys)) (sym (length-take-le at xs within)) ∙ drop-append_seam (take at xs) (ys ++ drop (at + length ys) xs))
    ∙ ap (λ k. drop k (ys ++ drop (at + length ys) xs)) (sym long)
    ∙ drop-append_seam ys (drop (at + length ys) xs)
    ∙ ap (λ k. drop (at + k) xs) long

-- a write changes nothing outside its range, whether it works or not
pub wrote_outside : (worked : Bool) (at : ℕ) (piece : List ℕ) (old new : Sight) → at + length piece ≤ length old.bytes → Writes worked at piece old new →
    StaysOutside at (length piece) old new
wrote_outside worked at piece old new within wrote = record {
  before = ap (take at) wrote.bytes ∙ overlay_before old.bytes at wrote.stands (omega (arith, within));
  behind = ap (drop (at + length piece)) wrote.bytes ∙ overlay_behind old.bytes at (length piece) wrote.stands (omega (arith, within)) wrote.as_long;
}

-- nor does what keeps the bytes
pub still_outside : (at n : ℕ) (old mid new : Sight) → new.bytes ≡ mid.bytes → StaysOutside at n old mid → StaysOutside at n old new
still_outside at n old mid new same stays = record {
  before = ap (take at) same ∙ stays.before;
  behind = ap (drop (at + n)) same ∙ stays.behind;
}

-- a wider range
pub wider_outside : (at n low m : ℕ) (old new : Sight) → low ≤ at → at + n ≤ low + m → StaysOutside at n old new → StaysOutside low m old new
wider_outside at n low m old new lower higher stays = record {
  before = front low at new.bytes lower ∙ ap (take low) stays.before ∙ sym (front low at old.bytes lower);
  behind = back (at + n) (low + m) new.bytes higher ∙ ap (drop (low + m - (at + n))) stays.behind ∙ sym (back (at + n) (low + m) old.bytes higher);
}
  where
    front : (low at : ℕ) (xs : List ℕ) → low ≤ at → take low xs ≡ take low (take at xs)
    front low at xs lower = sym (take-take low at xs lower)

    back : (near far : ℕ) (xs : List ℕ) → near ≤ far → drop far xs ≡ drop (far - near) (drop near xs)
    back near far xs above = ap (λ k. drop k xs) (omega (arith, above)) ∙ sym (drop-drop (far - near) near xs)

-- and one after the other
pub both_outside : (at n : ℕ) (old mid new : Sight) → StaysOutside at n old mid → StaysOutside at n mid new → StaysOutside at n old new
both_outside at n old mid new first second = record {
  before = second.before ∙ first.before;
  behind = second.behind ∙ first.behind;
}

-- nothing changed at all
pub same_outside : (at n : ℕ) (old new : Sight) → new ≡ old → StaysOutside at n old new
same_outside at n old new same = record {
  before = ap (λ (s : Sight). take at s.bytes) same;
  behind = ap (λ (s : Sight). drop (at + n) s.bytes) same;
}
