use Rattle.std.proofs.Common.{◌≡◌, ◌∙◌, ℕ, ◌+◌, ◌-◌, ◌≤◌, List, [], ◌∷◌, ◌++◌, length, take, drop, replicate, slice_range, reverse, sym, ap, arith, append_assoc, append-nil}
use Rattle.std.proofs.lemmas.List.{take-append-drop, take_at, drop_at, take_all, length-take-le, length-append, length-drop, length-replicate, drop-drop, reverse-append}
use Rattle.dali_outside.specs.Outside.{overlay}
use Rattle.dali_outside.specs.Memory.{torn}
use Rattle.dali_outside.specs.Tape.{front, back, past_of}
use Rattle.dali_outside.specs.declared.step.Step.{Step}
use Rattle.dali_outside.specs.declared.step.Step.TheVariants.{Wrote}

pub overlay_length : {X : Type 0} → (xs : List X) (at : ℕ) (ys : List X) → at + length ys ≤ length xs → length (overlay xs at ys) ≡ length xs
overlay_length xs at ys fits =
    let whole : length (overlay xs at ys) ≡ length (take at xs) + length (ys ++ drop (at + length ys) xs) = length-append (take at xs) (ys ++ drop (at + length ys) xs) in
    let rest : length (ys ++ drop (at + length ys) xs) ≡ length ys + length (drop (at + length ys) xs) = length-append ys (drop (at + length ys) xs) in
    let front : length (take at xs) ≡ at = length-take-le at xs (omega (arith, fits)) in
    let behind : length (drop (at + length ys) xs) ≡ length xs - (at + length ys) = length-drop (at + length ys) xs in
    omega (arith, whole, rest, front, behind, fits)

pub torn_length : (piece : List ℕ) (n : ℕ) → n ≤ length piece → length (torn piece n) ≡ length piece
torn_length piece n le =
    let whole : length (torn piece n) ≡ length (take n piece) + length (replicate {A = ℕ} (length piece - n) 238) = length-append (take n piece) (replicate (length piece - n) 238) in
    let behind : length (replicate {A = ℕ} (length piece - n) 238) ≡ length piece - n = length-replicate (length piece - n) 238 in
    omega (arith, whole, behind, length-take-le n piece le)

pub torn_whole : (piece : List ℕ) → torn piece (length piece) ≡ piece
torn_whole piece =
    let nothing : length piece - length piece ≡ 0 = omega arith in
    ap (λ k. take (length piece) piece ++ replicate k 238) nothing ∙ append-nil (take (length piece) piece) ∙ take_all (length piece) piece (omega arith)

back_of : {X : Type 0} → (xs ys : List X) (n : ℕ) → length ys ≡ n → back n (xs ++ ys) ≡ ys
back_of xs ys n is = drop_at xs ys (length (xs ++ ys) - n) (omega (arith, length-append xs ys, is))

front_of : {X : Type 0} → (xs ys : List X) (n : ℕ) → length ys ≡ n → front n (xs ++ ys) ≡ xs
front_of xs ys n is = take_at xs ys (length (xs ++ ys) - n) (omega (arith, length-append xs ys, is))

module _ {X : Type 0} (xs : List X) (at n : ℕ) (fits : at + n ≤ length xs) where
  before : length (take at xs) ≡ at
  before = length-take-le at xs (omega (arith, fits))

  pub range_length : length (slice_range xs at (at + n)) ≡ n
  range_length =
      let rest : length (drop at xs) ≡ length xs - at = length-drop at xs in
      length-take-le (at + n - at) (drop at xs) (omega (arith, rest, fits)) ∙ (omega arith)

  cut_range : slice_range xs at (at + n) ++ drop (at + n) xs ≡ drop at xs
  cut_range =
      let width : at + n - at ≡ n = omega arith in
      ap (λ k. take k (drop at xs) ++ drop (at + n) xs) width
      ∙ ap (λ ys. take n (drop at xs) ++ ys) (sym (drop-drop n at xs))
      ∙ take-append-drop n (drop at xs)

  -- what was there is put back
  pub overlay_same : overlay xs at (slice_range xs at (at + n)) ≡ xs
  overlay_same =
      ap (λ k. take at xs ++ (slice_range xs at (at + n) ++ drop (at + k) xs)) range_length
      ∙ ap (λ ys. take at xs ++ ys) cut_range
      ∙ take-append-drop at xs

  pub take_before : (ys : List X) → take at (overlay xs at ys) ≡ take at xs
  take_before ys = take_at (take at xs) (ys ++ drop (at + length ys) xs) at before

  pub drop_behind : (ys : List X) → length ys ≡ n → drop (at + n) (overlay xs at ys) ≡ drop (at + n) xs
  drop_behind ys as_long =
      ap (λ zs. drop (at + n) zs) (sym (append_assoc (take at xs) ys (drop (at + length ys) xs)))
      ∙ drop_at (take at xs ++ ys) (drop (at + length ys) xs) (at + n) (omega (arith, before, as_long, length-append (take at xs) ys))
      ∙ ap (λ k. drop (at + k) xs) as_long

  pub overlay_back : (ys : List X) → length ys ≡ n → overlay (overlay xs at ys) at (slice_range xs at (at + n)) ≡ xs
  overlay_back ys as_long =
      ap (λ k. take at (overlay xs at ys) ++ (slice_range xs at (at + n) ++ drop (at + k) (overlay xs at ys))) range_length
      ∙ ap (λ zs. zs ++ (slice_range xs at (at + n) ++ drop (at + n) (overlay xs at ys))) (take_before ys)
      ∙ ap (λ zs. take at xs ++ (slice_range xs at (at + n) ++ zs)) (drop_behind ys as_long)
      ∙ ap (λ zs. take at xs ++ zs) cut_range
      ∙ take-append-drop at xs

-- a write is undone
pub undone : (size : ℕ) (steps : List Step) (bytes replaced text stands : List ℕ) (at len : ℕ) → at + len ≤ length bytes → length stands ≡ len → past_of size (Wrote at len ∷ steps) (overlay bytes at stands) (replaced ++ slice_range bytes at (at + len)) text ≡ past_of size steps bytes replaced text
undone size steps bytes replaced text stands at len fits as_long =
    let range = slice_range bytes at (at + len) in
    let long : length range ≡ len = range_length bytes at len fits in
    ap (λ zs. past_of size steps (overlay (overlay bytes at stands) at zs) (front len (replaced ++ range)) text) (back_of replaced range len long)
    ∙ ap (λ zs. past_of size steps (overlay (overlay bytes at stands) at range) zs text) (front_of replaced range len long)
    ∙ ap (λ zs. past_of size steps zs replaced text) (overlay_back bytes at len fits stands as_long)

-- the moments that are over stay the same in a write
pub written : (steps : List Step) (bytes replaced text stands : List ℕ) (at len : ℕ) → at + len ≤ length bytes → length stands ≡ len → past_of (length (overlay bytes at stands)) (reverse (steps ++ Wrote at len ∷ [])) (overlay bytes at stands) (replaced ++ slice_range bytes at (at + len)) text ≡ past_of (length bytes) (reverse steps) bytes replaced text
written steps bytes replaced text stands at len fits as_long =
    let range = slice_range bytes at (at + len) in
    ap (λ size. past_of size (reverse (steps ++ Wrote at len ∷ [])) (overlay bytes at stands) (replaced ++ range) text) (overlay_length bytes at stands (omega (arith, fits, as_long)))
    ∙ ap (λ zs. past_of (length bytes) zs (overlay bytes at stands) (replaced ++ range) text) (reverse-append steps (Wrote at len ∷ []))
    ∙ undone (length bytes) (reverse steps) bytes replaced text stands at len fits as_long
