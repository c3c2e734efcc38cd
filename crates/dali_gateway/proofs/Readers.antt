use Rattle.std.proofs.Common.{◌≡◌, ◌≢◌, ◌∙◌, ℕ, ◌+◌, ◌-◌, ◌<◌, ◌≤◌, ◌⊎◌, inl, inr, List, [], ◌∷◌, ◌++◌, length, take, drop, get_or, sym, ap, subst, arith}
use Rattle.std.proofs.lemmas.List.{take-append-drop, take_more, drop_more, length-drop, take_all}
use Rattle.std.specs.Prelude.{decimal}
use Rattle.dali_gateway.specs.Refusal.{Parts, LeavesWord, SpellsWithin, LeavesNumber}

-- What the readers of a word and of a number find, by a place among the bytes.

parts_at : (bytes : List ℕ) (at : ℕ) → at ≤ length bytes → Parts bytes (take at bytes) (drop at bytes) (length bytes - at)
parts_at bytes at within = record { parted = sym (take-append-drop at bytes); long = length-drop at bytes }

-- the bytes go along with a whole word
pub word_met : (bytes word : List ℕ) (at : ℕ) → take at bytes ≡ take at word → length word ≤ at → bytes ≡ word ++ drop at bytes
word_met bytes word at same whole =
    sym (take-append-drop at bytes) ∙ ap (λ (front : List ℕ). front ++ drop at bytes) (same ∙ take_all at word whole)

-- they part from it
pub word_left : (bytes word : List ℕ) (at : ℕ) → take at bytes ≡ take at word → at ≤ length bytes → at < length word →
    (at < length bytes → at < length word → get_or bytes at 0 ≢ get_or word at 0) → LeavesWord word bytes (length bytes - at)
word_left bytes word at same within short stops = record {
  front = take at bytes;
  rest = drop at bytes;
  parts = parts_at bytes at within;
  next = get_or word at 0;
  more = drop (at + 1) word;
  spelled = sym (take-append-drop at word) ∙ ap (λ (front : List ℕ). front ++ drop at word) (sym same)
      ∙ ap (λ (rest : List ℕ). take at bytes ++ rest) (drop_more word at 0 short);
  other = λ behind here.
      let some : at < length bytes = omega (arith, ap length here, length-drop at bytes) in
      let met : get_or bytes at 0 ∷ drop (at + 1) bytes ≡ get_or word at 0 ∷ behind = sym (drop_more bytes at 0 some) ∙ here in
      let first : get_or bytes at 0 ≡ get_or word at 0 = cc in
      stops some short first;
}

-- digits, and an LF behind them
pub line_met : (bytes : List ℕ) (at n : ℕ) → at < length bytes → take at bytes ≡ decimal n → get_or bytes at 0 ≡ 10 → bytes ≡ decimal n ++ 10 ∷ drop (at + 1) bytes
line_met bytes at n within spelled ended =
    sym (take-append-drop at bytes) ∙ ap (λ (front : List ℕ). front ++ drop at bytes) spelled
    ∙ ap (λ (rest : List ℕ). decimal n ++ rest) (drop_more bytes at 0 within ∙ ap (λ (b : ℕ). b ∷ drop (at + 1) bytes) ended)

-- digits, and no further one
pub number_left : (low high : ℕ) (bytes : List ℕ) (at n : ℕ) → at ≤ length bytes →
    ((at ≡ 0) ⊎ ((low ≤ n) × (n ≤ high) × (take at bytes ≡ decimal n))) →
    (at < length bytes → (SpellsWithin low high (take (at + 1) bytes) → ⊥) × (get_or bytes at 0 ≡ 10 → at ≡ 0)) → LeavesNumber low high bytes (length bytes - at)
number_left low high bytes at n within begun stops = record {
  front = take at bytes;
  rest = drop at bytes;
  parts = parts_at bytes at within;
  begun = digits begun;
  digit = λ b behind here spelled.
      let some = inside b behind here in
      let met : get_or bytes at 0 ∷ drop (at + 1) bytes ≡ b ∷ behind = sym (drop_more bytes at 0 some) ∙ here in
      let first : get_or bytes at 0 ≡ b = cc in
      let longer : take (at + 1) bytes ≡ take at bytes ++ b ∷ [] = take_more bytes at 0 some ∙ ap (λ (x : ℕ). take at bytes ++ x ∷ []) first in
      (stops some).0 (subst (SpellsWithin low high) (sym longer) spelled);
  ended = λ behind here.
      let some = inside 10 behind here in
      let met : get_or bytes at 0 ∷ drop (at + 1) bytes ≡ 10 ∷ behind = sym (drop_more bytes at 0 some) ∙ here in
      let first : get_or bytes at 0 ≡ 10 = cc in
      ap (λ (n : ℕ). take n bytes) ((stops some).1 first);
} where
  inside : (b : ℕ) (behind : List ℕ) → drop at bytes ≡ b ∷ behind → at < length bytes
  inside b behind here = omega (arith, ap length here, length-drop at bytes)

  digits : ((at ≡ 0) ⊎ ((low ≤ n) × (n ≤ high) × (take at bytes ≡ decimal n))) → (take at bytes ≡ []) ⊎ SpellsWithin low high (take at bytes)
  digits (inl none) = inl (ap (λ (n : ℕ). take n bytes) none)
  digits (inr some) = inr (record { number = n; least = some.0; most = some.1; spelled = some.2 })

pub number_left_all : (low high : ℕ) (bytes : List ℕ) (at n : ℕ) → at ≤ length bytes → length bytes ≤ at →
    ((at ≡ 0) ⊎ ((low ≤ n) × (n ≤ high) × (take at bytes ≡ decimal n))) → LeavesNumber low high bytes 0
number_left_all low high bytes at n within over begun =
    let none : length bytes - at ≡ 0 = omega (arith, over) in
    subst (λ (left : ℕ). LeavesNumber low high bytes left) none (number_left low high bytes at n within begun (λ inside. absurd (omega (arith, inside, over))))
