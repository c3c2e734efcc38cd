use Rattle.std.proofs.Common.{◌≡◌, ◌∙◌, ℕ, ◌-◌, ◌^◌, ◌<◌, ◌≤◌, ◌⊎◌, zero, suc, inl, inr, List, [], ◌∷◌, ◌++◌, length, replicate, map, refl, sym, ap, subst, arith, append_assoc, append-nil}
use Rattle.std.proofs.lemmas.List.{append_cancel_left, length-append, length-replicate, map-append}
use Rattle.std.proofs.lemmas.List.Elements.{All-append, All-replicate, All-head, All-tail}
use Rattle.std.specs.List.{All}
use Rattle.std.specs.Prelude.{decimal}
use Rattle.dali_gateway.specs.Form.{letter}
use Rattle.dali_gateway.specs.Language.{After, Numbered, Sized, Lettered}
use Rattle.dali_gateway.specs.Refusal.{LeavesWord, SpellsWithin, LeavesNumber, Leaves, RefusesWord, RefusesNumber, Refuses}
use Rattle.dali_gateway.specs.declared.refusal.Refused.{Refused}
use Rattle.dali_gateway.specs.declared.refusal.Refused.TheVariants.{Form, Memory}
use Rattle.dali_gateway.proofs.Numbers.{AreDigits, digits_of, line_at, line_same, some_digits, front_number}

-- Where a piece isn't met, the texts that begin with it aren't met from the same byte on.

-- some text of these
abbrev pub Some_ : (List ℕ → Type 0) → Type 0
Some_ L = (text : List ℕ) × L text

regroup : (front : List ℕ) (b : ℕ) (more rest : List ℕ) → (front ++ b ∷ more) ++ rest ≡ front ++ b ∷ (more ++ rest)
regroup front b more rest = append_assoc front (b ∷ more) rest

leaves_word : (word bytes : List ℕ) (L : List ℕ → Type 0) (left : ℕ) → Some_ L → LeavesWord word bytes left → Leaves (After word L) bytes left
leaves_word word bytes L left some at = record {
  front = at.front;
  rest = at.rest;
  parts = at.parts;
  more = at.next ∷ (at.more ++ some.0);
  begins = record { rest = some.0; parted = sym (regroup at.front at.next at.more some.0) ∙ ap (λ (t : List ℕ). t ++ some.0) (sym at.spelled); goes = some.1 };
  none = λ goes. at.other (at.more ++ goes.rest) (behind at.rest goes.rest (sym at.parts.parted ∙ goes.parted));
  breaks = λ b others after here goes.
      let next : b ∷ after ≡ at.next ∷ (at.more ++ goes.rest) = behind (b ∷ after) goes.rest goes.parted in
      let same : b ≡ at.next = cc in
      at.other others (here ∙ ap (λ (x : ℕ). x ∷ others) same);
} where
  behind : (tail rest : List ℕ) → at.front ++ tail ≡ word ++ rest → tail ≡ at.next ∷ (at.more ++ rest)
  behind tail rest e = append_cancel_left at.front tail (at.next ∷ (at.more ++ rest)) (e ∙ ap (λ (t : List ℕ). t ++ rest) at.spelled ∙ regroup at.front at.next at.more rest)

pub refuses_word : (word bytes : List ℕ) (L : List ℕ → Type 0) (e : Refused) → Some_ L → RefusesWord word bytes e → Refuses (After word L) bytes e
refuses_word word bytes L (Form left) some at = leaves_word word bytes L left some at
refuses_word word bytes L Memory some at = tt

digits_begun : (low high : ℕ) (front : List ℕ) → high < 2 ^ 64 → (front ≡ []) ⊎ SpellsWithin low high front → AreDigits front
digits_begun low high front small (inl none) = subst AreDigits (sym none) refl
digits_begun low high front small (inr s) = subst AreDigits (sym s.spelled) (digits_of s.number (omega (arith, s.most, small)))

at_least : (low n m : ℕ) → low ≤ 1 → low ≤ n → (1 ≤ n → 1 ≤ m) → low ≤ m
at_least zero n m few from some = omega arith
at_least (suc low) n m few from some = let one : 1 ≤ m = some (omega (arith, from)) in omega (arith, few, one)

-- no number goes on behind what is left so
no_number : (low high : ℕ) (bytes : List ℕ) (left : ℕ) → low ≤ 1 → high < 2 ^ 64 → (at : LeavesNumber low high bytes left) →
    (n : ℕ) (tail behind : List ℕ) → low ≤ n → n ≤ high → at.front ++ tail ≡ decimal n ++ 10 ∷ behind →
    ((b : ℕ) (after : List ℕ) → tail ≡ b ∷ after → (others : List ℕ) × (at.rest ≡ b ∷ others)) → ⊥
no_number low high bytes left least small at n tail behind from most e same =
    elim (line_at at.front (decimal n) tail behind (digits_begun low high at.front small at.begun) e) [
      | inl h ↦ let next = same 10 behind h.1 in
          absurd (some_digits n (omega (arith, most, small)) (sym h.0 ∙ at.ended next.0 next.1))
      | inr h ↦ let next = same h.0 h.2 h.3 in
          let longer : decimal n ≡ (at.front ++ h.0 ∷ []) ++ h.1 = h.4 ∙ sym (append_assoc at.front (h.0 ∷ []) h.1) in
          let spelled = front_number n (at.front ++ h.0 ∷ []) h.1 (omega (arith, most, small)) longer (omega (arith, length-append at.front (h.0 ∷ []))) in
          let within : SpellsWithin low high (at.front ++ h.0 ∷ []) = record {
            number = spelled.number;
            least = at_least low n spelled.number least from spelled.some;
            most = omega (arith, spelled.most, most);
            spelled = spelled.spelled;
          } in
          at.digit h.0 next.0 next.1 within
    ]

leaves_number : (low high : ℕ) (bytes : List ℕ) (L : ℕ → List ℕ → Type 0) (left : ℕ) → low ≤ 1 → 1 ≤ high → high < 2 ^ 64 →
    ((n : ℕ) → low ≤ n → n ≤ high → Some_ (L n)) → LeavesNumber low high bytes left → Leaves (Numbered low high L) bytes left
leaves_number low high bytes L left least most small some at = record {
  front = at.front;
  rest = at.rest;
  parts = at.parts;
  more = (begun at.begun).0;
  begins = (begun at.begun).1;
  none = λ goes. no_number low high bytes left least small at goes.number at.rest goes.rest goes.least goes.most (sym at.parts.parted ∙ goes.parted) (λ b after here. (after, here));
  breaks = λ b others after here goes. no_number low high bytes left least small at goes.number (b ∷ after) goes.rest goes.least goes.most goes.parted
      (λ c more is. (others, here ∙ ap (λ (x : ℕ). x ∷ others) (let same : b ≡ c = cc in same)));
} where
  begun : (at.front ≡ []) ⊎ SpellsWithin low high at.front → (more : List ℕ) × Numbered low high L (at.front ++ more)
  begun (inl none) =
      let text = some low (omega arith) (omega (arith, least, most)) in (
        decimal low ++ 10 ∷ text.0,
        record {
          number = low;
          least = omega arith;
          most = omega (arith, least, most);
          rest = text.0;
          parted = ap (λ (t : List ℕ). t ++ (decimal low ++ 10 ∷ text.0)) none;
          goes = text.1;
        },
      )
  begun (inr s) =
      let text = some s.number s.least s.most in (
        10 ∷ text.0,
        record {
          number = s.number;
          least = s.least;
          most = s.most;
          rest = text.0;
          parted = ap (λ (t : List ℕ). t ++ 10 ∷ text.0) s.spelled;
          goes = text.1;
        },
      )

pub refuses_number : (low high : ℕ) (bytes : List ℕ) (L : ℕ → List ℕ → Type 0) (e : Refused) → low ≤ 1 → 1 ≤ high → high < 2 ^ 64 →
    ((n : ℕ) → low ≤ n → n ≤ high → Some_ (L n)) → RefusesNumber low high bytes e → Refuses (Numbered low high L) bytes e
refuses_number low high bytes L (Form left) least most small some at = leaves_number low high bytes L left least most small some at
refuses_number low high bytes L Memory least most small some at = tt

-- bytes that are too few
pub leaves_sized : (size : ℕ) (bytes : List ℕ) (L : List ℕ → Type 0) → All (λ b. b < 256) bytes → length bytes < size → Some_ L → Leaves (Sized size L) bytes 0
leaves_sized size bytes L small few some = record {
  front = bytes;
  rest = [];
  parts = record { parted = sym (append-nil bytes); long = refl };
  more = zeros ++ some.0;
  begins = record {
    bytes = bytes ++ zeros;
    small = All-append (λ b. b < 256) bytes zeros small (All-replicate (λ b. b < 256) (size - length bytes) 0 (omega arith));
    long = omega (arith, length-append bytes zeros, length-replicate {A = ℕ} (size - length bytes) 0, few);
    rest = some.0;
    parted = sym (append_assoc bytes zeros some.0);
    goes = some.1;
  };
  none = λ goes. omega (arith, few, goes.long, ap length goes.parted, length-append goes.bytes goes.rest);
  breaks = λ b others after here goes. cc;
} where
  zeros : List ℕ
  zeros = replicate (size - length bytes) 0

-- behind the letters of some turns another turn's letter stands
letter_behind : (k : ℕ) (done turns : List ℕ) (tail rest : List ℕ) → length done < length turns → All (λ turn. turn < k) turns →
    map letter done ++ tail ≡ map letter turns ++ rest → (turn : ℕ) × (after : List ℕ) × (turn < k) × (tail ≡ letter turn ∷ after)
letter_behind k done [] tail rest fewer known e = absurd (omega (arith, fewer))
letter_behind k [] (turn ∷ turns) tail rest fewer known e = (turn, map letter turns ++ rest, All-head (λ t. t < k) turn turns known, e)
letter_behind k (x ∷ done) (turn ∷ turns) tail rest fewer known e =
    let behind : map letter done ++ tail ≡ map letter turns ++ rest = cc in
    letter_behind k done turns tail rest (omega (arith, fewer)) (All-tail (λ t. t < k) turn turns known) behind

-- bytes that go along with the letters of some turns, too few, and with no further one
pub leaves_letters : (k count : ℕ) (bytes done rest : List ℕ) (L : List ℕ → Type 0) → 1 ≤ k → length done < count → All (λ turn. turn < k) done →
    bytes ≡ map letter done ++ rest → ((turn : ℕ) (behind : List ℕ) → turn < k → rest ≡ letter turn ∷ behind → ⊥) → Some_ L →
    Leaves (Lettered k count L) bytes (length rest)
leaves_letters k count bytes done rest L inboxes few known parted other some = record {
  front = map letter done;
  rest = rest;
  parts = record { parted = parted; long = refl };
  more = map letter zeros ++ some.0;
  begins = record {
    turns = done ++ zeros;
    known = All-append (λ t. t < k) done zeros known (All-replicate (λ t. t < k) (count - length done) 0 (omega (arith, inboxes)));
    long = omega (arith, length-append done zeros, length-replicate {A = ℕ} (count - length done) 0, few);
    rest = some.0;
    parted = sym (append_assoc (map letter done) (map letter zeros) some.0) ∙ ap (λ (t : List ℕ). t ++ some.0) (sym (map-append letter done zeros));
    goes = some.1;
  };
  none = λ goes.
      let next = letter_behind k done goes.turns rest goes.rest (omega (arith, few, goes.long)) goes.known (sym parted ∙ goes.parted) in
      other next.0 next.1 next.2 next.3;
  breaks = λ b others after here goes.
      let next = letter_behind k done goes.turns (b ∷ after) goes.rest (omega (arith, few, goes.long)) goes.known goes.parted in
      let same : b ≡ letter next.0 = let is : b ∷ after ≡ letter next.0 ∷ next.1 = next.3 in cc in
      other next.0 others next.2 (here ∙ ap (λ (x : ℕ). x ∷ others) same);
} where
  zeros : List ℕ
  zeros = replicate (count - length done) 0

-- bytes behind the end
pub leaves_end : (bytes : List ℕ) → (bytes ≡ [] → ⊥) → Leaves (λ text. text ≡ []) bytes (length bytes)
leaves_end bytes some = record {
  front = [];
  rest = bytes;
  parts = record { parted = refl; long = refl };
  more = [];
  begins = refl;
  none = some;
  breaks = λ b others after here goes. cc;
}

-- Behind a piece that was met.
leaves_behind : (piece bytes rest : List ℕ) (L M : List ℕ → Type 0) (left : ℕ) → bytes ≡ piece ++ rest →
    ((text : List ℕ) → M text → L (piece ++ text)) → ((text : List ℕ) → L (piece ++ text) → M text) → Leaves M rest left → Leaves L bytes left
leaves_behind piece bytes rest L M left parted on off at = record {
  front = piece ++ at.front;
  rest = at.rest;
  parts = record { parted = parted ∙ ap (λ (t : List ℕ). piece ++ t) at.parts.parted ∙ sym (append_assoc piece at.front at.rest); long = at.parts.long };
  more = at.more;
  begins = subst L (sym (append_assoc piece at.front at.more)) (on (at.front ++ at.more) at.begins);
  none = λ goes. at.none (off rest (subst L parted goes));
  breaks = λ b others after here goes. at.breaks b others after here (off (at.front ++ b ∷ after) (subst L (append_assoc piece at.front (b ∷ after)) goes));
}

pub refuses_behind : (piece bytes rest : List ℕ) (L M : List ℕ → Type 0) (e : Refused) → bytes ≡ piece ++ rest →
    ((text : List ℕ) → M text → L (piece ++ text)) → ((text : List ℕ) → L (piece ++ text) → M text) → Refuses M rest e → Refuses L bytes e
refuses_behind piece bytes rest L M (Form left) parted on off at = leaves_behind piece bytes rest L M left parted on off at
refuses_behind piece bytes rest L M Memory parted on off at = tt

-- the pieces: a word, a number's line, bytes of a size, letters
pub behind_word : (word bytes rest : List ℕ) (L : List ℕ → Type 0) (e : Refused) → bytes ≡ word ++ rest → Refuses L rest e → Refuses (After word L) bytes e
behind_word word bytes rest L e parted at = refuses_behind word bytes rest (After word L) L e parted
    (λ text goes. record { rest = text; parted = refl; goes = goes })
    (λ text goes. subst L (sym (append_cancel_left word text goes.rest goes.parted)) goes.goes) at

line_of : (n : ℕ) (rest : List ℕ) → decimal n ++ 10 ∷ rest ≡ (decimal n ++ 10 ∷ []) ++ rest
line_of n rest = sym (append_assoc (decimal n) (10 ∷ []) rest)

pub behind_number : (low high n : ℕ) (bytes rest : List ℕ) (L : ℕ → List ℕ → Type 0) (e : Refused) → low ≤ n → n ≤ high → high < 2 ^ 64 →
    bytes ≡ decimal n ++ 10 ∷ rest → Refuses (L n) rest e → Refuses (Numbered low high L) bytes e
behind_number low high n bytes rest L e least most small parted at =
    refuses_behind (decimal n ++ 10 ∷ []) bytes rest (Numbered low high L) (L n) e (parted ∙ line_of n rest)
    (λ text goes. record { number = n; least = least; most = most; rest = text; parted = sym (line_of n text); goes = goes })
    (λ text goes.
    let same = line_same n goes.number text goes.rest (omega (arith, most, small)) (omega (arith, goes.most, small)) (line_of n text ∙ goes.parted) in
    subst (λ (m : ℕ). L m text) (sym same.0) (subst (λ (t : List ℕ). L goes.number t) (sym same.1) goes.goes)) at

-- two fronts of one length are one
pub same_front : (a b c d : List ℕ) → length a ≡ length b → a ++ c ≡ b ++ d → (a ≡ b) × (c ≡ d)
same_front [] [] c d long e = (refl, e)
same_front [] (y ∷ b) c d long e = absurd (omega (arith, long))
same_front (x ∷ a) [] c d long e = absurd (omega (arith, long))
same_front (x ∷ a) (y ∷ b) c d long e =
    let head : x ≡ y = cc in
    let rest : a ++ c ≡ b ++ d = cc in
    let more = same_front a b c d (omega (arith, long)) rest in
    let front : a ≡ b = more.0 in
    (cc, more.1)

pub behind_sized : (inbox bytes rest : List ℕ) (L : List ℕ → Type 0) (e : Refused) → All (λ b. b < 256) inbox → bytes ≡ inbox ++ rest →
    Refuses L rest e → Refuses (Sized (length inbox) L) bytes e
behind_sized inbox bytes rest L e small parted at =
    refuses_behind inbox bytes rest (Sized (length inbox) L) L e parted
    (λ text goes. record { bytes = inbox; small = small; long = refl; rest = text; parted = refl; goes = goes })
    (λ text goes. subst L (sym (same_front inbox goes.bytes text goes.rest (sym goes.long) goes.parted).1) goes.goes) at

pub behind_letters : (k : ℕ) (turns bytes rest : List ℕ) (L : List ℕ → Type 0) (e : Refused) → All (λ turn. turn < k) turns → bytes ≡ map letter turns ++ rest →
    Refuses L rest e → Refuses (Lettered k (length turns) L) bytes e
behind_letters k turns bytes rest L e known parted at =
    refuses_behind (map letter turns) bytes rest (Lettered k (length turns) L) L e parted
    (λ text goes. record { turns = turns; known = known; long = refl; rest = text; parted = refl; goes = goes })
    (λ text goes. subst L (sym (same_front (map letter turns) (map letter goes.turns) text goes.rest (lengths goes.turns goes.long) goes.parted).1) goes.goes) at where
      lengths : (others : List ℕ) → length others ≡ length turns → length (map letter turns) ≡ length (map letter others)
      lengths others long = omega (arith, long, length_letters turns, length_letters others) where
        length_letters : (ts : List ℕ) → length (map letter ts) ≡ length ts
        length_letters [] = refl
        length_letters (t ∷ ts) = omega (arith, length_letters ts)
