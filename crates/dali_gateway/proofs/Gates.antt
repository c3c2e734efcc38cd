use Rattle.std.proofs.Common.{◌≡◌, ◌∙◌, ℕ, ◌-◌, ◌<◌, ◌≤◌, zero, suc, List, [], ◌∷◌, ◌++◌, length, map, take, refl, sym, ap, subst, arith, append_assoc}
use Rattle.std.proofs.lemmas.List.{append_cancel_left, append_cancel_right, length-append, take_at}
use Rattle.std.proofs.lemmas.List.Elements.{All-nil, All-cons, All-head, All-tail}
use Rattle.std.specs.List.{All, flat_map}
use Rattle.std.specs.Prelude.{codes, decimal}
use Rattle.dali_gateway.specs.Form.{IsInbox, Spells, BeginsGate, IsFormPlace, inbox_text, turns_text, letter}
use Rattle.dali_gateway.specs.Language.{Tail, Whole}
use Rattle.dali_gateway.specs.Limits.{most_turns}
use Rattle.dali_gateway.specs.Refusal.{Leaves}
use Rattle.dali_gateway.proofs.Numbers.{line_same}
use Rattle.dali_gateway.proofs.Leaving.{same_front}

-- The texts that are met piece by piece are the gateway inputs.

inbox_then : (inbox rest : List ℕ) → inbox_text inbox ++ rest ≡ codes "INBOX," ++ (decimal (length inbox) ++ 10 ∷ (inbox ++ 10 ∷ rest))
inbox_then inbox rest = ap (λ (t : List ℕ). codes "INBOX," ++ t)
    (append_assoc (decimal (length inbox)) (10 ∷ (inbox ++ 10 ∷ [])) rest ∙ ap (λ (t : List ℕ). decimal (length inbox) ++ 10 ∷ t) (append_assoc inbox (10 ∷ []) rest))

record Boxed (k n : ℕ) (text : List ℕ) : Type 0 where
  inboxes : List (List ℕ)
  turns : List ℕ
  long : length inboxes ≡ n
  each : All IsInbox inboxes
  count : length turns ≤ most_turns
  known : All (λ turn. turn < k) turns
  spelled : text ≡ flat_map inbox_text inboxes ++ turns_text turns

boxed : (k n : ℕ) (text : List ℕ) → Tail k n text → Boxed k n text
boxed k zero text tail =
    let number = tail.goes in
    let letters = number.goes in
    let end = letters.goes in
    record {
      inboxes = [];
      turns = letters.turns;
      long = refl;
      each = All-nil IsInbox;
      count = omega (arith, letters.long, number.most);
      known = letters.known;
      spelled = tail.parted ∙ ap (λ (t : List ℕ). codes "TURNS," ++ t)
          (number.parted ∙ ap (λ (t : List ℕ). decimal number.number ++ 10 ∷ t) (letters.parted ∙ ap (λ (t : List ℕ). map letter letters.turns ++ t) (end.parted ∙ ap (λ (t : List ℕ). 10 ∷ t) end.goes))
          ∙ ap (λ (m : ℕ). decimal m ++ 10 ∷ (map letter letters.turns ++ 10 ∷ [])) (sym letters.long));
    }
boxed k (suc n) text tail =
    let number = tail.goes in
    let body = number.goes in
    let end = body.goes in
    let more = boxed k n end.rest end.goes in
    record {
      inboxes = body.bytes ∷ more.inboxes;
      turns = more.turns;
      long = omega (arith, more.long);
      each = All-cons IsInbox body.bytes more.inboxes (record { small = body.small; size = omega (arith, body.long, number.most) }) more.each;
      count = more.count;
      known = more.known;
      spelled = tail.parted ∙ ap (λ (t : List ℕ). codes "INBOX," ++ t)
          (number.parted ∙ ap (λ (t : List ℕ). decimal number.number ++ 10 ∷ t) (body.parted ∙ ap (λ (t : List ℕ). body.bytes ++ t) (end.parted ∙ ap (λ (t : List ℕ). 10 ∷ t) more.spelled))
          ∙ ap (λ (m : ℕ). decimal m ++ 10 ∷ (body.bytes ++ 10 ∷ (flat_map inbox_text more.inboxes ++ turns_text more.turns))) (sym body.long))
          ∙ sym (inbox_then body.bytes (flat_map inbox_text more.inboxes ++ turns_text more.turns))
          ∙ sym (append_assoc (inbox_text body.bytes) (flat_map inbox_text more.inboxes) (turns_text more.turns));
    }

tailed : (k : ℕ) (inboxes : List (List ℕ)) (turns : List ℕ) → All IsInbox inboxes → length turns ≤ most_turns → All (λ turn. turn < k) turns →
    Tail k (length inboxes) (flat_map inbox_text inboxes ++ turns_text turns)
tailed k [] turns each count known = record {
  rest = decimal (length turns) ++ 10 ∷ (map letter turns ++ 10 ∷ []);
  parted = refl;
  goes = record {
    number = length turns;
    least = omega arith;
    most = count;
    rest = map letter turns ++ 10 ∷ [];
    parted = refl;
    goes = record { turns = turns; known = known; long = refl; rest = 10 ∷ []; parted = refl; goes = record { rest = []; parted = refl; goes = refl } };
  };
}
tailed k (inbox ∷ inboxes) turns each count known =
    let rest = flat_map inbox_text inboxes ++ turns_text turns in
    let is = All-head IsInbox inbox inboxes each in
    record {
      rest = decimal (length inbox) ++ 10 ∷ (inbox ++ 10 ∷ rest);
      parted = append_assoc (inbox_text inbox) (flat_map inbox_text inboxes) (turns_text turns) ∙ inbox_then inbox rest;
      goes = record {
        number = length inbox;
        least = omega arith;
        most = is.size;
        rest = inbox ++ 10 ∷ rest;
        parted = refl;
        goes = record {
          bytes = inbox;
          small = is.small;
          long = refl;
          rest = 10 ∷ rest;
          parted = refl;
          goes = record { rest = rest; parted = refl; goes = tailed k inboxes turns (All-tail IsInbox inbox inboxes each) count known };
        };
      };
    }

pub whole_gate : (text : List ℕ) → Whole text → (inboxes : List (List ℕ)) × (turns : List ℕ) × Spells text inboxes turns
whole_gate text whole =
    let number = whole.goes in
    let boxes = boxed number.number number.number number.rest number.goes in (
      boxes.inboxes,
      boxes.turns,
      record {
        gate = record {
          some = omega (arith, boxes.long, number.least);
          few = omega (arith, boxes.long, number.most);
          each = boxes.each;
          count = boxes.count;
          known = subst (λ (k : ℕ). All (λ turn. turn < k) boxes.turns) (sym boxes.long) boxes.known;
        };
        text = whole.parted ∙ ap (λ (t : List ℕ). codes "GATE," ++ t)
            (number.parted ∙ ap (λ (t : List ℕ). decimal number.number ++ 10 ∷ t) boxes.spelled
            ∙ ap (λ (m : ℕ). decimal m ++ 10 ∷ (flat_map inbox_text boxes.inboxes ++ turns_text boxes.turns)) (sym boxes.long));
      },
    )

pub gate_whole : (text : List ℕ) (inboxes : List (List ℕ)) (turns : List ℕ) → Spells text inboxes turns → Whole text
gate_whole text inboxes turns spells = record {
  rest = decimal (length inboxes) ++ 10 ∷ (flat_map inbox_text inboxes ++ turns_text turns);
  parted = spells.text;
  goes = record {
    number = length inboxes;
    least = spells.gate.some;
    most = spells.gate.few;
    rest = flat_map inbox_text inboxes ++ turns_text turns;
    parted = refl;
    goes = tailed (length inboxes) inboxes turns spells.gate.each spells.gate.count spells.gate.known;
  };
}

-- a gateway input is that of one list of inboxes and one of turns
same_letters : (xs ys : List ℕ) → map letter xs ≡ map letter ys → xs ≡ ys
same_letters [] [] e = refl
same_letters [] (y ∷ ys) e = absurd cc
same_letters (x ∷ xs) [] e = absurd cc
same_letters (x ∷ xs) (y ∷ ys) e =
    let head : letter x ≡ letter y = cc in
    let first : x ≡ y = omega (arith, head) in
    let rest : xs ≡ ys = same_letters xs ys (let tail : map letter xs ≡ map letter ys = cc in tail) in
    cc

same_turns : (xs ys : List ℕ) → length xs ≤ most_turns → length ys ≤ most_turns → turns_text xs ≡ turns_text ys → xs ≡ ys
same_turns xs ys few less e =
    let lines = line_same (length xs) (length ys) (map letter xs ++ 10 ∷ []) (map letter ys ++ 10 ∷ []) (omega (arith, few)) (omega (arith, less)) (append_cancel_left (codes "TURNS,") _ _ e) in
    same_letters xs ys (append_cancel_right (map letter xs) (map letter ys) (10 ∷ []) lines.1)

same_inbox : (x y c d : List ℕ) → IsInbox x → IsInbox y → inbox_text x ++ c ≡ inbox_text y ++ d → (x ≡ y) × (c ≡ d)
same_inbox x y c d is also_is e =
    let lines = line_same (length x) (length y) (x ++ 10 ∷ c) (y ++ 10 ∷ d) (omega (arith, is.size)) (omega (arith, also_is.size))
    (append_cancel_left (codes "INBOX,") _ _ (sym (inbox_then x c) ∙ e ∙ inbox_then y d)) in
    let bodies = same_front x y (10 ∷ c) (10 ∷ d) lines.0 lines.1 in
    (bodies.0, append_cancel_left (10 ∷ []) c d bodies.1)

same_inboxes : (xs ys : List (List ℕ)) (c d : List ℕ) → length xs ≡ length ys → All IsInbox xs → All IsInbox ys →
    flat_map inbox_text xs ++ c ≡ flat_map inbox_text ys ++ d → (xs ≡ ys) × (c ≡ d)
same_inboxes [] [] c d long is also_are e = (refl, e)
same_inboxes [] (y ∷ ys) c d long is also_are e = absurd (omega (arith, long))
same_inboxes (x ∷ xs) [] c d long is also_are e = absurd (omega (arith, long))
same_inboxes (x ∷ xs) (y ∷ ys) c d long is also_are e =
    let first = same_inbox x y (flat_map inbox_text xs ++ c) (flat_map inbox_text ys ++ d) (All-head IsInbox x xs is) (All-head IsInbox y ys also_are)
    (sym (append_assoc (inbox_text x) (flat_map inbox_text xs) c) ∙ e ∙ append_assoc (inbox_text y) (flat_map inbox_text ys) d) in
    let others = same_inboxes xs ys c d (omega (arith, long)) (All-tail IsInbox x xs is) (All-tail IsInbox y ys also_are) first.1 in
    (ap (λ (b : List ℕ). b ∷ xs) first.0 ∙ ap (λ (bs : List (List ℕ)). y ∷ bs) others.0, others.1)

pub same_gate : (bytes : List ℕ) (xs ys : List (List ℕ)) (ts us : List ℕ) → Spells bytes xs ts → Spells bytes ys us → (xs ≡ ys) × (ts ≡ us)
same_gate bytes xs ys ts us one two =
    let lines = line_same (length xs) (length ys) (flat_map inbox_text xs ++ turns_text ts) (flat_map inbox_text ys ++ turns_text us)
    (omega (arith, one.gate.few)) (omega (arith, two.gate.few)) (append_cancel_left (codes "GATE,") _ _ (sym one.text ∙ two.text)) in
    let boxes = same_inboxes xs ys (turns_text ts) (turns_text us) lines.0 one.gate.each two.gate.each lines.1 in
    (boxes.0, same_turns ts us one.gate.count two.gate.count boxes.1)

-- The place from which the bytes aren't met is the place of Form.
begins_gate : (front more : List ℕ) → Whole (front ++ more) → BeginsGate front
begins_gate front more whole =
    let gate = whole_gate (front ++ more) whole in
    record { inboxes = gate.0; turns = gate.1; gate = gate.2.gate; more = more; text = sym gate.2.text }

begun_whole : (front : List ℕ) → (at : BeginsGate front) → Whole (front ++ at.more)
begun_whole front at = gate_whole (front ++ at.more) at.inboxes at.turns (record { gate = at.gate; text = sym at.text })

-- a longer front has the next byte
longer_front : (front rest : List ℕ) (n : ℕ) → length front < n → n ≤ length (front ++ rest) →
    (b : ℕ) × (behind : List ℕ) × (after : List ℕ) × (rest ≡ b ∷ behind) × (take n (front ++ rest) ≡ front ++ b ∷ after)
longer_front [] [] n longer within = absurd (omega (arith, longer, within))
longer_front [] (b ∷ rest) zero longer within = absurd (omega (arith, longer))
longer_front [] (b ∷ rest) (suc n) longer within = (b, rest, take n rest, refl, refl)
longer_front (x ∷ front) rest zero longer within = absurd (omega (arith, longer))
longer_front (x ∷ front) rest (suc n) longer within =
    let more = longer_front front rest n (omega (arith, longer)) (omega (arith, within)) in
    (more.0, more.1, more.2, more.3, ap (λ (t : List ℕ). x ∷ t) more.4)

pub form_place : (bytes : List ℕ) (left : ℕ) → Leaves Whole bytes left → IsFormPlace bytes (length bytes - left)
form_place bytes left at = record {
  none = λ inboxes turns spells. at.none (gate_whole bytes inboxes turns spells);
  within = omega arith;
  begins = subst BeginsGate (sym front_is) (begins_gate at.front at.more at.begins);
  longest = λ n longer within begun.
      let next = longer_front at.front at.rest n (omega (arith, longer, place)) (omega (arith, within, ap length at.parts.parted)) in
      let front : take n bytes ≡ at.front ++ next.0 ∷ next.2 = ap (take n) at.parts.parted ∙ next.4 in
      let whole = subst (λ (t : List ℕ). Whole (t ++ begun.more)) front (begun_whole (take n bytes) begun) in
      at.breaks next.0 next.1 (next.2 ++ begun.more) next.3 (subst Whole (append_assoc at.front (next.0 ∷ next.2) begun.more) whole);
} where
  place : length bytes - left ≡ length at.front
  place = omega (arith, ap length at.parts.parted, length-append at.front at.rest, at.parts.long)

  front_is : take (length bytes - left) bytes ≡ at.front
  front_is = ap (λ (n : ℕ). take n bytes) place ∙ ap (take (length at.front)) at.parts.parted ∙ take_at at.front at.rest (length at.front) refl
