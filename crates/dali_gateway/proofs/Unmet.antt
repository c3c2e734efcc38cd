use Rattle.std.proofs.Common.{◌≡◌, ℕ, ◌<◌, ◌≤◌, zero, suc, List, [], ◌∷◌, ◌++◌, length, map, refl, subst, arith}
use Rattle.std.specs.List.{All, flat_map}
use Rattle.std.specs.Prelude.{codes, decimal}
use Rattle.dali_gateway.specs.Form.{IsInbox, inbox_text, letter}
use Rattle.dali_gateway.specs.Language.{Numbered, Sized, Lettered, AtEnd, Ended, Tail, Whole}
use Rattle.dali_gateway.specs.Limits.{most_inboxes, most_inbox, most_turns}
use Rattle.dali_gateway.specs.Refusal.{RefusesWord, RefusesNumber, Refuses}
use Rattle.dali_gateway.specs.declared.refusal.Refused.{Refused}
use Rattle.dali_gateway.proofs.Leaving.{Some_, refuses_word, refuses_number, behind_word, behind_number, behind_sized, behind_letters}
use Rattle.dali_gateway.proofs.Tails.{some_ended, some_turns, some_sized, some_tail, some_counted, some_sizes, behind_inboxes}

-- Where each piece of an inbox isn't met.

abbrev Sizes : ℕ → ℕ → ℕ → List ℕ → Type 0
Sizes k n size = Sized size (Ended (Tail k n))

some_size : (k n size : ℕ) → 1 ≤ k → Some_ (Sizes k n size)
some_size k n size some = some_sized size (Ended (Tail k n)) (some_ended (Tail k n) (some_tail k n some))

pub inbox_head : (k n : ℕ) (bytes : List ℕ) (e : Refused) → 1 ≤ k → RefusesWord (codes "INBOX,") bytes e → Refuses (Tail k (suc n)) bytes e
inbox_head k n bytes e some at = refuses_word (codes "INBOX,") bytes (Numbered 0 most_inbox (Sizes k n)) e (some_sizes k n some) at

pub inbox_size : (k n : ℕ) (bytes line : List ℕ) (e : Refused) → 1 ≤ k → bytes ≡ codes "INBOX," ++ line → RefusesNumber 0 most_inbox line e →
    Refuses (Tail k (suc n)) bytes e
inbox_size k n bytes line e some head at =
    behind_word (codes "INBOX,") bytes line (Numbered 0 most_inbox (Sizes k n)) e head
    (refuses_number 0 most_inbox line (Sizes k n) e (omega arith) (omega arith) (omega arith) (λ m least most. some_size k n m some) at)

pub inbox_body : (k n size : ℕ) (bytes line body : List ℕ) (e : Refused) → size ≤ most_inbox → bytes ≡ codes "INBOX," ++ line → line ≡ decimal size ++ 10 ∷ body →
    Refuses (Sized size (Ended (Tail k n))) body e → Refuses (Tail k (suc n)) bytes e
inbox_body k n size bytes line body e most head number at =
    behind_word (codes "INBOX,") bytes line (Numbered 0 most_inbox (Sizes k n)) e head
    (behind_number 0 most_inbox size line body (Sizes k n) e (omega arith) most (omega arith) number at)

pub inbox_end : (k n size : ℕ) (bytes line body inbox end : List ℕ) (e : Refused) → 1 ≤ k → size ≤ most_inbox → bytes ≡ codes "INBOX," ++ line →
    line ≡ decimal size ++ 10 ∷ body → All (λ b. b < 256) inbox → length inbox ≡ size → body ≡ inbox ++ end → RefusesWord (10 ∷ []) end e → Refuses (Tail k (suc n)) bytes e
inbox_end k n size bytes line body inbox end e some most head number small long parted at =
    inbox_body k n size bytes line body e most head number
    (subst (λ (m : ℕ). Refuses (Sized m (Ended (Tail k n))) body e) long
    (behind_sized inbox body end (Ended (Tail k n)) e small parted (refuses_word (10 ∷ []) end (Tail k n) e (some_tail k n some) at)))

-- Where each piece of the turns isn't met.

abbrev Letters : ℕ → ℕ → List ℕ → Type 0
Letters k count = Lettered k count (Ended AtEnd)

pub turns_head : (k : ℕ) (bytes : List ℕ) (e : Refused) → 1 ≤ k → RefusesWord (codes "TURNS,") bytes e → Refuses (Tail k zero) bytes e
turns_head k bytes e some at = refuses_word (codes "TURNS,") bytes (Numbered 0 most_turns (Letters k)) e (some_counted k some) at

pub turns_count : (k : ℕ) (bytes line : List ℕ) (e : Refused) → 1 ≤ k → bytes ≡ codes "TURNS," ++ line → RefusesNumber 0 most_turns line e → Refuses (Tail k zero) bytes e
turns_count k bytes line e some head at =
    behind_word (codes "TURNS,") bytes line (Numbered 0 most_turns (Letters k)) e head
    (refuses_number 0 most_turns line (Letters k) e (omega arith) (omega arith) (omega arith) (λ m least most. some_turns k m some least most) at)

pub turns_letters : (k count : ℕ) (bytes line letters : List ℕ) (e : Refused) → count ≤ most_turns → bytes ≡ codes "TURNS," ++ line →
    line ≡ decimal count ++ 10 ∷ letters → Refuses (Lettered k count (Ended AtEnd)) letters e → Refuses (Tail k zero) bytes e
turns_letters k count bytes line letters e most head number at =
    behind_word (codes "TURNS,") bytes line (Numbered 0 most_turns (Letters k)) e head
    (behind_number 0 most_turns count line letters (Letters k) e (omega arith) most (omega arith) number at)

turns_behind : (k count : ℕ) (bytes line letters turns end : List ℕ) (e : Refused) → count ≤ most_turns → bytes ≡ codes "TURNS," ++ line →
    line ≡ decimal count ++ 10 ∷ letters → All (λ turn. turn < k) turns → length turns ≡ count → letters ≡ map letter turns ++ end → Refuses (Ended AtEnd) end e →
    Refuses (Tail k zero) bytes e
turns_behind k count bytes line letters turns end e most head number known long parted at =
    turns_letters k count bytes line letters e most head number
    (subst (λ (m : ℕ). Refuses (Lettered k m (Ended AtEnd)) letters e) long (behind_letters k turns letters end (Ended AtEnd) e known parted at))

pub turns_end : (k count : ℕ) (bytes line letters turns end : List ℕ) (e : Refused) → count ≤ most_turns → bytes ≡ codes "TURNS," ++ line →
    line ≡ decimal count ++ 10 ∷ letters → All (λ turn. turn < k) turns → length turns ≡ count → letters ≡ map letter turns ++ end → RefusesWord (10 ∷ []) end e →
    Refuses (Tail k zero) bytes e
turns_end k count bytes line letters turns end e most head number known long parted at =
    turns_behind k count bytes line letters turns end e most head number known long parted (refuses_word (10 ∷ []) end AtEnd e ([], refl) at)

pub turns_over : (k count : ℕ) (bytes line letters turns end rest : List ℕ) (e : Refused) → count ≤ most_turns → bytes ≡ codes "TURNS," ++ line →
    line ≡ decimal count ++ 10 ∷ letters → All (λ turn. turn < k) turns → length turns ≡ count → letters ≡ map letter turns ++ end → end ≡ (10 ∷ []) ++ rest →
    Refuses AtEnd rest e → Refuses (Tail k zero) bytes e
turns_over k count bytes line letters turns end rest e most head number known long parted ended at =
    turns_behind k count bytes line letters turns end e most head number known long parted (behind_word (10 ∷ []) end rest AtEnd e ended at)

-- Where each piece of a gateway input isn't met.

abbrev Tails : ℕ → List ℕ → Type 0
Tails k = Tail k k

pub whole_head : (bytes : List ℕ) (e : Refused) → RefusesWord (codes "GATE,") bytes e → Refuses Whole bytes e
whole_head bytes e at =
    let some = some_tail 1 1 (omega arith) in
    refuses_word (codes "GATE,") bytes (Numbered 1 most_inboxes Tails) e
    (decimal 1 ++ 10 ∷ some.0, record { number = 1; least = omega arith; most = omega arith; rest = some.0; parted = refl; goes = some.1 }) at

pub whole_count : (bytes line : List ℕ) (e : Refused) → bytes ≡ codes "GATE," ++ line → RefusesNumber 1 most_inboxes line e → Refuses Whole bytes e
whole_count bytes line e head at =
    behind_word (codes "GATE,") bytes line (Numbered 1 most_inboxes Tails) e head
    (refuses_number 1 most_inboxes line Tails e (omega arith) (omega arith) (omega arith) (λ k least most. some_tail k k least) at)

pub whole_inboxes : (k : ℕ) (bytes line tail : List ℕ) (e : Refused) → 1 ≤ k → k ≤ most_inboxes → bytes ≡ codes "GATE," ++ line → line ≡ decimal k ++ 10 ∷ tail →
    Refuses (Tail k k) tail e → Refuses Whole bytes e
whole_inboxes k bytes line tail e least most head number at =
    behind_word (codes "GATE,") bytes line (Numbered 1 most_inboxes Tails) e head
    (behind_number 1 most_inboxes k line tail Tails e least most (omega arith) number at)

pub whole_turns : (k : ℕ) (bytes line tail : List ℕ) (inboxes : List (List ℕ)) (rest : List ℕ) (e : Refused) → 1 ≤ k → k ≤ most_inboxes → bytes ≡ codes "GATE," ++ line →
    line ≡ decimal k ++ 10 ∷ tail → length inboxes ≡ k → All IsInbox inboxes → tail ≡ flat_map inbox_text inboxes ++ rest → Refuses (Tail k zero) rest e → Refuses Whole bytes e
whole_turns k bytes line tail inboxes rest e least most head number long each parted at =
    whole_inboxes k bytes line tail e least most head number (behind_inboxes inboxes k zero k tail rest e each (omega (arith, long)) parted at)
