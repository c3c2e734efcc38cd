use Rattle.std.proofs.Common.{◌≡◌, ◌∙◌, ℕ, ◌+◌, ◌<◌, ◌≤◌, zero, suc, List, [], ◌∷◌, ◌++◌, length, replicate, map, refl, sym, subst, arith, append_assoc}
use Rattle.std.proofs.lemmas.List.{length-replicate}
use Rattle.std.proofs.lemmas.List.Elements.{All-replicate, All-head, All-tail}
use Rattle.std.specs.List.{All, flat_map}
use Rattle.std.specs.Prelude.{codes, decimal}
use Rattle.dali_gateway.specs.Form.{IsInbox, inbox_text, letter}
use Rattle.dali_gateway.specs.Language.{After, Numbered, Sized, Lettered, AtEnd, Ended, Tail}
use Rattle.dali_gateway.specs.Limits.{most_inbox, most_turns}
use Rattle.dali_gateway.specs.Refusal.{Refuses}
use Rattle.dali_gateway.specs.declared.refusal.Refused.{Refused}
use Rattle.dali_gateway.proofs.Leaving.{Some_, behind_word, behind_number, behind_sized}

-- Each place of a gateway input can be gone on from.

pub some_ended : (L : List ℕ → Type 0) → Some_ L → Some_ (Ended L)
some_ended L some = (10 ∷ some.0, record { rest = some.0; parted = refl; goes = some.1 })

pub some_letters : (k count : ℕ) → 1 ≤ k → Some_ (Lettered k count (Ended AtEnd))
some_letters k count inboxes =
    let end = some_ended AtEnd ([], refl) in
    let turns = replicate count 0 in (
      map letter turns ++ end.0,
      record {
        turns = turns;
        known = All-replicate (λ t. t < k) count 0 (omega (arith, inboxes));
        long = length-replicate count 0;
        rest = end.0;
        parted = refl;
        goes = end.1;
      },
    )

pub some_turns : (k n : ℕ) → 1 ≤ k → 0 ≤ n → n ≤ most_turns → Some_ (Lettered k n (Ended AtEnd))
some_turns k n inboxes least most = some_letters k n inboxes

some_number : (low high n : ℕ) (L : ℕ → List ℕ → Type 0) → low ≤ n → n ≤ high → Some_ (L n) → Some_ (Numbered low high L)
some_number low high n L least most some = (decimal n ++ 10 ∷ some.0, record { number = n; least = least; most = most; rest = some.0; parted = refl; goes = some.1 })

some_word : (word : List ℕ) (L : List ℕ → Type 0) → Some_ L → Some_ (After word L)
some_word word L some = (word ++ some.0, record { rest = some.0; parted = refl; goes = some.1 })

pub some_sized : (size : ℕ) (L : List ℕ → Type 0) → Some_ L → Some_ (Sized size L)
some_sized size L some =
    let zeros = replicate size 0 in (
      zeros ++ some.0,
      record {
        bytes = zeros;
        small = All-replicate (λ b. b < 256) size 0 (omega arith);
        long = length-replicate size 0;
        rest = some.0;
        parted = refl;
        goes = some.1;
      },
    )

pub some_tail : (k n : ℕ) → 1 ≤ k → Some_ (Tail k n)
some_tail k zero inboxes =
    some_word (codes "TURNS,") (Numbered 0 most_turns (λ t. Lettered k t (Ended AtEnd)))
    (some_number 0 most_turns 0 (λ t. Lettered k t (Ended AtEnd)) (omega arith) (omega arith) (some_letters k 0 inboxes))
some_tail k (suc n) inboxes =
    some_word (codes "INBOX,") (Numbered 0 most_inbox (λ m. Sized m (Ended (Tail k n))))
    (some_number 0 most_inbox 0 (λ m. Sized m (Ended (Tail k n))) (omega arith) (omega arith)
    (some_sized 0 (Ended (Tail k n)) (some_ended (Tail k n) (some_tail k n inboxes))))

pub some_counted : (k : ℕ) → 1 ≤ k → Some_ (Numbered 0 most_turns (λ t. Lettered k t (Ended AtEnd)))
some_counted k inboxes = some_number 0 most_turns 0 (λ t. Lettered k t (Ended AtEnd)) (omega arith) (omega arith) (some_letters k 0 inboxes)

pub some_sizes : (k n : ℕ) → 1 ≤ k → Some_ (Numbered 0 most_inbox (λ m. Sized m (Ended (Tail k n))))
some_sizes k n inboxes =
    some_number 0 most_inbox 0 (λ m. Sized m (Ended (Tail k n))) (omega arith) (omega arith)
    (some_sized 0 (Ended (Tail k n)) (some_ended (Tail k n) (some_tail k n inboxes)))

-- an inbox was met
pub behind_inbox : (k n : ℕ) (inbox bytes rest : List ℕ) (e : Refused) → IsInbox inbox → bytes ≡ inbox_text inbox ++ rest →
    Refuses (Tail k n) rest e → Refuses (Tail k (suc n)) bytes e
behind_inbox k n inbox bytes rest e is parted at =
    behind_word (codes "INBOX,") bytes line (Numbered 0 most_inbox (λ m. Sized m (Ended (Tail k n)))) e parted
    (behind_number 0 most_inbox (length inbox) line body (λ m. Sized m (Ended (Tail k n))) e (omega arith) is.size (omega arith) (append_assoc (decimal (length inbox)) (10 ∷ (inbox ++ 10 ∷ [])) rest)
    (behind_sized inbox body (10 ∷ rest) (Ended (Tail k n)) e is.small (append_assoc inbox (10 ∷ []) rest)
    (behind_word (10 ∷ []) (10 ∷ rest) rest (Tail k n) e refl at))) where
      line : List ℕ
      line = (decimal (length inbox) ++ 10 ∷ (inbox ++ 10 ∷ [])) ++ rest

      body : List ℕ
      body = (inbox ++ 10 ∷ []) ++ rest

-- several inboxes were met
pub behind_inboxes : (xs : List (List ℕ)) (k n m : ℕ) (bytes rest : List ℕ) (e : Refused) → All IsInbox xs → m ≡ length xs + n →
    bytes ≡ flat_map inbox_text xs ++ rest → Refuses (Tail k n) rest e → Refuses (Tail k m) bytes e
behind_inboxes [] k n m bytes rest e each count parted at =
    let same : n ≡ m = omega (arith, count) in
    subst (λ (j : ℕ). Refuses (Tail k j) bytes e) same (subst (λ (t : List ℕ). Refuses (Tail k n) t e) (sym parted) at)
behind_inboxes (x ∷ xs) k n zero bytes rest e each count parted at = absurd (omega (arith, count))
behind_inboxes (x ∷ xs) k n (suc m) bytes rest e each count parted at =
    behind_inbox k m x bytes (flat_map inbox_text xs ++ rest) e (All-head IsInbox x xs each) (parted ∙ append_assoc (inbox_text x) (flat_map inbox_text xs) rest)
    (behind_inboxes xs k n m (flat_map inbox_text xs ++ rest) rest e (All-tail IsInbox x xs each) (omega (arith, count)) refl at)
