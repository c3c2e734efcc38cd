use Rattle.std.proofs.Common.{◌≡◌, ◌∙◌, ℕ, ◌+◌, ◌<◌, ◌≤◌, zero, suc, List, [], ◌∷◌, ◌++◌, length, take, get_or, set, map, refl, sym, ap, arith, append_assoc}
use Rattle.std.proofs.lemmas.List.{get_or-set_same, length-take-le, length-append, take-append-le}
use Rattle.dali_line.specs.Commands.{commands}
use Rattle.dali_gateway.specs.Gateway.{Box, queue, whole_of, unopened, pending}
use Rattle.dali_gateway.specs.Merge.{merged}

-- Bytes of an open command are given.

-- a place of a list that is written with what stands there, as far as it is seen
same_seen : {X : Type 0} (f : Box → X) (boxes : List Box) (at : ℕ) (box : Box) → f box ≡ f (get_or boxes at (unopened [])) → map f (set boxes at box) ≡ map f boxes
same_seen f [] at box same = refl
same_seen f (b ∷ boxes) zero box same = ap (λ x. x ∷ map f boxes) same
same_seen f (b ∷ boxes) (suc at) box same = ap (λ xs. f b ∷ xs) (same_seen f boxes at box same)

pub same_whole : (boxes : List Box) (at : ℕ) (box : Box) → box.whole ≡ (get_or boxes at (unopened [])).whole → map whole_of (set boxes at box) ≡ map whole_of boxes
same_whole boxes at box same = same_seen whole_of boxes at box same

pub same_queues : (boxes : List Box) (at : ℕ) (box : Box) → box.left ≡ (get_or boxes at (unopened [])).left → map queue (set boxes at box) ≡ map queue boxes
same_queues boxes at box same = same_seen queue boxes at box (ap commands same)

-- the bytes left behind a front of an open command
pub gave : (boxes : List Box) (giver ending n : ℕ) (box : Box) (front : List ℕ) (turns : List ℕ) → giver < length boxes →
    box.left ≡ (get_or boxes giver (unopened [])).left →
    pending (get_or boxes giver (unopened [])).open_ ending ≡ front ++ pending box.open_ n →
    pending (get_or boxes giver (unopened [])).open_ ending ++ merged (map queue boxes) turns
    ≡ front ++ (pending (get_or (set boxes giver box) giver (unopened [])).open_ n ++ merged (map queue (set boxes giver box)) turns)
gave boxes giver ending n box front turns within same moved =
    ap (λ (t : List ℕ). t ++ merged (map queue boxes) turns) moved
    ∙ append_assoc front (pending box.open_ n) (merged (map queue boxes) turns)
    ∙ ap (λ (b : Box). front ++ (pending b.open_ n ++ merged (map queue boxes) turns)) (sym (get_or-set_same boxes giver box (unopened []) within))
    ∙ ap (λ (qs : List (List (List ℕ))). front ++ (pending (get_or (set boxes giver box) giver (unopened [])).open_ n ++ merged qs turns)) (sym (same_queues boxes giver box same))

-- nothing is open
pub none_open : (open_ : List ℕ) (ending : ℕ) (rest : List ℕ) → ending ≡ 0 → pending open_ ending ++ rest ≡ rest
none_open open_ ending rest none = ap (λ (n : ℕ). pending open_ n ++ rest) none

-- one piece behind another
take_beyond : (front rest : List ℕ) (m n : ℕ) → m ≡ length front + n → take m (front ++ rest) ≡ front ++ take n rest
take_beyond [] rest m n is = let same : m ≡ n = omega (arith, is) in ap (λ (k : ℕ). take k rest) same
take_beyond (x ∷ front) rest zero n is = absurd (omega (arith, is))
take_beyond (x ∷ front) rest (suc m) n is = ap (λ (t : List ℕ). x ∷ t) (take_beyond front rest m n (omega (arith, is)))

pub filled_more : (into piece behind : List ℕ) (at n : ℕ) → at ≤ length into → n ≤ length piece → take (at + n) (take at into ++ (piece ++ behind)) ≡ take at into ++ take n piece
filled_more into piece behind at n within room =
    take_beyond (take at into) (piece ++ behind) (at + n) n (omega (arith, length-take-le at into within))
    ∙ ap (λ (t : List ℕ). take at into ++ t) (take-append-le n piece behind room)

pub filled_within : (into piece behind : List ℕ) (at n : ℕ) → at ≤ length into → n ≤ length piece → at + n ≤ length (take at into ++ (piece ++ behind))
filled_within into piece behind at n within room =
    omega (arith, length-take-le at into within, length-append (take at into) (piece ++ behind), length-append piece behind, room)

pub left_more : (old front piece left rest : List ℕ) → old ≡ front ++ left → left ≡ piece ++ rest → old ≡ (front ++ piece) ++ rest
left_more old front piece left rest one two = one ∙ ap (λ (t : List ℕ). front ++ t) two ∙ sym (append_assoc front piece rest)
