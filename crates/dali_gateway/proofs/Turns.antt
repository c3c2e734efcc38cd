use Rattle.std.proofs.Common.{◌≡◌, ◌∙◌, ℕ, zero, suc, List, [], ◌∷◌, ◌++◌, drop, get_or, set, map, refl, sym, ap}
use Rattle.std.proofs.lemmas.List.{map-set, set-get_or}
use Rattle.dali_line.specs.Commands.{commands}
use Rattle.dali_gateway.specs.Gateway.{Box, queue, unopened, pending}
use Rattle.dali_gateway.specs.Merge.{first_text, queue_of, merged}

-- A turn over the inboxes of a gate.

queue_at : (boxes : List Box) (turn : ℕ) → queue_of (map queue boxes) turn ≡ queue (get_or boxes turn (unopened []))
queue_at [] turn = refl
queue_at (box ∷ boxes) zero = refl
queue_at (box ∷ boxes) (suc turn) = queue_at boxes turn

one_turn : (boxes : List Box) (turn : ℕ) (turns : List ℕ) (found : List (List ℕ)) → queue (get_or boxes turn (unopened [])) ≡ found →
    merged (map queue boxes) (turn ∷ turns) ≡ first_text found ++ merged (set (map queue boxes) turn (drop 1 found)) turns
one_turn boxes turn turns found is =
    ap (λ (q : List (List ℕ)). first_text q ++ merged (set (map queue boxes) turn (drop 1 q)) turns) (queue_at boxes turn ∙ is)

-- a turn that finds its queue used up
pub turn_none : (boxes : List Box) (turn : ℕ) (turns : List ℕ) → commands (get_or boxes turn (unopened [])).left ≡ [] →
    merged (map queue boxes) (turn ∷ turns) ≡ merged (map queue boxes) turns
turn_none boxes turn turns is =
    one_turn boxes turn turns [] is
    ∙ ap (λ (q : List (List ℕ)). merged (set (map queue boxes) turn q) turns) (sym (queue_at boxes turn ∙ is))
    ∙ ap (λ (qs : List (List (List ℕ))). merged qs turns) (set-get_or (map queue boxes) turn [])

-- a turn that opens a command
pub turn_some : (boxes : List Box) (turn : ℕ) (turns : List ℕ) (box : Box) → commands (get_or boxes turn (unopened [])).left ≡ box.open_ ∷ commands box.left →
    merged (map queue boxes) (turn ∷ turns) ≡ pending box.open_ 2 ++ merged (map queue (set boxes turn box)) turns
turn_some boxes turn turns box is =
    one_turn boxes turn turns (box.open_ ∷ commands box.left) is
    ∙ ap (λ (qs : List (List (List ℕ))). pending box.open_ 2 ++ merged qs turns) (sym (map-set queue boxes turn box))
