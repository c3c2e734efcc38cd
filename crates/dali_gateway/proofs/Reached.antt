use Rattle.std.proofs.Common.{◌≡◌, ◌∙◌, ℕ, ◌+◌, List, [], ◌∷◌, ◌++◌, length, map, refl, sym, ap, subst, append_assoc, append-nil}
use Rattle.std.proofs.lemmas.List.{length-map, length_push, map_push}
use Rattle.std.proofs.lemmas.List.Elements.{All-push}
use Rattle.std.specs.List.{All, flat_map}
use Rattle.dali_line.specs.Commands.{commands}
use Rattle.dali_gateway.specs.Form.{IsInbox, inbox_text}
use Rattle.dali_gateway.specs.Gateway.{Box, whole_of, unopened, queue}
use Rattle.dali_gateway.specs.Merge.{merge, merged}

-- The inboxes as they were met.

pub record Grown (boxes : List Box) (bytes rest : List ℕ) (count : ℕ) : Type 0 where
  pub long : length boxes ≡ count
  pub fresh : boxes ≡ map unopened (map whole_of boxes)
  pub each : All IsInbox (map whole_of boxes)
  pub text : bytes ≡ flat_map inbox_text (map whole_of boxes) ++ rest

pub grown_more : (boxes more : List Box) (inbox bytes rest behind : List ℕ) (count : ℕ) → Grown boxes bytes rest count → more ≡ boxes ++ unopened inbox ∷ [] → IsInbox inbox →
    rest ≡ inbox_text inbox ++ behind → Grown more bytes behind (count + 1)
grown_more boxes more inbox bytes rest behind count before is one text = record {
  long = ap length is ∙ length_push boxes (unopened inbox) ∙ ap (λ (n : ℕ). n + 1) before.long;
  fresh = is ∙ ap (λ (bs : List Box). bs ++ unopened inbox ∷ []) before.fresh ∙ sym (map_push unopened (map whole_of boxes) inbox) ∙ ap (map unopened) (sym wholes);
  each = subst (All IsInbox) (sym wholes) (All-push IsInbox (map whole_of boxes) inbox before.each one);
  text = before.text ∙ ap (λ (t : List ℕ). flat_map inbox_text (map whole_of boxes) ++ t) text
      ∙ sym (append_assoc (flat_map inbox_text (map whole_of boxes)) (inbox_text inbox) behind)
      ∙ ap (λ (t : List ℕ). t ++ behind) (flat_map_more_one (map whole_of boxes) inbox)
      ∙ ap (λ (xs : List (List ℕ)). flat_map inbox_text xs ++ behind) (sym wholes);
} where
  wholes : map whole_of more ≡ map whole_of boxes ++ inbox ∷ []
  wholes = ap (map whole_of) is ∙ map_push whole_of boxes (unopened inbox)

  flat_map_more_one : (xs : List (List ℕ)) (x : List ℕ) → flat_map inbox_text xs ++ inbox_text x ≡ flat_map inbox_text (xs ++ x ∷ [])
  flat_map_more_one [] x = sym (append-nil (inbox_text x))
  flat_map_more_one (y ∷ xs) x = append_assoc (inbox_text y) (flat_map inbox_text xs) (inbox_text x) ∙ ap (λ (t : List ℕ). inbox_text y ++ t) (flat_map_more_one xs x)

queues_fresh : (inboxes : List (List ℕ)) → map queue (map unopened inboxes) ≡ map commands inboxes
queues_fresh [] = refl
queues_fresh (inbox ∷ inboxes) = ap (λ (qs : List (List (List ℕ))). commands inbox ∷ qs) (queues_fresh inboxes)

-- of inboxes of which nothing was taken the merge is left
pub merge_left : (boxes : List Box) (turns : List ℕ) → boxes ≡ map unopened (map whole_of boxes) → merged (map queue boxes) turns ≡ merge (map whole_of boxes) turns
merge_left boxes turns fresh = ap (λ (bs : List Box). merged (map queue bs) turns) fresh ∙ ap (λ (qs : List (List (List ℕ))). merged qs turns) (queues_fresh (map whole_of boxes))

pub count_of : (boxes : List Box) (n : ℕ) → length boxes ≡ n → length (map whole_of boxes) ≡ n
count_of boxes n long = length-map boxes whole_of ∙ long
