use Rattle.std.proofs.Common.{◌≡◌, ℕ, ◌+◌, suc, Bool, true, false, cond, not, true≢false, List, [], ◌∷◌, map, Option, Some, None, is_some, Bor, refl, sym, ap, ◌∙◌, subst, arith}
use Rattle.std.specs.Prelude.{slice_get, unwrap_or, IfSome}
use Rattle.std.specs.List.{All, position_or_len}
use Rattle.std.specs.Option.{option_map, option_copied}
use Rattle.std.proofs.lemmas.List.Elements.{All-tail}
use Rattle.dali_base.specs.Readers.{same_bytes}
use Rattle.dali_queue.specs.declared.instruction.Instruction.{Instruction}
use Rattle.dali_queue.specs.Queue.{Queued, id_of, find, is_queued, item_of, place_in}

some_inside : {X : Type 0} (b : Bool) (x y : X) → cond b (Some x) None ≡ Some y → x ≡ y
some_inside true x y e = ap (λ o. unwrap_or o x) e
some_inside false x y e = absurd (cc)

at_first : (ws : List Queued) (id : List ℕ) → option_map (λ w. w.item) (slice_get ws (position_or_len (same_bytes id) (map id_of ws))) ≡ item_of ws id
at_first [] id = refl
at_first (w ∷ ws) id = by (same_bytes id w.item.id) (at_first ws id)
  where
    by : (b : Bool) → option_map (λ w. w.item) (slice_get ws (position_or_len (same_bytes id) (map id_of ws))) ≡ item_of ws id →
        option_map (λ w. w.item) (slice_get (w ∷ ws) (cond (not b) (1 + position_or_len (same_bytes id) (map id_of ws)) 0)) ≡ option_map (λ w. w.item) (cond b (Some w) (find ws id))
    by true rest = refl
    by false rest =
        let up : 1 + position_or_len (same_bytes id) (map id_of ws) ≡ suc (position_or_len (same_bytes id) (map id_of ws)) = omega arith in
        ap (λ k. option_map (λ w. w.item) (slice_get (w ∷ ws) k)) up ∙ rest

-- the instruction at the place of an id
pub at_place : (ws : List Queued) (id : List ℕ) (place : ℕ) → place_in ws id ≡ Some place → option_map (λ w. w.item) (slice_get ws place) ≡ item_of ws id
at_place ws id place e =
    ap (λ p. option_map (λ w. w.item) (slice_get ws p)) (sym (some_inside _ (position_or_len (same_bytes id) (map id_of ws)) place e)) ∙ at_first ws id

pub none_queued : (ws : List Queued) (id : List ℕ) → is_queued ws id ≡ false → item_of ws id ≡ None
none_queued ws id e = by (find ws id) e
  where
    by : (o : Option Queued) → is_some o ≡ false → option_map (λ w. w.item) o ≡ None
    by None e = refl
    by (Some w) e = absurd (true≢false e)

-- what holds of all queued instructions holds of the one that is found
pub found : (P : Instruction → Type 0) (ws : List Queued) (id : List ℕ) (i : Instruction) → All (λ w. P w.item) ws → item_of ws id ≡ Some i → P i
found P [] id i all e = absurd (cc)
found P (w ∷ ws) id i all e = by (same_bytes id w.item.id) e (found P ws id i (All-tail (λ w. P w.item) w ws all))
  where
    by : (b : Bool) → option_map (λ w. w.item) (cond b (Some w) (find ws id)) ≡ Some i → (item_of ws id ≡ Some i → P i) → P i
    by true h rest = subst P (ap (λ o. unwrap_or o i) h) (all 0 w (omega arith))
    by false h rest = rest h

pub found_ref : (P : Instruction → Type 0) (ws : List Queued) (id : List ℕ) (o : Option (Bor Instruction)) → All (λ w. P w.item) ws → option_copied o ≡ item_of ws id → IfSome o (λ r. P r.now)
found_ref P ws id None all e = tt
found_ref P ws id (Some r) all e = found P ws id r.now all (sym e)
