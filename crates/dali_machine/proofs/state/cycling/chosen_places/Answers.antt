use Rattle.std.proofs.Common.{◌≡◌, ◌+◌, ◌<◌, ℕ, List, [], ◌∷◌, ◌++◌, length, drop, get_or, cond, eqb, sym, ap, ◌∙◌, subst, refl, append_assoc}
use Rattle.std.specs.List.{list_any}
use Rattle.dali_queue.specs.CycleProblem.{chosen_of}
use Rattle.dali_machine.proofs.Cycling.{chosen_drop}
use Rattle.dali_machine.proofs.state.cycling.chosen_places.Goals as goal
use Rattle.dali_machine.proofs.state.cycling.chosen_places.Goals.{then-is_in+in_ok-push, else-is_in}

pub loop-k-preserved : goal.loop-k-preserved
loop-k-preserved c =
    let same_at : c.as_slice-place-items.result.now ≡ c.args.input.now.at = c.as_slice-place-items.ensures in
    let same_items : c.as_slice-items.result.now ≡ c.args.input.now.item = c.as_slice-items.ensures in
    let within : c.loop-k.k < length c.args.input.now.at = subst (λ xs. c.loop-k.k < length xs) same_at c.loop-k-test.true in
    let rest : List ℕ = chosen_of c.args.set.now (drop (c.loop-k.k + 1) c.args.input.now.at) (drop (c.loop-k.k + 1) c.args.input.now.item) in
    let place : ℕ = get_or c.args.input.now.at c.loop-k.k 0 in
    let item : ℕ = get_or c.args.input.now.item c.loop-k.k 0 in
    let found : c.is_in.result ≡ list_any (λ i. eqb i item) c.args.set.now = c.is_in.ensures ∙ ap (λ xs. list_any (λ i. eqb i (get_or xs c.loop-k.k 0)) c.args.set.now) same_items in
    let step : chosen_of c.args.set.now (drop c.loop-k.k c.args.input.now.at) (drop c.loop-k.k c.args.input.now.item) ≡ cond (list_any (λ i. eqb i item) c.args.set.now) (place ∷ rest) rest =
    chosen_drop c.args.set.now c.args.input.now.at c.args.input.now.item c.loop-k.k place item c.requires within refl refl in
    elim c.if-is_in.branch [
      | then-is_in+in_ok-push w ↦
          ap (λ xs. xs ++ rest) (w.places-is ∙ w.in_ok-push.ensures.ok ∙ ap (λ xs. c.loop-k.places ++ get_or xs c.loop-k.k 0 ∷ []) same_at)
          ∙ append_assoc c.loop-k.places (place ∷ []) rest
          ∙ ap (λ ys. c.loop-k.places ++ ys) (sym (step ∙ ap (λ b. cond b (place ∷ rest) rest) (sym found ∙ w.if-is_in.true))) ∙ c.loop-k.invariant
      | else-is_in w ↦
          ap (λ xs. xs ++ rest) w.places-is ∙ ap (λ ys. c.loop-k.places ++ ys) (sym (step ∙ ap (λ b. cond b (place ∷ rest) rest) (sym found ∙ w.if-is_in.false))) ∙ c.loop-k.invariant
    ]
