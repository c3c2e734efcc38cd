use Rattle.std.proofs.Common.{◌≡◌, ◌<◌, ◌++◌, ◌∷◌, [], ℕ, List, sym, subst, ◌∙◌, ◌+◌}
use Rattle.std.specs.List.{All, AllPairs, Contains}
use Rattle.dali_problem.specs.declared.mark.Mark.TheVariants.{Chosen}
use Rattle.dali_problem.specs.Partial.{mark}
use Rattle.dali_greedy.proofs.Sets.{rising_more, range_more, range_wider, each_more, all_more, all_none}
use Rattle.dali_greedy.proofs.stand.Stand.places.Goals.{then-has_place+in_ok-push, else-has_place}
use Rattle.dali_greedy.proofs.stand.Stand.places.Goals as goal

pub loop-place-preserved : goal.loop-place-preserved
loop-place-preserved c =
    let xs : List ℕ = c.loop-place.places in
    let i : ℕ = c.loop-place.place in
    elim c.if-has_place.branch [
      | then-has_place+in_ok-push w ↦
          let is : c.if-has_place.places ≡ xs ++ i ∷ [] = w.places-is ∙ w.in_ok-push.ensures.ok in
          record {
            rising = subst (AllPairs (λ (a b : ℕ). a < b)) (sym is) (rising_more xs i c.loop-place.invariant.rising c.loop-place.invariant.in_range);
            in_range = subst (All (λ (j : ℕ). j < i + 1)) (sym is) (range_more xs i c.loop-place.invariant.in_range);
            chosen = subst (λ (ys : List ℕ). (j : ℕ) → Contains ys j → mark c.args.self.now.marks j ≡ Chosen) (sym is)
                (each_more (λ j. mark c.args.self.now.marks j ≡ Chosen) xs i c.loop-place.invariant.chosen (c.has_place.ensures.0 w.if-has_place.true));
            all = subst (λ (ys : List ℕ). (j : ℕ) → j < i + 1 → mark c.args.self.now.marks j ≡ Chosen → Contains ys j) (sym is)
                (all_more (λ j. mark c.args.self.now.marks j ≡ Chosen) xs i c.loop-place.invariant.all);
          }
      | else-has_place w ↦
          let is : c.if-has_place.places ≡ xs = w.places-is in
          record {
            rising = subst (AllPairs (λ (a b : ℕ). a < b)) (sym is) c.loop-place.invariant.rising;
            in_range = subst (All (λ (j : ℕ). j < i + 1)) (sym is) (range_wider xs i c.loop-place.invariant.in_range);
            chosen = subst (λ (ys : List ℕ). (j : ℕ) → Contains ys j → mark c.args.self.now.marks j ≡ Chosen) (sym is) c.loop-place.invariant.chosen;
            all = subst (λ (ys : List ℕ). (j : ℕ) → j < i + 1 → mark c.args.self.now.marks j ≡ Chosen → Contains ys j) (sym is)
                (all_none (λ j. mark c.args.self.now.marks j ≡ Chosen) xs i c.loop-place.invariant.all
                (λ chosen. (let told = c.has_place.ensures.1 chosen in let not_told = w.if-has_place.false in absurd (cc (told, not_told)))));
          }
    ]
