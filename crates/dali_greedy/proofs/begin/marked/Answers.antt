use Rattle.std.proofs.Common.{◌≡◌, ◌<◌, ◌++◌, ◌∷◌, [], ℕ, List, sym, subst, ◌∙◌, ◌+◌}
use Rattle.std.specs.List.{All, AllPairs, Contains}
use Rattle.dali_problem.specs.Partial.{mark}
use Rattle.dali_greedy.proofs.Sets.{rising_more, range_more, range_wider, each_more, all_more, all_none}
use Rattle.dali_greedy.proofs.begin.marked.Goals.{then-has_mark+in_ok-push, else-has_mark}
use Rattle.dali_greedy.proofs.begin.marked.Goals as goal

pub loop-place-preserved : goal.loop-place-preserved
loop-place-preserved c =
    let xs : List ℕ = c.loop-place.places in
    let i : ℕ = c.loop-place.place in
    elim c.if-has_mark.branch [
      | then-has_mark+in_ok-push w ↦
          let is : c.if-has_mark.places ≡ xs ++ i ∷ [] = w.places-is ∙ w.in_ok-push.ensures.ok in
          record {
            rising = subst (AllPairs (λ (a b : ℕ). a < b)) (sym is) (rising_more xs i c.loop-place.invariant.rising c.loop-place.invariant.in_range);
            in_range = subst (All (λ (j : ℕ). j < i + 1)) (sym is) (range_more xs i c.loop-place.invariant.in_range);
            marked = subst (λ (ys : List ℕ). (j : ℕ) → Contains ys j → mark c.args.partial.now.marks j ≡ c.args.wanted) (sym is)
                (each_more (λ j. mark c.args.partial.now.marks j ≡ c.args.wanted) xs i c.loop-place.invariant.marked (c.has_mark.ensures.0 w.if-has_mark.true));
            all = subst (λ (ys : List ℕ). (j : ℕ) → j < i + 1 → mark c.args.partial.now.marks j ≡ c.args.wanted → Contains ys j) (sym is)
                (all_more (λ j. mark c.args.partial.now.marks j ≡ c.args.wanted) xs i c.loop-place.invariant.all);
          }
      | else-has_mark w ↦
          let is : c.if-has_mark.places ≡ xs = w.places-is in
          record {
            rising = subst (AllPairs (λ (a b : ℕ). a < b)) (sym is) c.loop-place.invariant.rising;
            in_range = subst (All (λ (j : ℕ). j < i + 1)) (sym is) (range_wider xs i c.loop-place.invariant.in_range);
            marked = subst (λ (ys : List ℕ). (j : ℕ) → Contains ys j → mark c.args.partial.now.marks j ≡ c.args.wanted) (sym is) c.loop-place.invariant.marked;
            all = subst (λ (ys : List ℕ). (j : ℕ) → j < i + 1 → mark c.args.partial.now.marks j ≡ c.args.wanted → Contains ys j) (sym is)
                (all_none (λ j. mark c.args.partial.now.marks j ≡ c.args.wanted) xs i c.loop-place.invariant.all
                (λ chosen. (let told = c.has_mark.ensures.1 chosen in let not_told = w.if-has_mark.false in absurd (cc (told, not_told)))));
          }
    ]
