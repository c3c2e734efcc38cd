use Rattle.std.proofs.Common.{◌≡◌, inl, inr, ℕ, ◌-◌, ◌^◌, ◌<◌, ◌++◌, ◌∷◌, [], List, length, sym, ap, subst, ◌∙◌, arith}
use Rattle.std.specs.List.{All, Contains}
use Rattle.std.proofs.lemmas.Bool.{cases_eq}
use Rattle.std.proofs.lemmas.List.Elements.{All-push, Contains-push, Contains-append_left}
use Rattle.std.proofs.lemmas.List.Sorted.{All-permutation, Contains-permutation}
use Rattle.dali_greedy.specs.declared.order.Ranked.{Ranked}
use Rattle.dali_greedy.specs.Order.{rank_of}
use Rattle.dali_greedy.proofs.order.by_value.Goals as goal

pub loop-place-preserved : goal.loop-place-preserved
loop-place-preserved c =
    let xs : List Ranked = c.loop-place.order.items in
    let i : ℕ = c.loop-place.place in
    let x : Ranked = rank_of c.args.problem.now i in
    let made : record { behind = 2 ^ 64 - 1 - c.value.result; place = i } ≡ x = ap (λ v. record { behind = 2 ^ 64 - 1 - v; place = i }) c.value.ensures.value in
    let is : c.push.new.self.items ≡ xs ++ x ∷ [] = c.in_ok-push.ensures.items ∙ ap (λ (r : Ranked). xs ++ r ∷ []) made in
    record {
      in_range = subst (All (λ (r : Ranked). r.place < length c.args.problem.now.items)) (sym is)
          (All-push (λ (r : Ranked). r.place < length c.args.problem.now.items) xs x c.loop-place.invariant.in_range
          (omega (arith, c.loop-place-test.true, c.items-place-end.ensures.count)));
      all = (λ j below. subst (λ (ys : List Ranked). Contains ys (rank_of c.args.problem.now j)) (sym is)
          (elim (cases_eq j i) as (λ _. Contains (xs ++ x ∷ []) (rank_of c.args.problem.now j)) [
            | inl same ↦ subst (λ k. Contains (xs ++ x ∷ []) (rank_of c.args.problem.now k)) (sym same) (Contains-push xs x)
            | inr other ↦ Contains-append_left xs (x ∷ []) (rank_of c.args.problem.now j) (c.loop-place.invariant.all j (omega (arith, below, other)))
          ]));
    }

pub returns : goal.returns
returns c = record {
  in_range = All-permutation (λ (r : Ranked). r.place < length c.args.problem.now.items) c.loop-place.order.items c.sort_unstable.new.self.items
      c.sort_unstable.ensures.permutation c.loop-place.invariant.in_range;
  all = (λ j below. Contains-permutation c.loop-place.order.items c.sort_unstable.new.self.items (rank_of c.args.problem.now j)
      c.sort_unstable.ensures.permutation (c.loop-place.invariant.all j (omega (arith, below, c.items-place-end.ensures.count, c.loop-place-test.false))));
}
