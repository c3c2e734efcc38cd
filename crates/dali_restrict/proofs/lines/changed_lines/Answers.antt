use Rattle.std.proofs.Common.{◌≡◌, ℕ, ◌∙◌, ◌++◌, List, [], map, take, get_or, ap, sym, subst}
use Rattle.std.specs.List.{flat_map, Contains}
use Rattle.std.proofs.lemmas.List.{take_all, take_more, flat_map_more}
use Rattle.std.proofs.lemmas.List.Filters.{dedup_is}
use Rattle.std.proofs.lemmas.List.Kept.{AllPairs-from_increasing, Contains-dedup_nat, Contains-from_dedup}
use Rattle.std.proofs.lemmas.List.Sorted.{Contains-permutation, IsPermutation-sym}
use Rattle.std.proofs.lemmas.Map.Keys.{IsStrictlyIncreasing-dedup}
use Rattle.dali_problem.specs.declared.row.Effect.{Effect}
use Rattle.dali_restrict.specs.Restriction.{AreChanged}
use Rattle.dali_restrict.proofs.Restricting.{lines_of, are_changed}
use Rattle.dali_restrict.proofs.lines.changed_lines.Goals as goal

pub loop-place-preserved : goal.loop-place-preserved
loop-place-preserved c =
    let i : ℕ = c.loop-place.place-index in
    let ms : List ℕ = c.args.members.now in
    let f : ℕ → List ℕ = lines_of c.args.problem.now in
    record {
      so_far = c.in_ok-add_changed.ensures
          ∙ ap (λ (es : List Effect). c.loop-place.lines.items ++ map (λ (e : Effect). e.line) es) c.effects.ensures.effects
          ∙ ap (λ (xs : List ℕ). xs ++ f (get_or ms i 0)) c.loop-place.invariant.so_far
          ∙ flat_map_more f [] (take i ms) (get_or ms i 0)
          ∙ ap (flat_map f) (sym (take_more ms i 0 c.loop-place-test.true));
    }

pub returns : goal.returns
returns c =
    let all : flat_map (lines_of c.args.problem.now) c.args.members.now ≡ c.loop-place.lines.items =
    sym (c.loop-place.invariant.so_far ∙ ap (flat_map (lines_of c.args.problem.now)) (take_all c.loop-place.place-index c.args.members.now c.loop-place-test.false)) in
    let is = dedup_is _ _ _ c.dedup.ensures.filtered in
    let moved = c.sort_unstable.ensures.permutation in
    subst (AreChanged c.args.problem.now c.args.members.now) (sym (c.from_vec.ensures ∙ is))
    (are_changed c.args.problem.now c.args.members.now _ c.items-items.ensures.bounds c.requires
    (AllPairs-from_increasing _ (IsStrictlyIncreasing-dedup _ c.sort_unstable.ensures.sorted))
    (λ l there. subst (λ (xs : List ℕ). Contains xs l) (sym all) (Contains-permutation _ _ l (IsPermutation-sym _ _ moved) (Contains-from_dedup _ _ l there)))
    (λ l there. Contains-dedup_nat _ l (Contains-permutation _ _ l moved (subst (λ (xs : List ℕ). Contains xs l) all there))))
