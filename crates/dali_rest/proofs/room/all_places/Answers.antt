use Rattle.std.proofs.Common.{◌≡◌, inl, inr, ℕ, ◌+◌, ◌<◌, List, ◌∷◌, [], ◌++◌, sym, subst, arith}
use Rattle.std.specs.List.{All, AllPairs, Contains}
use Rattle.std.proofs.lemmas.Bool.{cases_lt}
use Rattle.std.proofs.lemmas.List.Elements.{All-push, All-weaker, Contains-append_left, Contains-push}
use Rattle.std.proofs.lemmas.List.Quantifiers.{all_pairs_push}
use Rattle.dali_rest.proofs.room.all_places.Goals as goal

one_place_more : (xs ys : List ℕ) (n : ℕ) → ys ≡ xs ++ n ∷ [] → AllPairs (λ (i j : ℕ). i < j) xs → All (λ (j : ℕ). j < n) xs → ((j : ℕ) → j < n → Contains xs j) →
    AllPairs (λ (i j : ℕ). i < j) ys × All (λ (j : ℕ). j < n + 1) ys × ((j : ℕ) → j < n + 1 → Contains ys j)
one_place_more xs ys n is rising range all = (
  subst (AllPairs (λ (i j : ℕ). i < j)) (sym is) (all_pairs_push (λ (i j : ℕ). i < j) xs n rising (λ k d below. range k d below)),
  subst (All (λ (j : ℕ). j < n + 1)) (sym is) (All-push (λ (j : ℕ). j < n + 1) xs n (All-weaker (λ (j : ℕ). j < n) (λ (j : ℕ). j < n + 1) (λ j less. omega (arith, less)) xs range) (omega arith)),
  λ j below. subst (λ (zs : List ℕ). Contains zs j) (sym is) (elim (cases_lt j n) as (λ _. Contains (xs ++ n ∷ []) j) [
    | inl before ↦ Contains-append_left xs (n ∷ []) j (all j before)
    | inr at ↦
        let here : j ≡ n = omega (arith, below, at) in
        subst (Contains (xs ++ n ∷ [])) (sym here) (Contains-push xs n)
  ]),
)

pub loop-place-preserved : goal.loop-place-preserved
loop-place-preserved c =
    let more = one_place_more c.loop-place.places c.push.new.self c.loop-place.place c.in_ok-push.ensures.ok c.loop-place.invariant.rising c.loop-place.invariant.in_range c.loop-place.invariant.all in
    record { rising = more.0; in_range = more.1; all = more.2 }
