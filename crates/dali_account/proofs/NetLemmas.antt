use Rattle.std.proofs.Common.{◌≡◌, ◌≢◌, pos, List, [], ◌∷◌, ◌++◌, map, sym, subst}
use Rattle.std.proofs.lemmas.List.{map-append}
use Rattle.std.proofs.lemmas.List.Elements.{All-nil, All-push}
use Rattle.std.specs.Prelude.{IfSome}
use Rattle.std.specs.List.{AllByRecursion}
use Rattle.std.specs.List.Sorted.{IsStrictlySortedBy}
use Rattle.std.specs.declared.cmp.Ordering.TheVariants.{Less}
use Rattle.dali_account.specs.declared.net.Move.{Move}
use Rattle.dali_account.specs.Units.{PairKey, pair_cmp}
use Rattle.dali_account.specs.Net.{pair_of, last_of, IsNet, IsAfter}
use Rattle.dali_account.proofs.UnitsLemmas.{pair_total}

all_after : (x z : PairKey) (ws : List PairKey) → pair_cmp x z ≡ Less → AllByRecursion (λ w. pair_cmp z w ≡ Less) ws → AllByRecursion (λ w. pair_cmp x w ≡ Less) ws
all_after x z [] e h = tt
all_after x z (w ∷ ws) e h = (pair_total.trans x z w e h.0, all_after x z ws e h.1)

-- pairs in order stay so with a pair behind the last one
pub sorted_push : (xs : List PairKey) (y : PairKey) → IsStrictlySortedBy pair_cmp xs → IfSome (last_of xs) (λ last. pair_cmp last y ≡ Less) → IsStrictlySortedBy pair_cmp (xs ++ y ∷ [])
unfolding IsStrictlySortedBy
sorted_push [] y s h = (tt, tt)
sorted_push (x ∷ []) y s h = ((h, tt), (tt, tt))
sorted_push (x ∷ z ∷ zs) y s h =
    let rest = sorted_push (z ∷ zs) y s.1 h in
    ((s.0.0, all_after x z (zs ++ y ∷ []) s.0.0 rest.0), rest)

sorted_none : IsStrictlySortedBy pair_cmp []
unfolding IsStrictlySortedBy
sorted_none = tt

pub net_none : IsNet []
net_none = record { rising = sorted_none; moves = All-nil (λ (m : Move). m.delta ≢ pos 0) }

pub net_push : (net : List Move) (next : Move) → IsNet net → IsAfter net next → next.delta ≢ pos 0 → IsNet (net ++ next ∷ [])
net_push net next kept after change = record {
  rising = subst (IsStrictlySortedBy pair_cmp) (sym (map-append pair_of net (next ∷ []))) (sorted_push (map pair_of net) (pair_of next) kept.rising after);
  moves = All-push (λ (m : Move). m.delta ≢ pos 0) net next kept.moves change;
}
