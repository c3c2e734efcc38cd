use Rattle.std.proofs.Common.{◌≡◌, ◌⊎◌, inl, inr, ℕ, ℤ, pos, negsuc, ◌+ℤ◌, true, false, cond, ◌&&◌, List, [], ◌∷◌, ◌++◌, length, zero, suc, Some, refl, ap, ◌∙◌, subst, arith}
use Rattle.std.specs.Prelude.{unsigned_abs, slice_get}
use Rattle.std.proofs.lemmas.Int.{ints}
use Rattle.std.proofs.lemmas.List.{take_all}
use Rattle.dali_account.specs.declared.net.Move.{Move}
use Rattle.dali_account.specs.Net.{pair_of}
use Rattle.dali_account.specs.Units.{PairKey}
use Rattle.dali_account.proofs.UnitsLemmas.{same_pair}
use Rattle.dali_account.proofs.SumLemmas.{same_name_refl}
use Rattle.dali_base.specs.Readers.{same_bytes}
use Rattle.dali_ledger.specs.declared.posting.Posting.{Posting}
use Rattle.dali_ledger.specs.Postings.{delta_at, delta_sum, next_posting, with_move, IsSum, IsLedger}

-- one more posting adds its delta to its pair's sum
pub sum_push : (ps : List Posting) (p : Posting) (pair : PairKey) → delta_sum (ps ++ p ∷ []) pair ≡ delta_sum ps pair +ℤ delta_at p pair
sum_push [] p pair = omega (arith, ints)
sum_push (q ∷ ps) p pair = let rest = sum_push ps p pair in omega (arith, ints, rest)

same_pair_itself : (pair : PairKey) → same_pair pair pair ≡ true
same_pair_itself pair = ap (λ t. t && same_bytes pair.1 pair.1) (same_name_refl pair.0) ∙ same_name_refl pair.1

-- a move adds its delta to the sum of its pair
pub sum_moved : (ps : List Posting) (command : ℕ) (m : Move) → delta_sum (with_move ps command m) (pair_of m) ≡ delta_sum ps (pair_of m) +ℤ m.delta
sum_moved ps command m = sum_push ps (next_posting ps command m) (pair_of m)
    ∙ ap (λ t. delta_sum ps (pair_of m) +ℤ cond t m.delta (pos 0)) (same_pair_itself (pair_of m))

-- and leaves those of other pairs
pub sum_other : (ps : List Posting) (command : ℕ) (m : Move) (pair : PairKey) → same_pair (pair_of m) pair ≡ false → delta_sum (with_move ps command m) pair ≡ delta_sum ps pair
sum_other ps command m pair apart =
    let pushed = sum_push ps (next_posting ps command m) pair in
    let none : delta_at (next_posting ps command m) pair ≡ pos 0 = ap (λ t. cond t m.delta (pos 0)) apart in
    omega (arith, ints, pushed, none)

pub whole_sum : (ps : List Posting) (pair : PairKey) → IsLedger ps → IsSum (delta_sum ps pair)
whole_sum ps pair kept = subst (λ qs. IsSum (delta_sum qs pair)) (take_all (length ps) ps (omega arith)) (kept.sums (length ps) pair)

pub size_is : (z : ℤ) → IsSum z → pos (unsigned_abs z) ≡ z
size_is (pos n) kept = refl
size_is (negsuc n) kept = absurd (omega (arith, ints, kept.low))

-- an item of a list with one more behind it is one of the list's, or the last
pub get_push : {X : Type 0} (xs : List X) (x : X) (k : ℕ) (y : X) → slice_get (xs ++ x ∷ []) k ≡ Some y → (slice_get xs k ≡ Some y) ⊎ ((k ≡ length xs) × (y ≡ x))
get_push [] x zero y e = inr (refl, cc)
get_push [] x (suc k) y e = absurd (cc)
get_push (z ∷ zs) x zero y e = inl e
get_push (z ∷ zs) x (suc k) y e = elim (get_push zs x k y e) [ inl h ↦ inl h | inr h ↦ inr (ap suc h.0, h.1) ]
