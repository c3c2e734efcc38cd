use Rattle.std.proofs.Common.{◌≡◌, ℕ, ◌+◌, pos, ◌+ℤ◌, false, cond, List, [], ◌∷◌, ◌++◌, take, drop, refl, sym, ap, ◌∙◌, arith}
use Rattle.std.specs.Prelude.{All}
use Rattle.std.proofs.lemmas.Int.{ints}
use Rattle.std.proofs.lemmas.List.{take-append-drop}
use Rattle.std.proofs.lemmas.List.Elements.{All-head, All-tail}
use Rattle.dali_account.specs.Units.{PairKey}
use Rattle.dali_account.proofs.UnitsLemmas.{same_pair_is}
use Rattle.dali_ledger.specs.declared.posting.Posting.{Posting}
use Rattle.dali_ledger.specs.Postings.{is_of, delta_at, delta_sum, IsLedger, IsLast}

sum_both : (ps qs : List Posting) (pair : PairKey) → delta_sum (ps ++ qs) pair ≡ delta_sum ps pair +ℤ delta_sum qs pair
sum_both [] qs pair = omega (arith, ints)
sum_both (p ∷ ps) qs pair = let rest = sum_both ps qs pair in omega (arith, ints, rest)

sum_none : (qs : List Posting) (pair : PairKey) → All (λ (q : Posting). is_of q pair ≡ false) qs → delta_sum qs pair ≡ pos 0
sum_none [] pair none = refl
sum_none (q ∷ qs) pair none =
    let head : delta_at q pair ≡ pos 0 = ap (λ t. cond t q.delta (pos 0)) (All-head (λ (r : Posting). is_of r pair ≡ false) q qs none) in
    let rest = sum_none qs pair (All-tail (λ (r : Posting). is_of r pair ≡ false) q qs none) in
    omega (arith, ints, head, rest)

-- a pair's last posting has its sum
pub last_is : (ps : List Posting) (pair : PairKey) (n : ℕ) → IsLedger ps → pos n ≡ delta_sum ps pair → (k : ℕ) (p : Posting) → IsLast ps pair k p → p.after ≡ n
last_is ps pair n kept sum k p last =
    let own : pos p.after ≡ delta_sum (take (k + 1) ps) pair = kept.afters k p last.there ∙ ap (delta_sum (take (k + 1) ps)) (same_pair_is (p.account, p.asset) pair last.own) in
    let none : delta_sum (drop (k + 1) ps) pair ≡ pos 0 = sum_none (drop (k + 1) ps) pair last.later in
    let both : delta_sum ps pair ≡ delta_sum (take (k + 1) ps) pair +ℤ delta_sum (drop (k + 1) ps) pair =
    ap (λ qs. delta_sum qs pair) (sym (take-append-drop (k + 1) ps)) ∙ sum_both (take (k + 1) ps) (drop (k + 1) ps) pair in
    omega (arith, ints, own, none, both, sum)
