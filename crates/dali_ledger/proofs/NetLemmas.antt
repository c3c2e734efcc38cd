use Rattle.std.proofs.Common.{◌≡◌, ℕ, Bool, true, false, true≢false, ap, ◌+ℤ◌, List, [], ◌∷◌, map, refl, sym, ◌∙◌, subst}
use Rattle.std.specs.Ordering.{is_eq}
use Rattle.std.specs.declared.cmp.Ordering.TheVariants.{Less}
use Rattle.std.specs.List.Sorted.{IsStrictlySortedBy}
use Rattle.dali_account.specs.declared.net.Move.{Move}
use Rattle.dali_account.specs.Net.{pair_of}
use Rattle.dali_account.specs.Units.{PairKey, pair_cmp}
use Rattle.dali_account.proofs.PostLemmas.{Behind}
use Rattle.dali_account.proofs.UnitsLemmas.{same_pair, same_pair_is, pair_ties}
use Rattle.dali_ledger.specs.declared.posting.Posting.{Posting}
use Rattle.dali_ledger.specs.Postings.{delta_sum, with_move, posted, IsSum}
use Rattle.dali_ledger.proofs.SumLemmas.{sum_moved, sum_other}

-- pairs in order are different pairs
apart : (p q : PairKey) → pair_cmp p q ≡ Less → same_pair q p ≡ false
apart p q before = by (same_pair q p) refl
  where
    by : (b : Bool) → same_pair q p ≡ b → b ≡ false
    by false told = refl
    by true told =
        let is : q ≡ p = same_pair_is q p told in
        absurd (true≢false (sym told ∙ ap (λ r. same_pair r p) is ∙ ap (same_pair p) (sym is) ∙ pair_ties p q ∙ ap is_eq before))

-- moves behind a pair leave its sum
untouched : (ms : List Move) (ps : List Posting) (command : ℕ) (pair : PairKey) → Behind pair ms → delta_sum (posted ps command ms) pair ≡ delta_sum ps pair
untouched [] ps command pair behind = refl
untouched (x ∷ ms) ps command pair behind = untouched ms (with_move ps command x) command pair behind.1 ∙ sum_other ps command x pair (apart pair (pair_of x) behind.0)

-- a net is posted but for the rest
pub record Midway (command : ℕ) (start now : List Posting) (net rest : List Move) : Type 0 where
  pub result : posted now command rest ≡ posted start command net
  pub rising : IsStrictlySortedBy pair_cmp (map pair_of rest)

module _ (command : ℕ) (start now : List Posting) (net : List Move) (x : Move) (ms : List Move) (mid : Midway command start now net (x ∷ ms)) where
  pub sum_fits : ((pair : PairKey) → IsSum (delta_sum (posted start command net) pair)) → IsSum (delta_sum now (pair_of x) +ℤ x.delta)
  unfolding IsStrictlySortedBy
  sum_fits fits =
      let last : IsSum (delta_sum (posted now command (x ∷ ms)) (pair_of x)) = subst (λ ps. IsSum (delta_sum ps (pair_of x))) (sym mid.result) (fits (pair_of x)) in
      subst IsSum (untouched ms (with_move now command x) command (pair_of x) mid.rising.0 ∙ sum_moved now command x) last

  pub midway_more : Midway command start (with_move now command x) net ms
  unfolding IsStrictlySortedBy
  midway_more = record { result = mid.result; rising = mid.rising.1 }
