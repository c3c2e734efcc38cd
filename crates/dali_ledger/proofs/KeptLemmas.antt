use Rattle.std.proofs.Common.{◌≡◌, inl, inr, ℕ, ◌+◌, ◌<◌, pos, ◌+ℤ◌, Bool, true, false, cond, List, [], ◌∷◌, length, take, Some, Option, refl, sym, ap, ◌∙◌, subst, arith}
use Rattle.std.specs.Prelude.{slice_get, unwrap_or}
use Rattle.std.specs.Map.{lookup}
use Rattle.std.proofs.lemmas.Bool.{cases_lt}
use Rattle.std.proofs.lemmas.List.{take_all, take-append-le, length-append}
use Rattle.std.proofs.lemmas.Option.{slice_get_within}
use Rattle.dali_account.specs.declared.net.Move.{Move}
use Rattle.dali_account.specs.Net.{pair_of}
use Rattle.dali_account.specs.Units.{PairKey}
use Rattle.dali_account.proofs.UnitsLemmas.{same_pair, same_pair_is}
use Rattle.dali_ledger.specs.declared.posting.Posting.{Posting}
use Rattle.dali_ledger.specs.Postings.{delta_sum, next_posting, with_move, IsSum, IsLedger}
use Rattle.dali_ledger.specs.LedgerKept.{sum_in}
use Rattle.dali_ledger.proofs.SumLemmas.{sum_moved, sum_other, whole_sum, size_is, get_push}

-- one more move keeps a ledger
module _ (ps : List Posting) (command : ℕ) (m : Move) (kept : IsLedger ps) (fits : IsSum (delta_sum ps (pair_of m) +ℤ m.delta)) where
  pub sum_kept : (pair : PairKey) → IsSum (delta_sum (with_move ps command m) pair)
  sum_kept pair = by (same_pair (pair_of m) pair) refl
    where
      by : (b : Bool) → same_pair (pair_of m) pair ≡ b → IsSum (delta_sum (with_move ps command m) pair)
      by true told = subst (λ q. IsSum (delta_sum (with_move ps command m) q)) (same_pair_is (pair_of m) pair told) (subst IsSum (sym (sum_moved ps command m)) fits)
      by false told = subst IsSum (sym (sum_other ps command m pair told)) (whole_sum ps pair kept)

  longer : length (with_move ps command m) ≡ length ps + 1
  longer = length-append ps (next_posting ps command m ∷ [])

  sums_kept : (n : ℕ) (pair : PairKey) → IsSum (delta_sum (take n (with_move ps command m)) pair)
  sums_kept n pair = elim (cases_lt (length ps) n) [
    | inl past ↦ subst (λ qs. IsSum (delta_sum qs pair)) (sym (take_all n (with_move ps command m) (omega (arith, longer, past)))) (sum_kept pair)
    | inr within ↦ subst (λ qs. IsSum (delta_sum qs pair)) (sym (take-append-le n ps (next_posting ps command m ∷ []) within)) (kept.sums n pair)
  ]

  numbers_kept : (k : ℕ) (p : Posting) → slice_get (with_move ps command m) k ≡ Some p → p.number ≡ k + 1
  numbers_kept k p e = elim (get_push ps (next_posting ps command m) k p e) [
    | inl old ↦ kept.numbers k p old
    | inr last ↦ ap (λ (q : Posting). q.number) last.1 ∙ ap (λ n. n + 1) (sym last.0)
  ]

  last_after : pos (next_posting ps command m).after ≡ delta_sum (with_move ps command m) (pair_of m)
  last_after = size_is (delta_sum ps (pair_of m) +ℤ m.delta) fits ∙ sym (sum_moved ps command m)

  afters_kept : (k : ℕ) (p : Posting) → slice_get (with_move ps command m) k ≡ Some p → pos p.after ≡ delta_sum (take (k + 1) (with_move ps command m)) (p.account, p.asset)
  afters_kept k p e = elim (get_push ps (next_posting ps command m) k p e) [
    | inl old ↦
        let within : k < length ps = slice_get_within ps k p old in
        kept.afters k p old ∙ ap (λ qs. delta_sum qs (p.account, p.asset)) (sym (take-append-le (k + 1) ps (next_posting ps command m ∷ []) (omega (arith, within))))
    | inr last ↦
        let all : take (k + 1) (with_move ps command m) ≡ with_move ps command m = take_all (k + 1) (with_move ps command m) (omega (arith, longer, last.0)) in
        ap (λ (q : Posting). pos q.after) last.1 ∙ last_after
        ∙ ap (λ (q : Posting). delta_sum (with_move ps command m) (q.account, q.asset)) (sym last.1)
        ∙ ap (λ qs. delta_sum qs (p.account, p.asset)) (sym all)
  ]

  pub ledger_kept : IsLedger (with_move ps command m)
  ledger_kept = record { numbers = numbers_kept; afters = afters_kept; sums = sums_kept }

  -- and so do the sums beside it
  pub beside_kept : (es fs : List (PairKey × ℕ)) (n : ℕ) → pos n ≡ delta_sum ps (pair_of m) +ℤ m.delta →
      ((pair : PairKey) → pos (sum_in es pair) ≡ delta_sum ps pair) →
      ((pair : PairKey) → lookup (same_pair pair) fs ≡ cond (same_pair (pair_of m) pair) (Some n) (lookup (same_pair pair) es)) →
      (pair : PairKey) → pos (sum_in fs pair) ≡ delta_sum (with_move ps command m) pair
  beside_kept es fs n is before updated pair = ap (λ (o : Option ℕ). pos (unwrap_or o 0)) (updated pair) ∙ by (same_pair (pair_of m) pair) refl
    where
      by : (b : Bool) → same_pair (pair_of m) pair ≡ b → pos (unwrap_or (cond b (Some n) (lookup (same_pair pair) es)) 0) ≡ delta_sum (with_move ps command m) pair
      by true told = is ∙ sym (sum_moved ps command m) ∙ ap (delta_sum (with_move ps command m)) (same_pair_is (pair_of m) pair told)
      by false told = before pair ∙ sym (sum_other ps command m pair told)
