use Rattle.std.proofs.Common.{◌≡◌, ◌≢◌, ℕ, Bool, true, false, cond, ◌&&◌, List, Result, Ok, Err, refl, sym, ap, ◌∙◌}
use Rattle.std.specs.Prelude.{is_ok}
use Rattle.std.specs.Result.{OnOk}
use Rattle.dali_base.specs.Readers.{same_bytes}
use Rattle.dali_account.specs.Book.{BookRecord, total_of}
use Rattle.dali_account.proofs.SumLemmas.{same_name_is, same_name_refl}

-- totals of which one was set where the call was Ok
module _ {T E : Type 0} (r : Result T E) (old new : BookRecord) (asset : List ℕ) (total : ℕ)
    (set : (q : List ℕ) → total_of new q ≡ cond (is_ok r && same_bytes q asset) total (total_of old q)) where
  -- the asset's total is the one that was set
  pub total_own : (n : ℕ) → total ≡ n → OnOk r (total_of new asset ≡ n)
  total_own n is = by r (set asset)
    where
      by : (s : Result T E) → total_of new asset ≡ cond (is_ok s && same_bytes asset asset) total (total_of old asset) → OnOk s (total_of new asset ≡ n)
      by (Ok x) e = e ∙ ap (λ t. cond t total (total_of old asset)) (same_name_refl asset) ∙ is
      by (Err x) e = tt

  -- and every other's stays
  pub total_other : (q : List ℕ) → q ≢ asset → total_of new q ≡ total_of old q
  total_other q other = set q ∙ by (is_ok r) (same_bytes q asset) refl
    where
      by : (ok b : Bool) → same_bytes q asset ≡ b → cond (ok && b) total (total_of old q) ≡ total_of old q
      by true true told = absurd (other (same_name_is q asset told))
      by true false told = refl
      by false b told = refl

  -- every total stays where it was set to what it was
  pub total_same : total ≡ total_of old asset → (q : List ℕ) → total_of new q ≡ total_of old q
  total_same is q = set q ∙ by (is_ok r) (same_bytes q asset) refl
    where
      by : (ok b : Bool) → same_bytes q asset ≡ b → cond (ok && b) total (total_of old q) ≡ total_of old q
      by true true told = is ∙ ap (total_of old) (sym (same_name_is q asset told))
      by true false told = refl
      by false b told = refl
