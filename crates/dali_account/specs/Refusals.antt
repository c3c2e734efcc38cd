use Rattle.std.specs.Prelude.{◌≡◌, ℕ, ◌+◌, not, List, length, Option, Some, None, Result, Ok, Err, nat_lt, nat_le, if◌then◌else◌}
use Rattle.dali_base.specs.Limits.{most_total}
use Rattle.dali_account.specs.declared.refusal.BookNo.{BookNo}
use Rattle.dali_account.specs.declared.refusal.BookNo.TheVariants.{There, Full, Name, Total, Short, OutOfMemory}
use Rattle.dali_account.specs.Limits.{most_accounts, most_codes}
use Rattle.dali_account.specs.Book.{BookRecord, has_account, has_asset, knows_pair, balance_of, earmark_of, total_of}

-- each call's refusal, the first of its list that holds
abbrev pub account_refusal : BookRecord → List ℕ → Option BookNo
account_refusal b account =
    if has_account b.accounts account then Some There
    else if nat_le most_accounts (length b.accounts) then Some Full
    else None

abbrev pub asset_refusal : BookRecord → List ℕ → Option BookNo
asset_refusal b code =
    if has_asset b.codes code then Some There
    else if nat_le most_codes (length b.codes) then Some Full
    else None

abbrev pub issue_refusal : BookRecord → List ℕ → List ℕ → ℕ → Option BookNo
issue_refusal b account asset n =
    if not (knows_pair b account asset) then Some Name
    else if nat_lt most_total (total_of b asset + n) then Some Total
    else None

-- of draw and earmark
abbrev pub draw_refusal : BookRecord → List ℕ → List ℕ → ℕ → Option BookNo
draw_refusal b account asset n =
    if not (knows_pair b account asset) then Some Name
    else if nat_lt (balance_of b account asset) n then Some Short
    else None

abbrev pub release_refusal : BookRecord → List ℕ → List ℕ → ℕ → Option BookNo
release_refusal b account asset n =
    if not (knows_pair b account asset) then Some Name
    else if nat_lt (earmark_of b account asset) n then Some Short
    else None

-- the call answers this refusal exactly, and where there is none it may only want memory
abbrev pub Answers : {T : Type 0} → Option BookNo → Result T BookNo → Type 0
Answers (Some refusal) result = result ≡ Err refusal
Answers None (Ok done) = Unit {0}
Answers None (Err refusal) = refusal ≡ OutOfMemory
