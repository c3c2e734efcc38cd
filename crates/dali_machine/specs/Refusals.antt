use Rattle.std.specs.Prelude.{ℕ, ◌+◌, ◌*◌, ◌||◌, Bool, true, false, not, List, [], ◌∷◌, length, Option, Some, None, nat_lt, nat_le, unwrap_or, if◌then◌else◌, pos, ◌+ℤ◌}
use Rattle.std.specs.List.{list_any}
use Rattle.std.specs.Option.{option_map_or}
use Rattle.dali_base.specs.declared.kind.Kind.{Kind}
use Rattle.dali_base.specs.declared.kind.Kind.TheVariants as kinds
use Rattle.dali_account.specs.Book.{BookRecord, cash, has_account, has_asset, price_of, knows_pair, balance_of, earmark_of, total_of}
use Rattle.dali_base.specs.Limits.{most_quantity, most_total}
use Rattle.dali_base.specs.Readers.{same_bytes}
use Rattle.dali_account.specs.Limits.{most_accounts, most_codes}
use Rattle.dali_account.specs.Units.{PairKey, units_of}
use Rattle.dali_problem.specs.Rules.{is_negative}
use Rattle.dali_queue.specs.declared.instruction.Instruction.{Instruction}
use Rattle.dali_queue.specs.Cutoffs.{cutoff_of}
use Rattle.dali_queue.specs.Groups.{same_group, group_size}
use Rattle.dali_queue.specs.Instruction.{effect, changed_pairs}
use Rattle.dali_queue.specs.Limits.{most_queued, most_linked}
use Rattle.dali_queue.specs.Queue.{is_used, is_queued, item_of}
use Rattle.dali_line.specs.declared.command.Verb.{Verb}
use Rattle.dali_line.specs.declared.command.Verb.TheVariants.{Part, Inst, Issue, Draw, Dvp, Fop, Pay, Cancel, Settle, Cutoff, Cycle, Queue, Close, Stat, Ledger, Earmark, Release, Link, Rank}
use Rattle.dali_machine.specs.Machine.{Machine}
use Rattle.dali_machine.specs.declared.outcome.Code.{Code}
use Rattle.dali_machine.specs.declared.outcome.Code.TheVariants.{There, Full, Name, Total, Short, Cash, SelfDeal, Late, Value, Gone, Linked}

-- the code of the first sentence that holds
abbrev pub first_of : List (Bool × Code) → Option Code
first_of [] = None
first_of (sentence ∷ more) = if sentence.0 then Some sentence.1 else first_of more

-- the account, or the asset, or both accounts and the asset don't exist
abbrev pub unknown_account : Machine → List ℕ → Bool
unknown_account m account = not (has_account m.book.accounts account)

abbrev pub unknown_asset : Machine → List ℕ → Bool
unknown_asset m asset = not (has_asset m.book.codes asset)

abbrev pub unknown_pair : Machine → List ℕ → List ℕ → Bool
unknown_pair m account asset = not (knows_pair m.book account asset)

abbrev pub unknown_parties : Machine → List ℕ → List ℕ → Bool
unknown_parties m giver taker = unknown_account m giver || unknown_account m taker

-- the moment is greater than the cut-off of the kind
abbrev pub is_late : Machine → Kind → ℕ → Bool
is_late m kind moment = nat_lt (cutoff_of m.queue.cutoffs kind) moment

-- there are 1,024 queued instructions
abbrev pub is_full : Machine → Bool
is_full m = nat_le most_queued (length m.queue.waiting)

-- what a quantity of a code is worth
abbrev pub worth : Machine → List ℕ → ℕ → ℕ
worth m code quantity = quantity * unwrap_or (price_of m.book.codes code) 0

-- the instruction alone would leave the pair's balance negative
abbrev pub lacks : BookRecord → Instruction → PairKey → Bool
lacks book i pair = is_negative (pos (units_of book.balances pair) +ℤ effect i pair)

-- the instruction alone would leave a line negative
abbrev pub is_short : BookRecord → Instruction → Bool
is_short book i = list_any (lacks book i) (changed_pairs i)

abbrev pub not_queued : Machine → List ℕ → Bool
not_queued m id = not (is_queued m.queue.waiting id)

-- a test of the queued instruction with this id
abbrev pub of_queued : Machine → List ℕ → (Instruction → Bool) → Bool
of_queued m id test = option_map_or test (item_of m.queue.waiting id) false

-- why no instruction of a kind can be entered at a moment
abbrev pub place_refusal : Machine → Kind → ℕ → Option Code
place_refusal m kind t = first_of ((is_late m kind t, Late) ∷ (is_full m, Full) ∷ [])

-- a verb that names an account, an asset and a quantity
abbrev pub is_units : Verb → Bool
is_units (Issue account asset n) = true
is_units (Draw account asset n) = true
is_units (Earmark account asset n) = true
is_units (Release account asset n) = true
is_units _ = false

-- a verb that enters an instruction
abbrev pub is_entry : Verb → Bool
is_entry (Dvp id seller buyer code quantity amount) = true
is_entry (Fop id from to code quantity) = true
is_entry (Pay id from to amount) = true
is_entry _ = false

-- a verb's sentences at a moment, in their order: each says whether it holds, and its code
abbrev pub sentences : Machine → ℕ → Verb → List (Bool × Code)
sentences m t (Part account) =
    (has_account m.book.accounts account, There) ∷ (nat_le most_accounts (length m.book.accounts), Full) ∷ []
sentences m t (Inst code price) =
    (has_asset m.book.codes code, There) ∷ (nat_le most_codes (length m.book.codes), Full) ∷ []
sentences m t (Issue account asset n) =
    (unknown_pair m account asset, Name) ∷ (nat_lt most_total (total_of m.book asset + n), Total) ∷ []
sentences m t (Draw account asset n) =
    (unknown_pair m account asset, Name) ∷ (nat_lt (balance_of m.book account asset) n, Short) ∷ []
sentences m t (Dvp id seller buyer code quantity amount) =
    (is_used m.queue id, There) ∷ (unknown_parties m seller buyer || unknown_asset m code, Name) ∷ (same_bytes code cash, Cash)
    ∷ (same_bytes seller buyer, SelfDeal) ∷ (is_late m kinds.Dvp t, Late) ∷ (is_full m, Full) ∷ []
sentences m t (Fop id from to code quantity) =
    (is_used m.queue id, There) ∷ (unknown_parties m from to || unknown_asset m code, Name) ∷ (same_bytes code cash, Cash)
    ∷ (same_bytes from to, SelfDeal) ∷ (nat_lt most_quantity (worth m code quantity), Value) ∷ (is_late m kinds.Fop t, Late) ∷ (is_full m, Full) ∷ []
sentences m t (Pay id from to amount) =
    (is_used m.queue id, There) ∷ (unknown_parties m from to, Name) ∷ (same_bytes from to, SelfDeal)
    ∷ (is_late m kinds.Pay t, Late) ∷ (is_full m, Full) ∷ []
sentences m t (Cancel id) = (not_queued m id, Gone) ∷ []
sentences m t (Settle id) =
    (not_queued m id, Gone) ∷ (nat_lt 1 (group_size m.queue.waiting id), Linked)
    ∷ (of_queued m id (λ i. is_late m i.kind t), Late) ∷ (of_queued m id (is_short m.book), Short) ∷ []
sentences m t (Cutoff kind moment) = []
sentences m t (Cycle budget) = []
sentences m t Queue = []
sentences m t Close = []
sentences m t (Stat account) = (unknown_account m account, Name) ∷ []
sentences m t (Ledger account) = (unknown_account m account, Name) ∷ []
sentences m t (Earmark account asset n) =
    (unknown_pair m account asset, Name) ∷ (nat_lt (balance_of m.book account asset) n, Short) ∷ []
sentences m t (Release account asset n) =
    (unknown_pair m account asset, Name) ∷ (nat_lt (earmark_of m.book account asset) n, Short) ∷ []
sentences m t (Link first second) =
    (not_queued m first || not_queued m second, Gone) ∷ (same_bytes first second, SelfDeal)
    ∷ (same_group m.queue.waiting first second, There)
    ∷ (nat_lt most_linked (group_size m.queue.waiting first + group_size m.queue.waiting second), Full) ∷ []
sentences m t (Rank id rank) = (not_queued m id, Gone) ∷ []

-- why a verb is refused at a moment: the first of its sentences that holds
unfoldable pub refusal : Machine → ℕ → Verb → Option Code
refusal m t verb = first_of (sentences m t verb)
