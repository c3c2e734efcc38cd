use Rattle.std.specs.Prelude.{ℕ, List, ◌∷◌}
use Rattle.std.specs.List.{flat_map}
use Rattle.dali_line.specs.declared.command.Verb.{Verb}
use Rattle.dali_line.specs.declared.command.Verb.TheVariants.{Part, Inst, Issue, Draw, Dvp, Fop, Pay, Cancel, Settle, Cutoff, Cycle, Queue, Close, Stat, Ledger, Earmark, Release, Link, Rank}
use Rattle.dali_base.specs.Limits.{most_price, most_budget, most_rank}
use Rattle.dali_line.specs.Grammar.{IsQuantity, IsWithin}

-- pieces as they stand on a line behind another piece: each behind a comma
abbrev pub after_commas : List (List ℕ) → List ℕ
after_commas pieces = flat_map (λ piece. 44 ∷ piece) pieces

-- each number of the verb lies in the range of its field. That its names and moments are in the grammar is known of
-- their types.
abbrev pub HasNumbers : Verb → Type 0
HasNumbers (Inst code price) = IsWithin 1 most_price price
HasNumbers (Issue account asset quantity) = IsQuantity quantity
HasNumbers (Draw account asset quantity) = IsQuantity quantity
HasNumbers (Dvp id seller buyer code quantity cash) = IsQuantity quantity × IsQuantity cash
HasNumbers (Fop id from to code quantity) = IsQuantity quantity
HasNumbers (Pay id from to cash) = IsQuantity cash
HasNumbers (Cycle budget) = IsWithin 0 most_budget budget
HasNumbers (Earmark account asset quantity) = IsQuantity quantity
HasNumbers (Release account asset quantity) = IsQuantity quantity
HasNumbers (Rank id rank) = IsWithin 1 most_rank rank
HasNumbers (Part account) = Unit {0}
HasNumbers (Cancel id) = Unit {0}
HasNumbers (Settle id) = Unit {0}
HasNumbers (Cutoff kind moment) = Unit {0}
HasNumbers Queue = Unit {0}
HasNumbers Close = Unit {0}
HasNumbers (Stat account) = Unit {0}
HasNumbers (Ledger account) = Unit {0}
HasNumbers (Link first second) = Unit {0}
