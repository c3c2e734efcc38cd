use Rattle.std.specs.Prelude.{ℕ, ◌==◌, ◌&&◌, nat_le, Option, Some, None, List, [], ◌∷◌, codes, option_and_then, if◌then◌else◌}
use Rattle.std.specs.List.{slice_split}
use Rattle.dali_base.specs.Readers.{same_bytes, spelled_name, spelled_number, spelled_moment}
use Rattle.dali_base.specs.Limits.{newest_edition, most_quantity, most_price, most_budget, most_rank}
use Rattle.dali_base.specs.declared.kind.Kind.{Kind}
use Rattle.dali_base.specs.declared.kind.Kind.TheVariants as kinds
use Rattle.dali_line.specs.Grammar.{first_edition}
use Rattle.dali_line.specs.declared.command.Command.{Command}
use Rattle.dali_line.specs.declared.command.Verb.{Verb}
use Rattle.dali_line.specs.declared.command.Verb.TheVariants.{Part, Inst, Issue, Draw, Dvp, Fop, Pay, Cancel, Settle, Cutoff, Cycle, Queue, Close, Stat, Ledger, Earmark, Release, Link, Rank}

-- What `read_line` answers, as a function on bytes, for the crates whose definitions go by cases on a line's command.
-- That it is the grammar both ways is said by the clauses of `read_line`.

-- the bytes between the commas
abbrev pub pieces : List ℕ → List (List ℕ)
pieces line = slice_split (λ b. b == 44) line

-- the number from low to high that the bytes spell
unfoldable pub spelled_within : ℕ → ℕ → List ℕ → Option ℕ
spelled_within low high bytes = option_and_then (λ n. if nat_le low n then Some n else None) (spelled_number high bytes)

unfoldable pub spelled_kind : List ℕ → Option Kind
spelled_kind bytes =
    if same_bytes bytes (codes "DVP") then Some kinds.Dvp
    else if same_bytes bytes (codes "FOP") then Some kinds.Fop
    else if same_bytes bytes (codes "PAY") then Some kinds.Pay
    else None

-- the verb of a word alone
unfoldable pub spelled_alone : List ℕ → Option Verb
spelled_alone word =
    if same_bytes word (codes "QUEUE") then Some Queue
    else if same_bytes word (codes "CLOSE") then Some Close
    else None

-- the verb of a word with a name
unfoldable pub named_verb : List ℕ → List ℕ → Option Verb
named_verb word name =
    if same_bytes word (codes "PART") then Some (Part name)
    else if same_bytes word (codes "CANCEL") then Some (Cancel name)
    else if same_bytes word (codes "SETTLE") then Some (Settle name)
    else if same_bytes word (codes "STAT") then Some (Stat name)
    else if same_bytes word (codes "LEDGER") then Some (Ledger name)
    else None

abbrev pub spelled_cycle : List ℕ → Option Verb
spelled_cycle a = option_and_then (λ b. Some (Cycle b)) (spelled_within 0 most_budget a)

unfoldable pub spelled_with_one : List ℕ → List ℕ → Option Verb
spelled_with_one word a =
    if same_bytes word (codes "CYCLE") then spelled_cycle a
    else option_and_then (named_verb word) (spelled_name a)

abbrev pub spelled_inst : List ℕ → List ℕ → Option Verb
spelled_inst a b = option_and_then (λ c. option_and_then (λ p. Some (Inst c p)) (spelled_within 1 most_price b)) (spelled_name a)

abbrev pub spelled_cutoff : List ℕ → List ℕ → Option Verb
spelled_cutoff a b = option_and_then (λ k. option_and_then (λ m. Some (Cutoff k m)) (spelled_moment b)) (spelled_kind a)

abbrev pub spelled_link : List ℕ → List ℕ → Option Verb
spelled_link a b = option_and_then (λ f. option_and_then (λ s. Some (Link f s)) (spelled_name b)) (spelled_name a)

abbrev pub spelled_rank : List ℕ → List ℕ → Option Verb
spelled_rank a b = option_and_then (λ i. option_and_then (λ r. Some (Rank i r)) (spelled_within 1 most_rank b)) (spelled_name a)

unfoldable pub spelled_with_two : List ℕ → List ℕ → List ℕ → Option Verb
spelled_with_two word a b =
    if same_bytes word (codes "INST") then spelled_inst a b
    else if same_bytes word (codes "CUTOFF") then spelled_cutoff a b
    else if same_bytes word (codes "LINK") then spelled_link a b
    else if same_bytes word (codes "RANK") then spelled_rank a b
    else None

-- the verb of a word with an account, an asset and a quantity
unfoldable pub holding_verb : List ℕ → List ℕ → List ℕ → ℕ → Option Verb
holding_verb word account asset quantity =
    if same_bytes word (codes "ISSUE") then Some (Issue account asset quantity)
    else if same_bytes word (codes "DRAW") then Some (Draw account asset quantity)
    else if same_bytes word (codes "EARMARK") then Some (Earmark account asset quantity)
    else if same_bytes word (codes "RELEASE") then Some (Release account asset quantity)
    else None

unfoldable pub spelled_with_three : List ℕ → List ℕ → List ℕ → List ℕ → Option Verb
spelled_with_three word a b c =
    option_and_then (λ account. option_and_then (λ asset. option_and_then (λ quantity. holding_verb word account asset quantity)
    (spelled_within 1 most_quantity c)) (spelled_name b)) (spelled_name a)

unfoldable pub spelled_with_four : List ℕ → List ℕ → List ℕ → List ℕ → List ℕ → Option Verb
spelled_with_four word a b c d =
    if same_bytes word (codes "PAY") then
    option_and_then (λ id. option_and_then (λ from. option_and_then (λ to. option_and_then (λ cash. Some (Pay id from to cash))
    (spelled_within 1 most_quantity d)) (spelled_name c)) (spelled_name b)) (spelled_name a)
    else None

unfoldable pub spelled_with_five : List ℕ → List ℕ → List ℕ → List ℕ → List ℕ → List ℕ → Option Verb
spelled_with_five word a b c d e =
    if same_bytes word (codes "FOP") then
    option_and_then (λ id. option_and_then (λ from. option_and_then (λ to. option_and_then (λ code. option_and_then (λ quantity. Some (Fop id from to code quantity))
    (spelled_within 1 most_quantity e)) (spelled_name d)) (spelled_name c)) (spelled_name b)) (spelled_name a)
    else None

unfoldable pub spelled_with_six : List ℕ → List ℕ → List ℕ → List ℕ → List ℕ → List ℕ → List ℕ → Option Verb
spelled_with_six word a b c d e f =
    if same_bytes word (codes "DVP") then
    option_and_then (λ id. option_and_then (λ seller. option_and_then (λ buyer. option_and_then (λ code. option_and_then (λ quantity. option_and_then (λ cash. Some (Dvp id seller buyer code quantity cash))
    (spelled_within 1 most_quantity f)) (spelled_within 1 most_quantity e)) (spelled_name d)) (spelled_name c)) (spelled_name b)) (spelled_name a)
    else None

-- the verb that a word and its fields spell
unfoldable pub spelled_verb : List (List ℕ) → Option Verb
spelled_verb (word ∷ []) = spelled_alone word
spelled_verb (word ∷ a ∷ []) = spelled_with_one word a
spelled_verb (word ∷ a ∷ b ∷ []) = spelled_with_two word a b
spelled_verb (word ∷ a ∷ b ∷ c ∷ []) = spelled_with_three word a b c
spelled_verb (word ∷ a ∷ b ∷ c ∷ d ∷ []) = spelled_with_four word a b c d
spelled_verb (word ∷ a ∷ b ∷ c ∷ d ∷ e ∷ []) = spelled_with_five word a b c d e
spelled_verb (word ∷ a ∷ b ∷ c ∷ d ∷ e ∷ f ∷ []) = spelled_with_six word a b c d e f
spelled_verb _ = None

-- the verb, where the edition has it
abbrev pub in_edition : ℕ → Verb → Option Verb
in_edition edition verb = if nat_le (first_edition verb) edition && nat_le edition newest_edition then Some verb else None

-- the command that the moment's piece and the verb's pieces spell
abbrev pub spelled_command : ℕ → List (List ℕ) → Option Command
spelled_command edition [] = None
spelled_command edition (moment ∷ verb) =
    option_and_then (λ m. option_and_then (λ v. option_and_then (λ w. Some (record { moment = m; verb = w })) (in_edition edition v)) (spelled_verb verb)) (spelled_moment moment)

-- the command of this edition that the line spells, if it spells one
unfoldable pub command_of : ℕ → List ℕ → Option Command
command_of edition line = spelled_command edition (pieces line)
