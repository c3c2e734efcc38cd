use Rattle.std.specs.Prelude.{◌≡◌, ℕ, ◌<◌, ◌≤◌, List, [], ◌∷◌, codes, decimal, IsTrue}
use Rattle.std.specs.List.{join_with_byte}
use Rattle.dali_base.specs.Spelling.{is_name, DAY, moment_digits}
use Rattle.dali_base.specs.Limits.{newest_edition, most_quantity, most_price, most_budget, most_rank}
use Rattle.dali_base.specs.declared.kind.Kind.{Kind}
use Rattle.dali_base.specs.declared.kind.Kind.TheVariants as kinds
use Rattle.dali_line.specs.declared.command.Command.{Command}
use Rattle.dali_line.specs.declared.command.Verb.{Verb}
use Rattle.dali_line.specs.declared.command.Verb.TheVariants.{Part, Inst, Issue, Draw, Dvp, Fop, Pay, Cancel, Settle, Cutoff, Cycle, Queue, Close, Stat, Ledger, Earmark, Release, Link, Rank}

-- the word of a kind
abbrev pub kind_text : Kind → List ℕ
kind_text kinds.Dvp = codes "DVP"
kind_text kinds.Fop = codes "FOP"
kind_text kinds.Pay = codes "PAY"

-- a verb's word
abbrev pub word_of : Verb → List ℕ
word_of (Part account) = codes "PART"
word_of (Inst code price) = codes "INST"
word_of (Issue account asset quantity) = codes "ISSUE"
word_of (Draw account asset quantity) = codes "DRAW"
word_of (Dvp id seller buyer code quantity cash) = codes "DVP"
word_of (Fop id from to code quantity) = codes "FOP"
word_of (Pay id from to cash) = codes "PAY"
word_of (Cancel id) = codes "CANCEL"
word_of (Settle id) = codes "SETTLE"
word_of (Cutoff kind moment) = codes "CUTOFF"
word_of (Cycle budget) = codes "CYCLE"
word_of Queue = codes "QUEUE"
word_of Close = codes "CLOSE"
word_of (Stat account) = codes "STAT"
word_of (Ledger account) = codes "LEDGER"
word_of (Earmark account asset quantity) = codes "EARMARK"
word_of (Release account asset quantity) = codes "RELEASE"
word_of (Link first second) = codes "LINK"
word_of (Rank id rank) = codes "RANK"

-- a verb's fields
abbrev pub fields_of : Verb → List (List ℕ)
fields_of (Part account) = account ∷ []
fields_of (Inst code price) = code ∷ decimal price ∷ []
fields_of (Issue account asset quantity) = account ∷ asset ∷ decimal quantity ∷ []
fields_of (Draw account asset quantity) = account ∷ asset ∷ decimal quantity ∷ []
fields_of (Dvp id seller buyer code quantity cash) = id ∷ seller ∷ buyer ∷ code ∷ decimal quantity ∷ decimal cash ∷ []
fields_of (Fop id from to code quantity) = id ∷ from ∷ to ∷ code ∷ decimal quantity ∷ []
fields_of (Pay id from to cash) = id ∷ from ∷ to ∷ decimal cash ∷ []
fields_of (Cancel id) = id ∷ []
fields_of (Settle id) = id ∷ []
fields_of (Cutoff kind moment) = kind_text kind ∷ moment_digits moment ∷ []
fields_of (Cycle budget) = decimal budget ∷ []
fields_of Queue = []
fields_of Close = []
fields_of (Stat account) = account ∷ []
fields_of (Ledger account) = account ∷ []
fields_of (Earmark account asset quantity) = account ∷ asset ∷ decimal quantity ∷ []
fields_of (Release account asset quantity) = account ∷ asset ∷ decimal quantity ∷ []
fields_of (Link first second) = first ∷ second ∷ []
fields_of (Rank id rank) = id ∷ decimal rank ∷ []

-- a verb's word and its fields
abbrev pub pieces_of : Verb → List (List ℕ)
pieces_of verb = word_of verb ∷ fields_of verb

-- the command line: the moment, the word and the fields, joined by single commas
abbrev pub spelling : Command → List ℕ
spelling c = join_with_byte 44 (moment_digits c.moment ∷ pieces_of c.verb)

-- the first edition that has the verb
abbrev pub first_edition : Verb → ℕ
first_edition (Earmark account asset quantity) = 2
first_edition (Release account asset quantity) = 2
first_edition (Link first second) = 3
first_edition (Rank id rank) = 4
first_edition (Part account) = 1
first_edition (Inst code price) = 1
first_edition (Issue account asset quantity) = 1
first_edition (Draw account asset quantity) = 1
first_edition (Dvp id seller buyer code quantity cash) = 1
first_edition (Fop id from to code quantity) = 1
first_edition (Pay id from to cash) = 1
first_edition (Cancel id) = 1
first_edition (Settle id) = 1
first_edition (Cutoff kind moment) = 1
first_edition (Cycle budget) = 1
first_edition Queue = 1
first_edition Close = 1
first_edition (Stat account) = 1
first_edition (Ledger account) = 1

-- a number from low to high
pub record IsWithin (low high n : ℕ) : Type 0 where
  pub least : low ≤ n
  pub most : n ≤ high

-- a quantity, or an amount of cash in centavos
abbrev pub IsQuantity : ℕ → Type 0
IsQuantity n = IsWithin 1 most_quantity n

abbrev pub IsName : List ℕ → Type 0
IsName name = IsTrue (is_name name)

-- each field of the verb lies in its range
abbrev pub HasFields : Verb → Type 0
HasFields (Part account) = IsName account
HasFields (Inst code price) = IsName code × IsWithin 1 most_price price
HasFields (Issue account asset quantity) = IsName account × IsName asset × IsQuantity quantity
HasFields (Draw account asset quantity) = IsName account × IsName asset × IsQuantity quantity
HasFields (Dvp id seller buyer code quantity cash) =
    IsName id × IsName seller × IsName buyer × IsName code × IsQuantity quantity × IsQuantity cash
HasFields (Fop id from to code quantity) = IsName id × IsName from × IsName to × IsName code × IsQuantity quantity
HasFields (Pay id from to cash) = IsName id × IsName from × IsName to × IsQuantity cash
HasFields (Cancel id) = IsName id
HasFields (Settle id) = IsName id
HasFields (Cutoff kind moment) = moment < DAY
HasFields (Cycle budget) = IsWithin 0 most_budget budget
HasFields Queue = Unit {0}
HasFields Close = Unit {0}
HasFields (Stat account) = IsName account
HasFields (Ledger account) = IsName account
HasFields (Earmark account asset quantity) = IsName account × IsName asset × IsQuantity quantity
HasFields (Release account asset quantity) = IsName account × IsName asset × IsQuantity quantity
HasFields (Link first second) = IsName first × IsName second
HasFields (Rank id rank) = IsName id × IsWithin 1 most_rank rank

-- a command of the grammar of this edition
pub record IsCommand (edition : ℕ) (c : Command) : Type 0 where
  pub moment : c.moment < DAY
  pub fields : HasFields c.verb
  pub since : first_edition c.verb ≤ edition
  pub newest : edition ≤ newest_edition

-- the bytes are the command's spelling in the grammar of this edition
pub record Spells (edition : ℕ) (bytes : List ℕ) (c : Command) : Type 0 where
  pub command : IsCommand edition c
  pub spelled : bytes ≡ spelling c
