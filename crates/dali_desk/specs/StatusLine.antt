use Rattle.std.specs.Prelude.{ℕ, List, [], ◌++◌, codes, decimal}
use Rattle.dali_journal.specs.declared.refusal.Damage.{Damage}
use Rattle.dali_journal.specs.declared.refusal.Damage.TheVariants as damages
use Rattle.dali_desk.specs.declared.status.Status.{Status}
use Rattle.dali_desk.specs.declared.status.Status.TheVariants.{Done, Invalid, Usage, ReadFault, PrintFault, DiskFault, Damaged, OtherDay, LongLine, LongFile, JournalFull, OutOfMemory, NoGate, BadFrame}

-- the words of a status's line, up to its first number
abbrev pub words_of : Status → List ℕ
words_of Done = []
words_of (Invalid why) = codes "dali: invalid"
words_of Usage = codes "dali: usage: init JOURNAL SIZE, day JOURNAL, check, export JOURNAL, gen N, trial N, raise JOURNAL, gate JOURNAL, ship JOURNAL, follow JOURNAL"
words_of ReadFault = codes "dali: read fault"
words_of PrintFault = codes "dali: print fault"
words_of DiskFault = codes "dali: disk fault"
words_of (Damaged place why) = codes "dali: damaged at "
words_of (OtherDay k) = codes "dali: other day at command "
words_of (LongLine k) = codes "dali: long line at command "
words_of LongFile = codes "dali: long file"
words_of (JournalFull need left) = codes "dali: journal full: need "
words_of OutOfMemory = codes "dali: out of memory"
words_of (NoGate place) = codes "dali: no gateway input at "
words_of (BadFrame place) = codes "dali: bad frame at "

-- in which way a journal is damaged
abbrev pub damage_word : Damage → List ℕ
damage_word damages.Short = codes "short"
damage_word damages.Header = codes "header"
damage_word damages.Length = codes "length"
damage_word damages.Entry = codes "entry"
damage_word damages.Illegal = codes "illegal"

-- what stands behind the words
abbrev pub rest_of : Status → List ℕ
rest_of (Damaged place why) = decimal place ++ (codes ": " ++ damage_word why)
rest_of (OtherDay k) = decimal k
rest_of (LongLine k) = decimal k
rest_of (JournalFull need left) = decimal need ++ (codes ", left " ++ decimal left)
rest_of (NoGate place) = decimal place
rest_of (BadFrame place) = decimal place
rest_of status = []

-- the line on standard error
abbrev pub line_of : Status → List ℕ
line_of status = words_of status ++ rest_of status

-- the number that the program ends with
abbrev pub number_of : Status → ℕ
number_of Done = 0
number_of (Invalid why) = 1
number_of Usage = 2
number_of ReadFault = 3
number_of PrintFault = 4
number_of DiskFault = 5
number_of (Damaged place why) = 6
number_of (OtherDay k) = 7
number_of (LongLine k) = 8
number_of LongFile = 9
number_of (JournalFull need left) = 10
number_of OutOfMemory = 11
number_of (NoGate place) = 12
number_of (BadFrame place) = 13
