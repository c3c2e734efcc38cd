use Rattle.std.specs.Prelude.{ℕ, Bool, false, List, [], Option}
use Rattle.std.specs.FinMap as map
use Rattle.dali_account.specs.Book.{BookRecord}
use Rattle.dali_queue.specs.Queue.{QueueRecord}
use Rattle.dali_queue.specs.Cutoffs.{LAST}
use Rattle.dali_ledger.specs.declared.posting.Posting.{Posting}

-- the state of a day: a book, a queue, the postings, the greatest moment so far in seconds since midnight, whether the
-- day is closed, and how many commands were taken
pub record Machine : Type 0 where
  pub book : BookRecord
  pub queue : QueueRecord
  pub postings : List Posting
  pub greatest : ℕ
  pub closed : Bool
  pub commands : ℕ

-- the state before the first command
abbrev pub opening : Machine
opening = record {
  book = record { accounts = []; codes = []; balances = map.empty; earmarks = map.empty };
  queue = record { waiting = []; used = []; cutoffs = record { dvp = LAST; fop = LAST; pay = LAST } };
  postings = [];
  greatest = 0;
  closed = false;
  commands = 0;
}

-- a state, for how many new pairs, instructions and postings there is room, and the readied names
pub record StateRecord : Type 0 where
  pub machine : Machine
  pub lines : ℕ
  pub places : ℕ
  pub rows : ℕ
  pub readied_account : Option (List ℕ)
  pub readied_code : Option (List ℕ)
