use Rattle.std.specs.Prelude.{ℕ, ℤ, pos, neg_ℤ, true, List, [], ◌∷◌, ◌++◌, Option, Some, None}
use Rattle.std.specs.Option.{option_map_or}
use Rattle.dali_base.specs.declared.kind.Kind.TheVariants as kinds
use Rattle.dali_account.specs.declared.net.Move.{Move}
use Rattle.dali_account.specs.Book.{BookRecord, cash, issued, drawn, after_earmark, after_release}
use Rattle.dali_account.specs.Net.{with_net}
use Rattle.dali_ledger.specs.Postings.{posted}
use Rattle.dali_queue.specs.declared.instruction.Instruction.{Instruction}
use Rattle.dali_queue.specs.Cutoffs.{with_cutoff}
use Rattle.dali_queue.specs.Groups.{linked}
use Rattle.dali_queue.specs.NetOf.{net_of}
use Rattle.dali_queue.specs.Queue.{QueueRecord, entered, without, ranked, item_of}
use Rattle.dali_line.specs.declared.command.Verb.{Verb}
use Rattle.dali_line.specs.declared.command.Verb.TheVariants.{Part, Inst, Issue, Draw, Dvp, Fop, Pay, Cancel, Settle, Cutoff, Cycle, Queue, Close, Stat, Ledger, Earmark, Release, Link, Rank}
use Rattle.dali_machine.specs.Machine.{Machine}
use Rattle.dali_machine.specs.Refusals.{worth}

-- one move alone
abbrev pub one_move : List ℕ → List ℕ → ℤ → List Move
one_move account asset delta = record { account = account; asset = asset; delta = delta } ∷ []

-- the net that an accepted verb books, but for a cycle
unfoldable pub net_for : Machine → Verb → List Move
net_for m (Issue account asset n) = one_move account asset (pos n)
net_for m (Draw account asset n) = one_move account asset (neg_ℤ (pos n))
net_for m (Earmark account asset n) = one_move account asset (neg_ℤ (pos n))
net_for m (Release account asset n) = one_move account asset (pos n)
net_for m (Settle id) = option_map_or (λ i. net_of (i ∷ [])) (item_of m.queue.waiting id) []
net_for m _ = []

-- the state with another book, and a posting of this command for each move
abbrev pub booked : Machine → BookRecord → List Move → Machine
booked m book net = record m { book = book; postings = posted m.postings m.commands net }

abbrev pub with_queue : Machine → QueueRecord → Machine
with_queue m queue = record m { queue = queue }

-- the state after an instruction is booked alone and taken out of the queue
abbrev pub settled : Machine → List ℕ → Option Instruction → Machine
settled m id None = m
settled m id (Some i) =
    booked (with_queue m (record m.queue { waiting = without m.queue.waiting id }))
    (record m.book { balances = with_net m.book.balances (net_of (i ∷ [])) }) (net_of (i ∷ []))

-- the state after an accepted verb, but for a cycle with its choice (Cycles.antt). The number of its command is that of
-- the commands taken.
unfoldable pub accepted : Machine → Verb → Machine
accepted m (Part account) = record m { book = record m.book { accounts = m.book.accounts ++ account ∷ [] } }
accepted m (Inst code price) = record m { book = record m.book { codes = m.book.codes ++ (code, price) ∷ [] } }
accepted m (Issue account asset n) = booked m (issued m.book account asset n) (one_move account asset (pos n))
accepted m (Draw account asset n) = booked m (drawn m.book account asset n) (one_move account asset (neg_ℤ (pos n)))
accepted m (Dvp id seller buyer code quantity amount) = with_queue m (entered m.queue (record {
  id = id;
  kind = kinds.Dvp;
  giver = seller;
  taker = buyer;
  code = code;
  quantity = quantity;
  cash = amount;
  value = amount;
  rank = 1;
}))
accepted m (Fop id from to code quantity) = with_queue m (entered m.queue (record {
  id = id;
  kind = kinds.Fop;
  giver = from;
  taker = to;
  code = code;
  quantity = quantity;
  cash = 0;
  value = worth m code quantity;
  rank = 1;
}))
accepted m (Pay id from to amount) = with_queue m (entered m.queue (record {
  id = id;
  kind = kinds.Pay;
  giver = from;
  taker = to;
  code = cash;
  quantity = amount;
  cash = 0;
  value = amount;
  rank = 1;
}))
accepted m (Cancel id) = with_queue m (record m.queue { waiting = without m.queue.waiting id })
accepted m (Settle id) = settled m id (item_of m.queue.waiting id)
accepted m (Cutoff kind moment) = with_queue m (record m.queue { cutoffs = with_cutoff m.queue.cutoffs kind moment })
accepted m (Cycle budget) = m
accepted m Queue = m
accepted m Close = record m { closed = true }
accepted m (Stat account) = m
accepted m (Ledger account) = m
accepted m (Earmark account asset n) = booked m (after_earmark m.book account asset n) (one_move account asset (neg_ℤ (pos n)))
accepted m (Release account asset n) = booked m (after_release m.book account asset n) (one_move account asset (pos n))
accepted m (Link first second) = with_queue m (record m.queue { waiting = linked m.queue.waiting first second })
accepted m (Rank id rank) = with_queue m (record m.queue { waiting = ranked m.queue.waiting id rank })
