use Rattle.dali_machine.specs.Machine.{Machine, StateRecord}
use Rattle.dali_machine.specs.Kept.{IsMachine}
use Rattle.dali_machine.specs.declared.state.State.TheInside.{Inside}

abbrev pub machine_of : Inside → Machine
machine_of a = record {
  book = a.book.book;
  queue = a.queue.queue;
  postings = a.ledger.postings;
  greatest = a.greatest;
  closed = a.closed;
  commands = a.commands;
}

abbrev pub record_of : Inside → StateRecord
record_of a = record {
  machine = machine_of a;
  lines = a.book.spare_lines;
  places = a.queue.spare;
  rows = a.ledger.spare;
  readied_account = a.book.readied_account;
  readied_code = a.book.readied_code;
}

abbrev pub IsKept : Inside → Type 0
IsKept a = IsMachine (machine_of a)
