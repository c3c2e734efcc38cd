use Rattle.dali_entry.specs.declared.entry.Entry.{Entry}

-- a line, the edition in which it is read, and the choice of its cycle where it is an accepted one:
-- `edition : ℕ`, `line : List ℕ`, `choice : Option Choice`
abbrev pub EntryRecord : Type 0
EntryRecord = Entry
