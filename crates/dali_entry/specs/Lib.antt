pub mod EntryRecord
