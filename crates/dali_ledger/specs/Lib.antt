pub mod Postings
pub mod Places
pub mod Ledger
pub mod LedgerKept
