pub mod Limits
pub mod Spelling
pub mod NameBytes
pub mod Readers
pub mod NameList
pub mod NameRoom
