pub mod Undoing
pub mod Sets
pub mod Exchange
pub mod Worths
pub mod Safes
