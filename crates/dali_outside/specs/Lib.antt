pub mod Outside
pub mod Stops
pub mod Tape
pub mod Memory
