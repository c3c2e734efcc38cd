pub mod Restriction
pub mod Widened
pub mod Below
