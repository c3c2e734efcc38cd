pub mod Tally
pub mod Figures
pub mod Summary
