pub mod Reduced
pub mod Run
