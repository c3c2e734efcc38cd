pub mod Limits
pub mod Draws
pub mod Instructions
pub mod Day
