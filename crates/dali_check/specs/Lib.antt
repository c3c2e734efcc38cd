pub mod Sides
pub mod Proves
pub mod Lean
pub mod Ends
pub mod Parts
pub mod Best
pub mod Room
pub mod Allowed
