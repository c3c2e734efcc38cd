pub mod Limits
pub mod Rows
pub mod Block
pub use Rattle.dali_tree.specs.Fits
pub use Rattle.dali_problem.specs.Clearing
