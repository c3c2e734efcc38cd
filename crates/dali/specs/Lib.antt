pub mod Calls
pub use Rattle.dali_desk.specs.StatusLine
pub use Rattle.dali_desk.specs.Words
