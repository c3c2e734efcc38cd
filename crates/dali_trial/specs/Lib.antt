pub mod Tried
pub mod Course
pub use Rattle.dali_gen.specs.Day
pub use Rattle.dali_machine.specs.History
pub use Rattle.dali_summary.specs.Summary
