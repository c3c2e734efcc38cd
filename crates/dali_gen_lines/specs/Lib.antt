pub mod Plain
pub mod DayLines
pub use Rattle.dali_gen.specs.Day
