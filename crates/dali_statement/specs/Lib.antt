pub mod Export
pub mod Ready
pub use Rattle.dali_waiting.specs.Rows
pub use Rattle.dali_waiting.specs.RowText
