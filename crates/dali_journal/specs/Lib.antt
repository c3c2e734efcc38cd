pub mod Limits
pub mod Holds
pub mod JournalAt
pub mod Frames
pub mod Appends
pub mod GroupText
pub use Rattle.dali_outside.specs.Outside
pub use Rattle.dali_outside.specs.Stops
