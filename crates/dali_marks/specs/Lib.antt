pub mod OwnLines
pub mod AreTrue
pub use Rattle.dali_machine.specs.Cycles
pub use Rattle.dali_machine.specs.History
