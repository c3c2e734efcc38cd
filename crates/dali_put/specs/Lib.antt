pub mod PutRun
pub use Rattle.dali_outside.specs.Outside
pub use Rattle.dali_outside.specs.Stops
