pub mod Fixed
pub mod Worth
