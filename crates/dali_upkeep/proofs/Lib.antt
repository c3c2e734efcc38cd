pub mod Putting
pub mod Recovering
pub mod Exporting
pub mod Editing
pub mod Raising
