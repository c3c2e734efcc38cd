pub mod Bytes
pub mod Undo
pub mod Images
pub mod Moments
