pub mod Tree
pub mod Fits
pub mod Range
pub mod Ends
