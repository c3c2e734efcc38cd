pub mod Marks
pub mod Sides
pub mod Standing
pub mod Resting
pub mod Rests
pub mod Onlys
