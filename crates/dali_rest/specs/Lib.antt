pub mod Sets
pub mod Addable
pub mod Swappable
pub mod Room
pub mod Swaps
pub mod Turns
