pub mod Finest
pub mod Flood
pub mod Joined
