pub mod Choosing
pub mod Trying
pub mod Taking
pub mod Looping
