pub mod Taken
pub mod Turning
pub mod Settling
pub mod Starting
