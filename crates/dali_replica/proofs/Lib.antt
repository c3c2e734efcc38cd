pub mod Blocks
pub mod Midways
pub mod Fronts
pub mod Framing
pub mod Judges
