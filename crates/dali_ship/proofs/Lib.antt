pub mod Pieces
pub mod Sizes
pub mod Framing
pub mod Fronts
pub mod Shipping
