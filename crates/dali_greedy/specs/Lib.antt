pub mod Grown
pub mod Standing
pub mod Order
pub mod Ground
