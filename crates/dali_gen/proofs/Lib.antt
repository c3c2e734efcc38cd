pub mod Days
pub mod Drawing
pub mod Drawn
pub mod Prices
pub mod Texts
