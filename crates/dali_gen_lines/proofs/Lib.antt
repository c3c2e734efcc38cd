pub mod Plain
pub mod Texts
pub mod Cutting
pub mod Pieces
pub mod Opening
pub mod Groups
pub mod Days
