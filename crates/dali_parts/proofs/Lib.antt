pub mod Links
pub mod Flooding
pub mod Numbering
mod Spent
mod Joined
mod Steps
