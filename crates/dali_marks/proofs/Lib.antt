pub mod Covering
pub mod Exchanging
pub mod Trees
pub mod Summing
pub mod CycleLines
pub mod Marks
pub mod Histories
