pub mod Rows
pub mod RowText
