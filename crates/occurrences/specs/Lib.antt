pub mod Occurrences
pub mod Rows
