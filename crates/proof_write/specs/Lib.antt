pub mod Growth
pub mod Whole
pub mod Writing
