pub mod Logged
pub mod Packed
pub mod Table
