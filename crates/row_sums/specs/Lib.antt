pub mod Derived
pub mod Lines
