pub mod Best
pub mod Consistent
pub mod Packing
pub mod Tables
