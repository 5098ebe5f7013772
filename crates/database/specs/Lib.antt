pub mod Covered
pub mod Database
pub mod File
pub mod Touched
