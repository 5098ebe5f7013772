pub mod Deleting
pub mod Kept
pub mod Log
pub mod Named
