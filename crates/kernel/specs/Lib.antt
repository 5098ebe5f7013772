pub mod Accepted
pub mod Deletion
pub mod Derived
pub mod Held
pub mod Place
pub mod Redundance
