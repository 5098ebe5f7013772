pub mod Expressions
pub mod Forcing
pub mod Spots
pub mod LongerLines
pub mod Trails
