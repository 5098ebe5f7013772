pub mod Biting
pub mod Cases
pub mod Lines
pub mod Spots
pub mod Trails
