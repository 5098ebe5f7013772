pub mod Between
pub mod CoveredAt
pub mod CoveringShares
pub mod IdSets
pub mod Listed
pub mod Showing
pub mod TakenBack
pub mod Touched
