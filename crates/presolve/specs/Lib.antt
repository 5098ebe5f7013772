pub mod Standing
pub mod Fixing
pub mod Uses
pub mod Cases
pub mod Swapping
pub mod Forms
pub mod Pairs
pub mod Weights
