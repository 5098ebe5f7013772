pub mod Advice
pub mod Judging
pub mod Standing
