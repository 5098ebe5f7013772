pub mod Terms
pub mod Normal
pub mod NormalOf
pub mod Negation
pub mod Balance
pub mod Plain
pub mod Cases
pub mod Codes
