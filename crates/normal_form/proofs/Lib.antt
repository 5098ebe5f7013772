pub mod Sums
pub mod SumsByVariable
pub mod SetSums
pub mod OneList
pub mod FromBalance
pub mod BalancedList
pub mod NormalForm
pub mod SignChanges
pub mod Negations
pub mod Runs
mod LastVariable
pub mod SmallSizes
pub mod Reorder
pub mod Floors
pub mod FormDegrees
pub mod Coefficients
mod PlainTerms
