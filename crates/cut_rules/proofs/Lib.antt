pub mod Sum
pub mod MergeSteps
pub mod Changed
pub mod OneOperand
pub mod Meaning
pub mod InPlace
