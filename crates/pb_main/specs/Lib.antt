pub mod Answer
pub mod Checked
pub mod Finding
pub mod Outcome
pub mod Pushed
pub mod Running
pub mod Solution
