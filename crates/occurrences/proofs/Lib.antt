pub mod Rows
pub mod JoinedRows
pub mod Entering
