pub mod Ids
pub mod Placed
pub mod PlacedRows
