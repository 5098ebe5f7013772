pub mod Verdicts
pub mod Printed
pub mod Stopped
pub mod StopsBy
pub mod Walk
pub mod WalkOf
pub mod StreamStops
pub mod Streamed
