-- what the format says
pub mod Lines
-- what private functions keep and promise one another
pub mod LinesAhead
pub mod Buffered
