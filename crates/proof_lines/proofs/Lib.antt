pub mod LinesParted
pub mod LinesJoined
pub mod LinesBuffered
