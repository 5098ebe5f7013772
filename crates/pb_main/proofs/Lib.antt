pub mod Accepting
pub mod BestSolutions
pub mod ConclusionsWritable
pub mod Outcomes
pub mod PiecesTaken
pub mod Ran
