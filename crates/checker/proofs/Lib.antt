mod ValueLine
pub mod Sections
pub mod OneWalk
pub mod WalkOfProof
pub mod ProofOfWalk
pub mod Walking
pub mod Claimed
pub mod NamesThere
pub mod OneProof
pub mod PrintedClaim
pub mod ProvedAccepted
pub mod Streaming
pub mod Placed
pub mod VerdictsSaid
