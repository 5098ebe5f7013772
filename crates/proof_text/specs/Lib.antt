-- what the format says
pub mod Kinds
pub mod Words
pub mod Numbering
pub mod Forms
pub mod Rules
pub mod Steps
pub mod Conclusions
pub mod Frame
pub mod Spells
pub mod Sections
pub mod Faults
pub mod Writable
pub mod ProofSpells
-- the words of the worked cases
pub mod Cases
-- what private functions keep and promise one another
pub mod NamesMet
pub mod Next
pub mod PartsRead
pub mod PartsDenied
pub mod StepsRead
pub mod ConclusionsRead
