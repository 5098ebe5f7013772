pub mod Tables
pub mod NumbersOfNames
pub mod TermByTerm
pub mod SameTerm
mod ShortPlaces
mod SumsOnTheWay
mod LargeTerms
mod CutConstraints
