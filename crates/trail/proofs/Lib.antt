pub mod AssignedLiterals
