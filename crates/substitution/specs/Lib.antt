pub mod Images
pub mod Under
pub mod Objective
pub mod Covering
pub mod Part
pub mod Tables
pub mod Beyond
pub mod Cases
