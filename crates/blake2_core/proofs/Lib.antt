pub mod Schedule
pub mod Rounds
pub mod Following
pub mod StandardFacts
