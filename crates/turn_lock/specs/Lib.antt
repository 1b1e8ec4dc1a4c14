pub mod Home
pub mod Passes
pub mod PassParts
pub mod Seats
pub mod Standing
pub mod Steps
pub mod Views
pub mod Turns
