pub mod OpenFile
pub mod Seals
pub mod Pending
pub mod Writing
pub mod Needs
pub mod Opening
pub mod Closing
