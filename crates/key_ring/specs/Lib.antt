pub mod Holding
pub mod Kept
pub mod Modes
pub mod ModeUsers
pub mod KeptModes
pub mod Whole
