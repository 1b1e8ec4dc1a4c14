pub mod Names
pub mod HeldNames
pub mod NameChanges
pub mod Whole
