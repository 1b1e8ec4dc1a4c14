pub mod Refusals
pub mod SameButRecords
