pub mod Claims
pub mod ClaimCounts
pub mod Counted
