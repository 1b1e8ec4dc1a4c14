pub mod Calls
pub mod Closing
pub mod Passing
pub mod Sharing
pub mod Shares
pub mod Starting
pub mod Views
