pub mod Keys
pub mod Bodies
pub mod Pending
pub mod Laws
