pub mod Cbc
pub mod CbcStealing
pub mod Cts
pub mod Laws
