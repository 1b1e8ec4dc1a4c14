pub mod Units
pub mod Blocks
pub mod Ciphers
pub mod Parts
pub mod BlockLaws
pub mod Laws
