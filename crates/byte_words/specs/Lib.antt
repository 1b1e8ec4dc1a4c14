pub mod Blocks
pub mod Bytes
pub mod Contents
pub mod Laws
pub mod Numbers
pub mod Tables
pub mod Words
pub mod Xor
