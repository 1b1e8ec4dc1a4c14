pub mod Words
pub mod Constants
pub mod Mixing
pub mod Compression
pub mod Digest
pub mod Hasher
