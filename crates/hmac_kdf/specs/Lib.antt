pub use Rattle.byte_words.specs.Xor
pub use Rattle.sha2.specs.Sha256
pub use Rattle.sha2.specs.Sha512
pub mod Hmac
pub mod Hkdf
pub mod Pads
pub mod DerivedBytes
