pub use Rattle.byte_words.specs.Bytes
pub use Rattle.hmac_kdf.specs.Hmac
pub use Rattle.hmac_kdf.specs.Hkdf
pub mod Keys
pub mod Derivations
