pub use Rattle.hmac_kdf.specs.Hmac
pub use Rattle.hmac_kdf.specs.Hkdf
pub mod CounterMode
pub mod Wrapping
pub mod Laws
