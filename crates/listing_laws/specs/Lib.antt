pub mod PlacedNames
pub mod Expected
pub mod Laws
pub mod Nonces
pub mod Sizes
