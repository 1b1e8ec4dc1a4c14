pub mod Plain
pub mod NoKeyText
pub mod StoredName
pub mod Laws
