pub mod Agreement
pub mod Images
pub mod Order
