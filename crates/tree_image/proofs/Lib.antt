pub mod ImageLemmas
pub mod LengthLemmas
pub mod OrderLemmas
pub mod TextLemmas
