pub mod NameLemmas
pub mod Symbols
pub mod TextLemmas
pub mod ShownLemmas
