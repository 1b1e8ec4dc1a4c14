pub mod NameLemmas
pub mod ShownLemmas
pub mod SaidLemmas
