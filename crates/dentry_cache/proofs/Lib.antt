pub mod PairLemmas
pub mod NameLemmas
