pub mod CacheLemmas
pub mod UserLemmas
pub mod PinLemmas
