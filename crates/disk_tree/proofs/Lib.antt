pub mod EntryLemmas
pub mod ResultLemmas
pub mod NodeLemmas
pub mod ChangeLemmas
pub mod DiskLemmas
pub mod AgreeLemmas
pub mod IndexLemmas
