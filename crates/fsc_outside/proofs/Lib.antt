pub mod ReadLemmas
pub mod SourceLemmas
pub mod WholeLemmas
