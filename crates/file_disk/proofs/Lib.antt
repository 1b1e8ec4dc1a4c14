pub mod DiskLemmas
pub mod BodyLemmas
pub mod CoverLemmas
pub mod WholeLemmas
pub mod ReadLemmas
