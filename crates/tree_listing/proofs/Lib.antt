pub mod EntryLemmas
pub mod DigestLemmas
pub mod Members
pub mod LeadLemmas
pub mod WalkLemmas
pub mod PlaceLemmas
pub mod ListLemmas
