pub mod BackLemmas
pub mod CallerLemmas
pub mod ListingLemmas
pub mod NextLemmas
