pub mod UnitLemmas
pub mod ContentsLemmas
pub mod WriteLemmas
pub mod ChainLemmas
pub mod ReadLemmas
