pub mod NumberLemmas
pub mod LineLemmas
pub mod DigitLemmas
pub mod PieceLemmas
pub mod WordLemmas
pub mod LineFeedLemmas
