pub mod AddedWrapLemmas
pub mod DrawLemmas
pub mod OpeningLemmas
pub mod StretchingLemmas
pub mod TextLemmas
